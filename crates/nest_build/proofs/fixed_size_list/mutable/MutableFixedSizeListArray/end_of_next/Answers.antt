use Rattle.std.proofs.Common.{◌+◌, arith, length}
use Rattle.nest_memory.specs.TypeTree.{size_of}
use Rattle.nest_build.proofs.FixedLists.{mul-above}
use Rattle.nest_build.proofs.fixed_size_list.mutable.MutableFixedSizeListArray.end_of_next.Goals as goal

pub returns-in-None : goal.returns-in-None
returns-in-None g c =
    let b = c.args.self.now in
    let m = mul-above (length b.rows + 1) (size_of b.data_type) (omega (arith, c.size-size.ensures.some, c.size-size.ensures.value)) in
    omega (arith, m, c.in-None.ensures, c.len.ensures)
