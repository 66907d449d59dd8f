use Rattle.std.proofs.Common.{◌≡◌, ◌*◌, arith, length, refl}
use Rattle.nest_memory.specs.TypeTree.{size_of}
use Rattle.nest_build.proofs.fixed_size_list.mutable.MutableFixedSizeListArrayMutableArray.is_complete.Goals as goal

pub returns-in-None : goal.returns-in-None
returns-in-None g c =
    let b = c.args.self.now in
    let e : c.len.result * c.size-size.result ≡ length b.rows * size_of b.data_type = rw (c.len.ensures, c.size-size.ensures.value) refl in
    (λ f. absurd (let q = f in cc), λ w. absurd (omega (arith, e, w.2, c.in-None.ensures, c.len-items.ensures, c.len-items.type_inv)))
