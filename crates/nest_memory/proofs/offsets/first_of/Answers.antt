use Rattle.std.proofs.Common.{arith}
use Rattle.nest_memory.proofs.Rises.{offsets_some}
use Rattle.nest_memory.proofs.OffsetReads.{read_plain, read_number}
use Rattle.nest_memory.proofs.offsets.first_of.Goals as goal

pub bounds-offsets-0 : goal.bounds-offsets-0
bounds-offsets-0 g c = omega (arith, offsets_some g.O.Offset.value c.args.offsets.now c.requires)

pub to_usize-requires : goal.to_usize-requires
to_usize-requires g c =
    let some = offsets_some g.O.Offset.value c.args.offsets.now c.requires in
    read_plain g.O.Offset.value c.args.offsets.now 0 _ c.requires (omega arith) c.index-offsets-0.is

pub returns : goal.returns
returns g c =
    let some = offsets_some g.O.Offset.value c.args.offsets.now c.requires in
    read_number g.O.Offset.value c.args.offsets.now 0 _ _ (omega arith) c.index-offsets-0.is c.to_usize.ensures.value
