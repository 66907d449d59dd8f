use Rattle.std.proofs.Common.{◌∙◌, map}
use Rattle.nest_array.specs.Seen.{layout_of}
use Rattle.nest_concat.proofs.Placed.{interleave-refused, interleaved, some-arrays}
use Rattle.nest_concat.proofs.mixed.interleave.Goals as goal

pub returns-clause-ok : goal.returns-clause-ok
returns-clause-ok c =
    let as_ = map layout_of c.args.arrays.now in
    interleaved c.join.result as_ c.args.indices.now c.deref.result.now (c.deref.ensures.value ∙ c.in_ok-windows.ensures.ok) (some-arrays as_ (c.are_of_one_type.ensures.0 c.if-not-are_of_one_type.false)) c.requires c.join.ensures.ok

pub returns-clause-err : goal.returns-clause-err
returns-clause-err c = interleave-refused c.join.result (map layout_of c.args.arrays.now) c.args.indices.now c.deref.result.now (c.deref.ensures.value ∙ c.in_ok-windows.ensures.ok) c.join.ensures.err
