use Rattle.std.proofs.Common.{refl}
use Rattle.nest_memory.specs.TypeOf.{type_of}
use Rattle.nest_concat.proofs.Wholes.{type-more, types-all}
use Rattle.nest_concat.proofs.arrays.have_type.Goals as goal

pub loop-array-preserved : goal.loop-array-preserved
loop-array-preserved c =
    type-more (type_of c.args.data_type.now) c.args.arrays.now c.loop-array.array-index c.array-item.result c.loop-array-test.true c.array-item.is c.loop-array.invariant (c.has_type.ensures.0 c.if-not-has_type.false)

pub returns : goal.returns
returns c =
    let g = types-all (type_of c.args.data_type.now) c.args.arrays.now c.loop-array.array-index c.loop-array-test.false c.loop-array.invariant in
    (λ _. g, λ _. refl)
