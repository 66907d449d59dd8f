use Rattle.std.proofs.Common.{inl}
use Rattle.nest_memory.specs.TypeOf.{type_of}
use Rattle.nest_array.proofs.NullErrors.{kind-first_error, at-none, at-some}
use Rattle.nest_array.proofs.nulls.first_error.kind_error.Goals as goal

pub returns-in-Some : goal.returns-in-Some
returns-in-Some c = inl (at-some c.kind_refusal.result c.in-Some.error _ _ c.in-Some.is c.kind_refusal.ensures)

pub returns-in-None : goal.returns-in-None
returns-in-None c =
    let k = at-none c.kind_refusal.result _ _ c.in-None.is c.kind_refusal.ensures in
    kind-first_error c.args.kind (type_of c.args.data_type.now) _ c.first_error.result k c.first_error.ensures
