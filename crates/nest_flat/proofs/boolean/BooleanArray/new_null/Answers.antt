use Rattle.std.proofs.Common.{refl}
use Rattle.std.proofs.lemmas.Result.{MatchResult-weaker}
use Rattle.nest_memory.specs.TypeOf.{type_of}
use Rattle.nest_model.specs.declared.fill.Fill.TheVariants.{Nulls}
use Rattle.nest_model.specs.MadeNullLaws.{boolean-first_error, has-nulls}
use Rattle.nest_flat.proofs.boolean.BooleanArray.new_null.Goals as goal

pub returns : goal.returns
returns c = MatchResult-weaker c.checked.result c.checked.ensures (λ a h. ((h.0, refl), has-nulls (type_of c.args.data_type) c.args.length a (boolean-first_error (type_of c.args.data_type) c.args.length Nulls h.0) h.1)) (λ e h. h)
