use Rattle.std.proofs.Common.{refl}
use Rattle.std.proofs.lemmas.Result.{MatchResult-weaker}
use Rattle.nest_memory.specs.TypeOf.{type_of}
use Rattle.nest_model.specs.MadeNullLaws.{native-nulls}
use Rattle.nest_flat.proofs.primitive.PrimitiveArray.new_null.Goals as goal

pub returns : goal.returns
returns g c = MatchResult-weaker c.checked.result c.checked.ensures (λ a h. ((h.0, refl), native-nulls g.T.NativeType.PRIMITIVE (type_of c.args.data_type) c.args.length a h.0 h.1)) (λ e h. h)
