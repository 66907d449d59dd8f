use Rattle.std.proofs.Common.{refl}
use Rattle.std.proofs.lemmas.Result.{MatchResult-weaker}
use Rattle.nest_memory.specs.TypeOf.{type_of}
use Rattle.nest_model.specs.MadeNullLaws.{native-none}
use Rattle.nest_flat.proofs.primitive.PrimitiveArray.new_empty.Goals as goal

pub returns : goal.returns
returns g c = MatchResult-weaker c.checked.result c.checked.ensures (λ a h. ((h.0, refl), native-none g.T.NativeType.PRIMITIVE (type_of c.args.data_type) a h.0 h.1)) (λ e h. h)
