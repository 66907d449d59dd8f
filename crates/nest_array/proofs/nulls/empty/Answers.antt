use Rattle.std.proofs.lemmas.Result.{MatchResult-weaker}
use Rattle.nest_memory.specs.TypeOf.{type_of}
use Rattle.nest_model.specs.MadeNullLaws.{has-none}
use Rattle.nest_array.proofs.nulls.empty.Goals as goal

pub returns : goal.returns
returns g c = MatchResult-weaker c.checked_kind.result c.checked_kind.ensures (λ a h. (h.0, has-none (type_of c.args.data_type) _ h.0.1 h.1)) (λ e h. h)
