use Rattle.std.proofs.lemmas.Result.{MatchResult-weaker}
use Rattle.nest_memory.specs.TypeOf.{type_of}
use Rattle.nest_model.specs.MadeNullLaws.{has-none}
use Rattle.nest_flat.proofs.binary.BinaryArray.new_empty.Goals as goal

pub returns : goal.returns
returns g c = MatchResult-weaker c.checked.result c.checked.ensures (λ a h. (h.0, has-none (type_of c.args.data_type) a h.0.1 h.1)) (λ e h. h)
