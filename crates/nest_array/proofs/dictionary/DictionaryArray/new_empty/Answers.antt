use Rattle.std.proofs.lemmas.Result.{MatchResult-weaker}
use Rattle.nest_memory.specs.TypeOf.{type_of}
use Rattle.nest_model.specs.MadeNullLaws.{has-none}
use Rattle.nest_array.proofs.dictionary.DictionaryArray.new_empty.Goals as goal

pub returns : goal.returns
returns c = MatchResult-weaker c.checked.result c.checked.ensures (λ a h. (h.0, h.1, has-none (type_of c.args.data_type) _ h.1 h.2)) (λ e h. h)
