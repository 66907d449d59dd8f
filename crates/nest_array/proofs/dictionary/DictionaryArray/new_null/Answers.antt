use Rattle.std.proofs.lemmas.Result.{MatchResult-weaker}
use Rattle.nest_memory.specs.TypeOf.{type_of}
use Rattle.nest_model.specs.MadeNullLaws.{has-nulls}
use Rattle.nest_array.proofs.dictionary.DictionaryArray.new_null.Goals as goal

pub returns : goal.returns
returns c = MatchResult-weaker c.checked.result c.checked.ensures (λ a h. (h.0, h.1, has-nulls (type_of c.args.data_type) c.args.length _ h.1 h.2)) (λ e h. h)
