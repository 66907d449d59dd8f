use Rattle.std.specs.Prelude.{option_map}
use Rattle.nest_build.proofs.Dictionaries.{encoded_rows}
use Rattle.nest_build.proofs.dictionary.mutable.MutableDictionaryArrayMutableArray.validity.Goals as goal

pub returns-clause-nulls : goal.returns-clause-nulls
returns-clause-nulls g c =
    let old = c.args.self.now in
    encoded_rows g.K.DictionaryKey.KEY_TYPE old.data_type old.rows (g.M.MutableArray.model old.values.values) (option_map (λ b. b.now) c.validity.result) old.values.keyed.3 old.covered c.validity.ensures.bits
