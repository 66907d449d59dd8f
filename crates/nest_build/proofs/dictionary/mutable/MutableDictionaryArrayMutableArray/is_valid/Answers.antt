use Rattle.nest_build.proofs.Dictionaries.{row_valid}
use Rattle.nest_build.proofs.dictionary.mutable.MutableDictionaryArrayMutableArray.is_valid.Goals as goal

pub returns : goal.returns
returns g c =
    let old = c.args.self.now in
    row_valid g.K.DictionaryKey.KEY_TYPE old.data_type old.rows (g.M.MutableArray.model old.values.values) c.args.i c.is_valid.result old.values.keyed.3 old.covered c.requires c.is_valid.ensures
