use Rattle.nest_flat.specs.Plain.{plain_value}
use Rattle.nest_model.specs.BuilderTree.{dictionary}
use Rattle.nest_build.proofs.FlatTrees.{on_err_so}
use Rattle.nest_build.proofs.Dictionaries.{is_less, kind_cause, on_ok_so, plain_none}
use Rattle.nest_build.proofs.dictionary.mutable.MutableDictionaryArray.push_kind.Goals as goal

pub returns-else-not-has_key-clause-unrefused : goal.returns-else-not-has_key-clause-unrefused
returns-else-not-has_key-clause-unrefused g c =
    let old = c.args.self.now in
    on_ok_so c.push_new.result (plain_none (plain_value c.args.value.now) (dictionary g.K.DictionaryKey.KEY_TYPE old.data_type old.rows (g.M.MutableArray.model old.values.values))) c.push_new.ensures.unrefused

pub returns-else-not-has_key-clause-cause : goal.returns-else-not-has_key-clause-cause
returns-else-not-has_key-clause-cause g c =
    let old = c.args.self.now in
    on_err_so c.push_new.result
    (λ e. kind_cause g.K.DictionaryKey.KEY_TYPE old.data_type old.rows (g.M.MutableArray.model old.values.values) (plain_value c.args.value.now) e c.in-None.ensures (is_less c.has_key.result _ _ c.if-not-has_key.false c.has_key.ensures))
    c.push_new.ensures.cause
