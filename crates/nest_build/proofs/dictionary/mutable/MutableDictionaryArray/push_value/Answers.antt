use Rattle.std.proofs.Common.{inr}
use Rattle.nest_flat.specs.Plain.{plain_value}
use Rattle.nest_build.proofs.FlatTrees.{on_err_so}
use Rattle.nest_build.proofs.Dictionaries.{full_refused, is_less, new_cause, not_less}
use Rattle.nest_build.proofs.dictionary.mutable.MutableDictionaryArray.push_value.Goals as goal

pub returns-then-not-has_key-clause-cause : goal.returns-then-not-has_key-clause-cause
returns-then-not-has_key-clause-cause g c =
    let old = c.args.self.now in
    inr (full_refused g.K.DictionaryKey.KEY_TYPE old.data_type old.rows (g.M.MutableArray.model old.values.values) (plain_value c.args.value.now) c.in-None.ensures (not_less c.has_key.result _ _ c.if-not-has_key.true c.has_key.ensures))

pub returns-else-not-has_key-clause-cause : goal.returns-else-not-has_key-clause-cause
returns-else-not-has_key-clause-cause g c =
    let old = c.args.self.now in
    on_err_so c.push_new.result
    (λ e. new_cause g.K.DictionaryKey.KEY_TYPE old.data_type old.rows (g.M.MutableArray.model old.values.values) (plain_value c.args.value.now) e c.in-None.ensures (is_less c.has_key.result _ _ c.if-not-has_key.false c.has_key.ensures))
    c.push_new.ensures.cause
