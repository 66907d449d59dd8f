use Rattle.std.proofs.Common.{◌≡◌, ◌∷◌, [], ◌++◌, ◌∙◌, ap, sym}
use Rattle.std.specs.Prelude.{Some}
use Rattle.nest_flat.specs.Plain.{plain_value}
use Rattle.nest_model.specs.BuilderTree.{builder_len}
use Rattle.nest_build.proofs.Keyed.{plain_taken}
use Rattle.nest_build.proofs.Dictionaries.{covered_new, fits_new, new_unrefused, took}
use Rattle.nest_build.proofs.dictionary.mutable.MutableDictionaryArray.push_new.Goals as goal

pub invariant_of-self-in-Ok : goal.invariant_of-self-in-Ok
invariant_of-self-in-Ok g c =
    let old = c.args.self.now in
    let child = g.M.MutableArray.model old.values.values in
    let new = g.M.MutableArray.model c.push.new.self.values in
    let v = plain_value c.args.value.now in
    let count = c.len-number.ensures ∙ ap builder_len c.get.ensures in
    record {
      covered = covered_new old.rows c.push-2.new.self v child new c.len-number.result c.in_default.ensures.accepted c.in-Ok.ensures.ok count old.covered;
      fits = fits_new v child new _ c.in_default.ensures.accepted c.requires.room;
    }

pub returns-in-Ok-clause-accepted : goal.returns-in-Ok-clause-accepted
returns-in-Ok-clause-accepted g c =
    let old = c.args.self.now in
    let child = g.M.MutableArray.model old.values.values in
    let v = plain_value c.args.value.now in
    let count = c.len-number.ensures ∙ ap builder_len c.get.ensures in
    took g.K.DictionaryKey.KEY_TYPE old.data_type old.rows child v (g.M.MutableArray.model c.push.new.self.values) c.push-2.new.self (plain_taken v child c.in_default.ensures.unrefused) c.requires.unknown
    (c.in-Ok.ensures.ok ∙ ap (λ n. old.rows ++ Some n ∷ []) count) c.requires.complete c.in_default.ensures.accepted

pub returns-in-Ok-clause-unrefused : goal.returns-in-Ok-clause-unrefused
returns-in-Ok-clause-unrefused g c =
    let old = c.args.self.now in
    new_unrefused g.K.DictionaryKey.KEY_TYPE old.data_type old.rows (g.M.MutableArray.model old.values.values) (plain_value c.args.value.now) c.requires.unknown c.requires.room c.in_default.ensures.unrefused c.in-Ok.ensures.within
