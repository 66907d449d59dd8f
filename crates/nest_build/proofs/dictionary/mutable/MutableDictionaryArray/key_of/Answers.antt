use Rattle.std.proofs.Common.{refl, subst}
use Rattle.nest_model.specs.BuilderItem.{Lacks}
use Rattle.nest_build.proofs.Dictionaries.{not_lacking}
use Rattle.nest_build.proofs.dictionary.mutable.MutableDictionaryArray.key_of.Goals as goal

pub returns-in-Some-clause-absent : goal.returns-in-Some-clause-absent
returns-in-Some-clause-absent g c =
    let b = c.args.self.now in
    not_lacking c.from_index.result _ c.in-Some.number _ (g.M.MutableArray.model b.values.values) _ _ c.from_index.ensures c.in-Some.ensures c.as_plain-value.ensures b.fits

pub returns-in-None-clause-absent : goal.returns-in-None-clause-absent
returns-in-None-clause-absent g c = (λ h. subst (Lacks (g.M.MutableArray.model c.args.self.now.values.values)) c.as_plain-value.ensures c.in-None.ensures, λ h. refl)
