use Rattle.std.proofs.Common.{subst}
use Rattle.nest_model.specs.BuilderFreeze.{EncodesKeys}
use Rattle.nest_build.proofs.Keys.{bare_none, spells}
use Rattle.nest_build.proofs.dictionary.rows.DictionaryRows.keys.Goals as goal

pub returns-clause-spelled : goal.returns-clause-spelled
returns-clause-spelled g c =
    let a = c.self.inside.keys in
    subst (λ keys. EncodesKeys a keys) c.self.view_is (spells a _ _ _ _ c.known.ensures.kind)

pub returns-clause-bare : goal.returns-clause-bare
returns-clause-bare g c = bare_none c.self.inside.keys _ c.self.view_is c.self.invariant.bare
