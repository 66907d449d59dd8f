use Rattle.nest_build.proofs.dictionary.mutable.MutableDictionaryArray.keys.Goals as goal

pub returns-clause-spelled : goal.returns-clause-spelled
returns-clause-spelled g c = c.keys.ensures.spelled

pub returns-clause-bare : goal.returns-clause-bare
returns-clause-bare g c = c.keys.ensures.bare
