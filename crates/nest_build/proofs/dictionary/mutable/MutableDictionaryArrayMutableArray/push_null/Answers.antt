use Rattle.nest_model.specs.BuilderAppendLaws.{dictionary_null_accepted}
use Rattle.nest_build.proofs.Dictionaries.{covered_null}
use Rattle.nest_build.proofs.dictionary.mutable.MutableDictionaryArrayMutableArray.push_null.Goals as goal

pub invariant_of-self : goal.invariant_of-self
invariant_of-self g c =
    let old = c.args.self.now in
    record {
      covered = covered_null c.push.result old.rows c.push.new.self _ c.push.ensures.ok c.push.ensures.err old.covered;
      fits = old.fits;
    }

pub returns-clause-accepted : goal.returns-clause-accepted
returns-clause-accepted g c =
    let old = c.args.self.now in
    dictionary_null_accepted g.K.DictionaryKey.KEY_TYPE old.data_type old.rows c.push.new.self (g.M.MutableArray.model old.values.values) c.in_default.ensures.ok c.requires
