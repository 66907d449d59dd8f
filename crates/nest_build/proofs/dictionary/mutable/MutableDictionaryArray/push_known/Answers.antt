use Rattle.nest_flat.specs.Plain.{plain_value}
use Rattle.nest_build.proofs.Dictionaries.{covered_push, known_unrefused, knew, place_only}
use Rattle.nest_build.proofs.dictionary.mutable.MutableDictionaryArray.push_known.Goals as goal

pub invariant_of-self : goal.invariant_of-self
invariant_of-self g c =
    let old = c.args.self.now in
    record {
      covered = covered_push c.push.result old.rows c.push.new.self c.args.number _ c.push.ensures.ok c.push.ensures.err old.covered c.requires.known.0;
      fits = old.fits;
    }

pub returns-clause-accepted : goal.returns-clause-accepted
returns-clause-accepted g c =
    let old = c.args.self.now in
    let child = g.M.MutableArray.model old.values.values in
    let v = plain_value c.args._value.now in
    knew g.K.DictionaryKey.KEY_TYPE old.data_type old.rows child v c.args.number c.push.new.self (place_only child v c.args.number c.requires.known old.values.keyed.2) c.in_default.ensures.ok c.requires.complete

pub returns-clause-unrefused : goal.returns-clause-unrefused
returns-clause-unrefused g c =
    let old = c.args.self.now in
    known_unrefused g.K.DictionaryKey.KEY_TYPE old.data_type old.rows (g.M.MutableArray.model old.values.values) (plain_value c.args._value.now) c.args.number c.requires.known c.in_default.ensures.within
