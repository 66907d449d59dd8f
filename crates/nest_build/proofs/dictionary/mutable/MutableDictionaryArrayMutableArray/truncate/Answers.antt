use Rattle.std.proofs.Common.{◌≤◌, ap, arith}
use Rattle.nest_model.specs.BuilderRow.{values_needed}
use Rattle.nest_model.specs.BuilderRowLaws.{values_needed-front}
use Rattle.nest_model.specs.BuilderTree.{builder_len}
use Rattle.nest_build.proofs.Dictionaries.{slice_len}
use Rattle.nest_build.proofs.dictionary.mutable.MutableDictionaryArrayMutableArray.truncate.Goals as goal

pub truncate-requires-2-clause-within : goal.truncate-requires-2-clause-within
truncate-requires-2-clause-within g c =
    let front = values_needed-front c.args.self.now.rows c.args.n in
    let same = ap values_needed c.truncate.ensures in
    omega (arith, front, same, c.args.self.now.covered)

pub invariant_of-self : goal.invariant_of-self
invariant_of-self g c =
    let old = c.args.self.now in
    let child = g.M.MutableArray.model old.values.values in
    let front = values_needed-front old.rows c.args.n in
    let same = ap values_needed c.truncate.ensures in
    let within : c.needed-needed.result ≤ builder_len child = omega (arith, front, same, old.covered) in
    let n = slice_len child (g.M.MutableArray.model c.truncate-2.new.self.values) c.needed-needed.result within c.truncate-2.ensures in
    record {
      covered = omega (arith, n, c.needed-needed.ensures);
      fits = omega (arith, n, within, old.fits);
    }
