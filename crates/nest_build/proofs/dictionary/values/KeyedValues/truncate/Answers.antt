use Rattle.std.proofs.Common.{subst, sym}
use Rattle.nest_build.specs.Keyed.{AreKeyed}
use Rattle.nest_build.proofs.Keyed.{keyed_take}
use Rattle.nest_build.proofs.dictionary.values.KeyedValues.truncate.Goals as goal

pub invariant_of-self : goal.invariant_of-self
invariant_of-self g c =
    let old = c.args.self.now in
    let new = g.M.MutableArray.model c.truncate-2.new.self in
    record {
      keyed = subst (λ hashes. AreKeyed hashes new) (sym c.truncate.ensures) (keyed_take old.table (g.M.MutableArray.model old.values) new c.args.n c.requires.complete c.requires.within old.keyed c.truncate-2.ensures);
    }
