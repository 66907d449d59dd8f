use Rattle.std.proofs.Common.{ap, sym, arith}
use Rattle.nest_model.specs.BuilderTree.{builder_len}
use Rattle.nest_build.proofs.Dictionaries.{key_below}
use Rattle.nest_build.proofs.dictionary.mutable.MutableDictionaryArrayMutableArray.holds.Goals as goal

pub holds-requires : goal.holds-requires
holds-requires g c =
    let old = c.args.self.now in
    let child = g.M.MutableArray.model old.values.values in
    let below = key_below g.K.DictionaryKey.KEY_TYPE old.data_type old.rows child old.covered c.args.i c.requires c.in-Some.number (sym c.in-Some.ensures) in
    let same = ap builder_len c.get.ensures in
    omega (arith, below, same)
