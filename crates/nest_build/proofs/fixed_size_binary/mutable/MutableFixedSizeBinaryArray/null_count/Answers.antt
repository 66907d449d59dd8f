use Rattle.std.proofs.Common.{◌∙◌}
use Rattle.nest_build.proofs.FixedTrees.{fixed-no_nulls, fixed-nulls}
use Rattle.nest_build.proofs.fixed_size_binary.mutable.MutableFixedSizeBinaryArray.null_count.Goals as goal

pub returns-in-None : goal.returns-in-None
returns-in-None c = fixed-no_nulls c.args.self.now c.known.ensures.kind c.in-None.ensures

pub returns-in-Some : goal.returns-in-Some
returns-in-Some c = c.unset_bits.ensures ∙ fixed-nulls c.args.self.now _ c.known.ensures.fits c.known.ensures.kind c.in-Some.ensures
