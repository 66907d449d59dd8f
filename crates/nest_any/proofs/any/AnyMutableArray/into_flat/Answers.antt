use Rattle.std.proofs.Common.{ap}
use Rattle.nest_model.specs.BuilderTree.{builder_type}
use Rattle.nest_any.specs.Dictionaries.{dictionary_tree}
use Rattle.nest_any.specs.Trees.{tree_of}
use Rattle.nest_any.proofs.FlatKinds.{keyed-not_flat}
use Rattle.nest_any.proofs.any.AnyMutableArray.into_flat.Goals as goal

pub returns-in-Dictionary : goal.returns-in-Dictionary
returns-in-Dictionary c = rw (ap tree_of c.in-Dictionary.is) (keyed-not_flat (builder_type (dictionary_tree c.in-Dictionary.keyed)) c.known-in-Dictionary.ensures)
