use Rattle.nest_memory.specs.TypeOf.{type_of}
use Rattle.nest_memory.specs.TypeTree.{value_type}
use Rattle.nest_model.specs.BuilderTree.{builder_type}
use Rattle.nest_any.specs.Trees.{tree_of}
use Rattle.nest_any.proofs.FlatKinds.{logically-flat}
use Rattle.nest_any.proofs.dictionary.AnyMutableDictionary.try_new.Goals as goal

pub returns-in-None-clause-cause : goal.returns-in-None-clause-cause
returns-in-None-clause-cause c =
    let fits = c.in_default.ensures in
    absurd (logically-flat (value_type (type_of c.args.data_type)) (builder_type (tree_of c.args.child)) fits.0 fits.1.1.0 c.in-None.ensures)
