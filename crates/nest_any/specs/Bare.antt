-- A builder of any kind without a validity. A dictionary, list or struct builder has none if it has no rows.
use Rattle.std.specs.Prelude.{◌≡◌, [], None}
use Rattle.nest_any.specs.declared.any.AnyMutableArray.{AnyMutableArray}
use Rattle.nest_any.specs.declared.any.AnyMutableArray.TheVariants.{Flat, Dictionary}
use Rattle.nest_any.specs.Dictionaries.{keyed_rows}
use Rattle.nest_any.specs.Flat.{flat_layout}
use Rattle.nest_any.specs.Trees.{tree_of}
use Rattle.nest_model.specs.Accessors.{validity_of}
use Rattle.nest_model.specs.BuilderTree.{builder_len}

abbrev pub IsBare : AnyMutableArray → Type 0
IsBare (Flat b) = validity_of (flat_layout b) ≡ None
IsBare (Dictionary b) = keyed_rows b ≡ []
IsBare b = builder_len (tree_of b) ≡ 0
