-- Columns as arrays of records.
use Rattle.std.specs.Prelude.{List, [], ◌∷◌, map, None}
use Rattle.nest_memory.specs.TypeOf.{field_trees}
use Rattle.nest_memory.specs.TypeTree as types
use Rattle.nest_memory.specs.TypeTree.{FieldTree, TypeTree}
use Rattle.nest_model.specs.Layout as layouts
use Rattle.nest_model.specs.Layout.{Layout, Layouts, no_layouts, more_layouts}
use Rattle.nest_array.specs.Seen.{layout_of}
use Rattle.nest_array.specs.declared.any.AnyArray.{AnyArray}

-- the columns side by side
abbrev pub side_by_side : List Layout → Layouts
side_by_side [] = no_layouts
side_by_side (a ∷ as_) = more_layouts a (side_by_side as_)

-- a record batch as one array of records
abbrev pub records : TypeTree → List Layout → Layout
records t columns = layouts.struct t (side_by_side columns) None

-- the data type of a row: a struct of the fields
abbrev pub record_type : List FieldTree → TypeTree
record_type fields = types.struct (field_trees fields)

-- the layouts of columns
abbrev pub column_layouts : List AnyArray → List Layout
column_layouts columns = map layout_of columns
