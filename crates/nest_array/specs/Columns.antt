-- The struct array of named columns, and the checks of its parts: "Struct Layout" of the Arrow columnar format,
-- `Field` and `Struct_` of its `Schema.fbs`.
use Rattle.std.specs.Prelude.{◌≡◌, ◌⊎◌, ◌<◌, true, List, [], ◌∷◌, length, alloc_error, None}
use Rattle.nest_memory.specs.TypeTree as types
use Rattle.nest_memory.specs.TypeTree.{FieldTrees, Letters, TypeTree, field, more_fields, no_fields}
use Rattle.nest_memory.specs.declared.error.Error.{Error}
use Rattle.nest_memory.specs.declared.error.Error.TheVariants.{Memory, OutOfSpec}
use Rattle.nest_memory.specs.declared.error.SpecError.TheVariants as spec
use Rattle.nest_model.specs.Checks.{Checks, FailFirst, Pass, check, done}
use Rattle.nest_model.specs.Fits.{EachLen}
use Rattle.nest_model.specs.Layout as layouts
use Rattle.nest_model.specs.Layout.{Layout, Layouts, count_layouts, layout_type, more_layouts, no_layouts}
use Rattle.nest_model.specs.Meaning.{first_len}

-- `Field` of `Schema.fbs`: for each column a nullable field with its name and its data type, without metadata.
abbrev pub column_fields : List Letters → Layouts → FieldTrees
column_fields [] cs = no_fields
column_fields (n ∷ ns) no_layouts = no_fields
column_fields (n ∷ ns) (more_layouts c cs) = more_fields (field n (layout_type c) true []) (column_fields ns cs)

-- `Struct_` of `Schema.fbs`: the data type of structs of these columns.
abbrev pub columns_type : List Letters → Layouts → TypeTree
columns_type ns cs = types.struct (column_fields ns cs)

-- "Struct Layout": the array whose children are these columns, without validity.
abbrev pub columns_struct : List Letters → Layouts → Layout
columns_struct ns cs = layouts.struct (columns_type ns cs) cs None

-- "Struct Layout": one name for each column, at least one column, and columns of one length.
abbrev pub columns_checks : List Letters → Layouts → Checks
columns_checks ns cs =
    check (OutOfSpec spec.FieldCount) (length ns ≡ count_layouts cs)
    (check (OutOfSpec spec.NoFields) (0 < count_layouts cs)
    (check (OutOfSpec spec.ChildLength) (EachLen cs (first_len cs)) done))

-- "Struct Layout": the names and the columns pass every check.
abbrev pub ColumnsFit : List Letters → Layouts → Type 0
ColumnsFit ns cs = Pass (columns_checks ns cs)

-- The first check that fails has this error (this library's own).
abbrev pub ColumnsError : Error → List Letters → Layouts → Type 0
ColumnsError e ns cs = FailFirst e (columns_checks ns cs)

-- The first check that fails has this error, or all pass and an allocation fails (this library's own).
abbrev pub RefusesColumns : Error → List Letters → Layouts → Type 0
RefusesColumns e ns cs = ColumnsError e ns cs ⊎ ((e ≡ Memory alloc_error) × ColumnsFit ns cs)
