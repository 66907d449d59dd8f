-- The schema and the record batch of named columns, and the checks of them: `Schema.fbs` and `Message.fbs` of the Arrow columnar format.
use Rattle.std.specs.Prelude.{◌≡◌, ◌⊎◌, List, [], ◌∷◌, length, alloc_error}
use Rattle.nest_memory.specs.TypeTree.{Letters}
use Rattle.nest_memory.specs.declared.error.Error.{Error}
use Rattle.nest_memory.specs.declared.error.Error.TheVariants.{Memory, OutOfSpec}
use Rattle.nest_memory.specs.declared.error.SpecError.TheVariants as spec
use Rattle.nest_model.specs.Checks.{Checks, FailFirst, Pass, check, done}
use Rattle.nest_model.specs.Fits.{EachLen}
use Rattle.nest_model.specs.Layout.{Layout, Layouts, count_layouts, more_layouts, no_layouts}
use Rattle.nest_model.specs.Meaning.{first_len}
use Rattle.nest_array.specs.Columns.{column_fields}
use Rattle.ipc_schema.specs.Schemas.{SchemaModel}
use Rattle.ipc_schema.specs.Types.{field_list}
use Rattle.ipc.specs.Streams.{RecordBatchTree}

-- `Schema` of `Schema.fbs`: for each column a nullable field with its name and its data type, without metadata.
abbrev pub columns_schema : List Letters → Layouts → SchemaModel
columns_schema ns cs = record { fields = field_list (column_fields ns cs); metadata = [] }

-- the columns as a list
abbrev pub layout_list : Layouts → List Layout
layout_list no_layouts = []
layout_list (more_layouts c cs) = c ∷ layout_list cs

-- `RecordBatch` of `Message.fbs`: as many rows as each column has slots. Without columns there are none.
abbrev pub columns_batch : Layouts → RecordBatchTree
columns_batch cs = record { rows = first_len cs; columns = layout_list cs }

-- `RecordBatch` of `Message.fbs`: one name for each column, and columns of one length.
abbrev pub batch_checks : List Letters → Layouts → Checks
batch_checks ns cs =
    check (OutOfSpec spec.FieldCount) (length ns ≡ count_layouts cs)
    (check (OutOfSpec spec.ChildLength) (EachLen cs (first_len cs)) done)

-- The names and the columns pass every check (this library's own).
abbrev pub BatchFits : List Letters → Layouts → Type 0
BatchFits ns cs = Pass (batch_checks ns cs)

-- The first check that fails has this error (this library's own).
abbrev pub BatchError : Error → List Letters → Layouts → Type 0
BatchError e ns cs = FailFirst e (batch_checks ns cs)

-- The first check that fails has this error, or all pass and an allocation fails (this library's own).
abbrev pub RefusesBatch : Error → List Letters → Layouts → Type 0
RefusesBatch e ns cs = BatchError e ns cs ⊎ ((e ≡ Memory alloc_error) × BatchFits ns cs)
