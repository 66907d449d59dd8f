-- How the arrays of a record batch are stored, beside how they are read.
use Rattle.std.specs.Prelude.{Bool, true, false, List}
use Rattle.std.specs.List.{list_all, list_any}
use Rattle.ipc_flatbuf.specs.declared.projection.StoredArray.{StoredArray}
use Rattle.ipc_flatbuf.specs.declared.projection.StoredArray.TheVariants.{Plain, View, Decimal32, Decimal64, Skipped}

-- whether the buffers of an array are read as they are
abbrev pub spec_is_read_as_stored : StoredArray → Bool
spec_is_read_as_stored (Plain buffers) = true
spec_is_read_as_stored View = false
spec_is_read_as_stored Decimal32 = false
spec_is_read_as_stored Decimal64 = false
spec_is_read_as_stored (Skipped field) = true

abbrev pub reads_as_stored : List StoredArray → Bool
reads_as_stored arrays = list_all spec_is_read_as_stored arrays

-- whether an array that is read has variadic buffers
abbrev pub spec_is_view : StoredArray → Bool
spec_is_view (Plain buffers) = false
spec_is_view View = true
spec_is_view Decimal32 = false
spec_is_view Decimal64 = false
spec_is_view (Skipped field) = false

abbrev pub reads_views : List StoredArray → Bool
reads_views arrays = list_any spec_is_view arrays
