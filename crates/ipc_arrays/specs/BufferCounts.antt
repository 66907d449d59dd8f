-- The number of buffers that arrays have in a record batch (Columnar format, "Buffer Listing for Each Layout").
use Rattle.std.specs.Prelude.{ℕ, ◌+◌, List, Result}
use Rattle.ipc_flatbuf.specs.declared.error.IpcReadError.{IpcReadError}
use Rattle.ipc_flatbuf.specs.declared.error.IpcReadError.TheVariants.{BufferCount}
use Rattle.ipc_flatbuf.specs.declared.batch.parts.BufferSpec.{BufferSpec}
use Rattle.nest_memory.specs.Physical.{physical_type}
use Rattle.nest_memory.specs.TypeTree as types
use Rattle.nest_memory.specs.TypeTree.{TypeTree, FieldTree, FieldTrees, field, no_fields, more_fields}
use Rattle.nest_memory.specs.declared.datatypes.UnionMode.{UnionMode}
use Rattle.nest_memory.specs.declared.datatypes.UnionMode.TheVariants.{Dense, Sparse}
use Rattle.nest_memory.specs.declared.datatypes.physical_type.PhysicalType.{PhysicalType}
use Rattle.nest_memory.specs.declared.datatypes.physical_type.PhysicalType.TheVariants as physical
use Rattle.ipc_arrays.specs.Projection.{skip_first}

-- Arrays without children: those of type null have none. Those of variable size have a validity bitmap, offsets and data, all others a
-- validity bitmap and one more.
abbrev pub spec_flat_buffer_count : PhysicalType → ℕ
spec_flat_buffer_count physical.Null = 0
spec_flat_buffer_count physical.Binary = 3
spec_flat_buffer_count physical.LargeBinary = 3
spec_flat_buffer_count physical.Utf8 = 3
spec_flat_buffer_count physical.LargeUtf8 = 3
spec_flat_buffer_count p = 2

-- type ids, and offsets if it is dense
abbrev pub spec_union_buffer_count : UnionMode → ℕ
spec_union_buffer_count Sparse = 1
spec_union_buffer_count Dense = 2

-- arrays of a data type, with those of their children
abbrev mutual
  pub buffer_count : TypeTree → ℕ
  buffer_count (types.extension x s m) = buffer_count s
  buffer_count (types.list f) = 2 + child_buffer_count f
  buffer_count (types.large_list f) = 2 + child_buffer_count f
  buffer_count (types.map f b) = 2 + child_buffer_count f
  buffer_count (types.fixed_size_list f n) = 1 + child_buffer_count f
  buffer_count (types.struct fs) = 1 + children_buffer_count fs
  buffer_count (types.union fs ids mode) = spec_union_buffer_count mode + children_buffer_count fs
  buffer_count t = spec_flat_buffer_count (physical_type t)

  pub child_buffer_count : FieldTree → ℕ
  child_buffer_count (field x s b es) = buffer_count s

  pub children_buffer_count : FieldTrees → ℕ
  children_buffer_count no_fields = 0
  children_buffer_count (more_fields f fs) = child_buffer_count f + children_buffer_count fs

-- the buffers after those of an array, after `own` buffers and those of a child, and after `own` buffers and those of children
unfoldable pub array_skipped : TypeTree → List BufferSpec → Result (List BufferSpec) IpcReadError
array_skipped t buffers = skip_first BufferCount (buffer_count t) buffers

unfoldable pub child_skipped : ℕ → FieldTree → List BufferSpec → Result (List BufferSpec) IpcReadError
child_skipped own f buffers = skip_first BufferCount (own + child_buffer_count f) buffers

unfoldable pub children_skipped : ℕ → FieldTrees → List BufferSpec → Result (List BufferSpec) IpcReadError
children_skipped own fs buffers = skip_first BufferCount (own + children_buffer_count fs) buffers
