-- The buffers of a record batch that its projected columns have.
use Rattle.std.specs.Prelude.{◌-◌, ℤ, Bool, true, false, List, [], ◌∷◌, ◌++◌, length, replicate, Result, Ok}
use Rattle.nest_memory.specs.TypeTree.{TypeTree}
use Rattle.ipc_flatbuf.specs.ReadResults.{◌>>=◌}
use Rattle.ipc_flatbuf.specs.declared.error.IpcReadError.{IpcReadError}
use Rattle.ipc_flatbuf.specs.declared.error.IpcReadError.TheVariants.{BufferCount}
use Rattle.ipc_flatbuf.specs.declared.batch.parts.BufferSpec.{BufferSpec}
use Rattle.ipc_flatbuf.specs.declared.projection.SkippedField.{SkippedField}
use Rattle.ipc_flatbuf.specs.declared.projection.FieldAction.{FieldAction}
use Rattle.ipc_flatbuf.specs.declared.projection.FieldAction.TheVariants.{Read, Skip}
use Rattle.ipc_arrays.specs.Projection.{skip_first, skipped_views}
use Rattle.ipc_arrays.specs.BufferCounts.{array_skipped}

-- the buffers and variadic counts after a skipped column
unfoldable pub column_skipped : SkippedField → List ℤ → List BufferSpec → Result (List BufferSpec × List ℤ) IpcReadError
column_skipped s more buffers = do
  rest ← skip_first BufferCount s.buffers buffers
  skipped_views s.views more rest

-- a flag for each of the buffers before the rest
abbrev pub flags : List BufferSpec → List BufferSpec → Bool → List Bool
flags buffers rest is_needed = replicate (length buffers - length rest) is_needed

-- For each buffer whether it is of a column that is read. There is none for the buffers after the last step, or after the last data type.
unfoldable pub spec_needed_buffers : List FieldAction → List TypeTree → List ℤ → List BufferSpec → Result (List Bool) IpcReadError
spec_needed_buffers [] types more buffers = Ok []
spec_needed_buffers (Skip s ∷ steps) types more buffers = do
  rest ← column_skipped s more buffers
  others ← spec_needed_buffers steps types rest.1 rest.0
  Ok (flags buffers rest.0 false ++ others)
spec_needed_buffers (Read ∷ steps) [] more buffers = Ok []
spec_needed_buffers (Read ∷ steps) (t ∷ types) more buffers = do
  rest ← array_skipped t buffers
  others ← spec_needed_buffers steps types more rest
  Ok (flags buffers rest true ++ others)
