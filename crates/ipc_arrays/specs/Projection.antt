-- Decodes projected columns of a record batch, in the order of reading; the others are skipped.
use Rattle.std.specs.Prelude.{ℕ, zero, suc, ℤ, List, [], ◌∷◌, length, map, drop, Result, Ok, Err, nat_le, if◌then◌else◌}
use Rattle.nest_memory.specs.TypeTree.{TypeTree}
use Rattle.nest_model.specs.Layout.{Layout}
use Rattle.ipc_flatbuf.specs.ReadResults.{◌>>=◌}
use Rattle.ipc_flatbuf.specs.declared.error.IpcReadError.{IpcReadError}
use Rattle.ipc_flatbuf.specs.declared.error.IpcReadError.TheVariants.{NodeCount, BufferCount}
use Rattle.ipc_flatbuf.specs.declared.batch.parts.BufferSpec.{BufferSpec}
use Rattle.ipc_flatbuf.specs.declared.projection.SkippedField.{SkippedField}
use Rattle.ipc_flatbuf.specs.declared.projection.FieldAction.{FieldAction}
use Rattle.ipc_flatbuf.specs.declared.projection.FieldAction.TheVariants.{Read, Skip}
use Rattle.ipc_flatbuf.specs.Flatbuffers.{spec_non_negative}
use Rattle.ipc_arrays.specs.Decoding.{Rest, rest_of, decoded_column, checked_exhausted}
use Rattle.ipc_arrays.specs.declared.cursor.ExpectedLength.TheVariants.{Rows}
use Rattle.ipc_arrays.specs.declared.projected.ProjectionCursor.{ProjectionCursor}

-- the items after the first n
unfoldable pub skip_first : {A : Type 0} → IpcReadError → ℕ → List A → Result (List A) IpcReadError
skip_first error n xs = if nat_le n (length xs) then Ok (drop n xs) else Err error

-- the field nodes and buffers that have not been read, and the `variadicBufferCounts` of the view arrays that have not been skipped
pub record ProjectionState : Type 0 where
  pub rest : Rest
  pub more : List ℤ

-- skips the variadic buffers of n view arrays; a count that is missing or negative is `BufferCount`
unfoldable pub skipped_views : ℕ → List ℤ → List BufferSpec → Result (List BufferSpec × List ℤ) IpcReadError
skipped_views zero more buffers = Ok (buffers, more)
skipped_views (suc n) [] buffers = Err BufferCount
skipped_views (suc n) (count ∷ more) buffers = do
  size ← spec_non_negative BufferCount count
  rest ← skip_first BufferCount size buffers
  skipped_views n more rest

-- Skips a column. Its nodes and buffers are not decoded, and its dictionary values are not in `rest.dictionaries`.
unfoldable pub skipped_column : SkippedField → ProjectionState → Result ProjectionState IpcReadError
skipped_column s ahead = do
  nodes ← skip_first NodeCount s.nodes ahead.rest.nodes
  buffers ← skip_first BufferCount s.buffers ahead.rest.buffers
  views ← skipped_views s.views ahead.more buffers
  Ok (record { rest = record { nodes = nodes; buffers = views.0; dictionaries = ahead.rest.dictionaries }; more = views.1 })

-- the projected columns in order, one for each step that reads, until there are no more data types
unfoldable pub decoded_steps : List FieldAction → List TypeTree → ℕ → List ℕ → ProjectionState → Result (List Layout × Rest) IpcReadError
decoded_steps [] types rows body ahead = Ok ([], ahead.rest)
decoded_steps (Skip s ∷ steps) types rows body ahead = skipped_column s ahead >>= decoded_steps steps types rows body
decoded_steps (Read ∷ steps) [] rows body ahead = Ok ([], ahead.rest)
decoded_steps (Read ∷ steps) (t ∷ types) rows body ahead = do
  first ← decoded_column t (Rows rows) body ahead.rest
  others ← decoded_steps steps types rows body (record { rest = first.1; more = ahead.more })
  Ok (first.0 ∷ others.0, others.1)

-- the projected columns of a record batch, of which every node and buffer is read or skipped
unfoldable pub decoded_projection : List FieldAction → List TypeTree → ℕ → List ℕ → ProjectionState → Result (List Layout) IpcReadError
decoded_projection steps types rows body ahead = do
  columns ← decoded_steps steps types rows body ahead
  all ← checked_exhausted columns.1
  Ok columns.0

-- the steps that read every column
abbrev pub every_column : List TypeTree → List FieldAction
every_column types = map (λ t. Read) types

-- ---- the cursor of the code

abbrev pub projection_state : ProjectionCursor → ProjectionState
projection_state a = record { rest = rest_of a.left; more = a.more.now }
