-- Columns that are skipped, by their nodes, buffers and variadic counts, and columns that are read around them.
use Rattle.std.specs.Prelude.{◌≡◌, ℕ, ℤ, pos, negsuc, false, List, [], ◌∷◌, Ok, Err, refl}
use Rattle.nest_memory.specs.TypeTree as types
use Rattle.nest_model.specs.Layout.{null}
use Rattle.ipc_flatbuf.specs.declared.error.IpcReadError.TheVariants.{NodeCount, BufferCount, RowCount}
use Rattle.ipc_flatbuf.specs.declared.batch.parts.FieldNode.{FieldNode}
use Rattle.ipc_flatbuf.specs.declared.batch.parts.BufferSpec.{BufferSpec}
use Rattle.ipc_flatbuf.specs.declared.projection.SkippedField.{SkippedField}
use Rattle.ipc_flatbuf.specs.declared.projection.FieldAction.TheVariants.{Read, Skip}
use Rattle.ipc_arrays.specs.Decoding.{first_counts, decoded_node}
use Rattle.ipc_arrays.specs.Projection.{ProjectionState, skip_first, skipped_views, skipped_column, decoded_steps, decoded_projection}

abbrev node : ℕ → FieldNode
node n = record { length = pos n; null_count = pos 0 }

abbrev region : ℕ → BufferSpec
region n = record { offset = pos n; length = pos 8 }

abbrev span : ℕ → ℕ → ℕ → SkippedField
span nodes buffers views = record { nodes = nodes; buffers = buffers; views = views; has_union = false; has_dictionary = false }

abbrev ahead : List FieldNode → List BufferSpec → List ℤ → ProjectionState
ahead nodes buffers more = record { rest = record { nodes = nodes; buffers = buffers; dictionaries = [] }; more = more }

-- a struct of two view arrays: three field nodes, five buffers, and three variadic buffers
abbrev views_ahead : List ℤ → ProjectionState
views_ahead more = ahead (node 2 ∷ node 2 ∷ node 2 ∷ node 4 ∷ []) (region 0 ∷ region 1 ∷ region 2 ∷ region 3 ∷ region 4 ∷ region 5 ∷ region 6 ∷ region 7 ∷ region 8 ∷ []) more

abbrev pub SkippedColumnsAreChecked : Type 0
SkippedColumnsAreChecked = (skipped_column (span 3 5 2) (views_ahead (pos 2 ∷ pos 1 ∷ pos 4 ∷ [])) ≡ Ok (ahead (node 4 ∷ []) (region 8 ∷ []) (pos 4 ∷ [])))
    × (skipped_column (span 4 9 0) (views_ahead []) ≡ Ok (ahead [] [] []))
    × (skipped_column (span 5 10 3) (views_ahead []) ≡ Err NodeCount)
    × (skipped_column (span 4 10 0) (views_ahead []) ≡ Err BufferCount)
    × (skipped_column (span 3 5 2) (views_ahead (pos 0 ∷ [])) ≡ Err BufferCount)
    × (skipped_column (span 3 5 1) (views_ahead (negsuc 0 ∷ [])) ≡ Err BufferCount)
    × (skipped_column (span 3 5 2) (views_ahead (pos 2 ∷ pos 3 ∷ [])) ≡ Err BufferCount)

pub passed : SkippedColumnsAreChecked
unfolding skip_first skipped_views skipped_column
passed = (refl, refl, refl, refl, refl, refl, refl)

-- a null column, one that is skipped and has another length, and a null column
abbrev pub ColumnsAroundAreRead : Type 0
ColumnsAroundAreRead = (decoded_projection (Read ∷ Skip (span 1 2 0) ∷ Read ∷ []) (types.null ∷ types.null ∷ []) 2 [] (ahead (node 2 ∷ node 9 ∷ node 2 ∷ []) (region 0 ∷ region 1 ∷ []) []) ≡ Ok (null types.null 2 ∷ null types.null 2 ∷ []))
    × (decoded_projection (Read ∷ Skip (span 1 2 0) ∷ Read ∷ []) (types.null ∷ types.null ∷ []) 2 [] (ahead (node 2 ∷ node 9 ∷ node 3 ∷ []) (region 0 ∷ region 1 ∷ []) []) ≡ Err RowCount)
    × (decoded_projection (Skip (span 1 0 0) ∷ []) [] 2 [] (ahead (node 2 ∷ node 2 ∷ []) [] []) ≡ Err NodeCount)
    × (decoded_projection (Skip (span 1 0 0) ∷ []) [] 2 [] (ahead (node 2 ∷ []) (region 0 ∷ []) []) ≡ Err BufferCount)

pub around : ColumnsAroundAreRead
unfolding first_counts decoded_node skip_first skipped_views skipped_column decoded_steps decoded_projection
around = (refl, refl, refl, refl)
