-- Example tables.
use Rattle.std.specs.Prelude.{ℕ, Bool, true, false, List, [], ◌∷◌, length, None, codes}
use Rattle.nest_memory.specs.TypeTree as types
use Rattle.nest_memory.specs.TypeTree.{FieldTree, field}
use Rattle.nest_model.specs.Layout as layouts
use Rattle.ipc.specs.Streams.{RecordBatchTree}
use Rattle.cli_rows.specs.Tables.{TableTree}

abbrev pub ok_field : FieldTree
ok_field = field (codes "ok") types.boolean true []

-- record batches of one boolean column, a list for each
abbrev pub boolean_batches : List (List Bool) → List RecordBatchTree
boolean_batches [] = []
boolean_batches (bs ∷ others) = record { rows = length bs; columns = layouts.boolean types.boolean bs None ∷ [] } ∷ boolean_batches others

abbrev pub boolean_table : List (List Bool) → TableTree
boolean_table batches = record { schema = record { fields = ok_field ∷ []; metadata = [] }; batches = boolean_batches batches }

-- true and false in one record batch, and true in the next
abbrev pub three_booleans : TableTree
three_booleans = boolean_table ((true ∷ false ∷ []) ∷ (true ∷ []) ∷ [])

-- record batches without a column, of so many rows each
abbrev pub columnless_batches : List ℕ → List RecordBatchTree
columnless_batches [] = []
columnless_batches (n ∷ ns) = record { rows = n; columns = [] } ∷ columnless_batches ns

abbrev pub columnless_table : List ℕ → TableTree
columnless_table counts = record { schema = record { fields = []; metadata = [] }; batches = columnless_batches counts }
