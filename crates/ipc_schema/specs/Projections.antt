-- Projections: which columns of a schema are read.
use Rattle.std.specs.Prelude.{◌≡◌, ℕ, Bool, true, List, [], map, Result, Ok}
use Rattle.std.specs.List.{list_any}
use Rattle.std.specs.Ordering.{nat_cmp, eq_by_cmp}
use Rattle.std.specs.Cmp.Lexicographic.{slice_cmp}
use Rattle.std.specs.Borrow.{Bor}
use Rattle.std.specs.declared.cmp.Ordering.{Ordering}
use Rattle.std.specs.BTreeSet as sets
use Rattle.nest_memory.specs.TypeTree.{Letters}
use Rattle.ipc_flatbuf.specs.ReadResults.{◌>>=◌}
use Rattle.ipc_flatbuf.specs.declared.error.IpcReadError.{IpcReadError}
use Rattle.ipc_flatbuf.specs.Flatbuffers.{spec_offset_field, spec_read_table, spec_str_at}
use Rattle.ipc_schema.specs.declared.columns.Projection as declared
use Rattle.ipc_schema.specs.declared.columns.ColumnSet.{ColumnSet}
use Rattle.ipc_schema.specs.declared.columns.Projection.TheVariants as columns

-- all columns, those at some indices, or those of some names
pub data ProjectionModel : Type 0 where
  all : ProjectionModel
  at : List ℕ → ProjectionModel
  named : List Letters → ProjectionModel

abbrev pub projection_of : declared.Projection → ProjectionModel
projection_of columns.All = all
projection_of (columns.Indices indices) = at indices.now
projection_of (columns.Names names) = named (map (λ n. n.now) names.now)

abbrev pub columns_of : ColumnSet → ProjectionModel
columns_of set = projection_of set.columns

-- the indices and the names of a projection
abbrev pub indices_in : declared.Projection → List ℕ
indices_in columns.All = []
indices_in (columns.Indices indices) = indices.now
indices_in (columns.Names names) = []

abbrev pub names_in : declared.Projection → List Letters
names_in columns.All = []
names_in (columns.Indices indices) = []
names_in (columns.Names names) = map (λ n. n.now) names.now

-- whether an index or a name is in a list
abbrev pub indices_contain : List ℕ → ℕ → Bool
indices_contain indices i = list_any (eq_by_cmp nat_cmp i) indices

abbrev pub names_contain : List Letters → Letters → Bool
names_contain names name = list_any (eq_by_cmp (slice_cmp nat_cmp) name) names

-- the name of the field at a position
unfoldable pub spec_name_at : List ℕ → ℕ → ℕ → Result Letters IpcReadError
spec_name_at bytes position left = do
  table ← spec_read_table bytes position left
  to ← spec_offset_field bytes table.0 0
  name ← spec_str_at bytes to table.1
  Ok name.0

-- whether the field with index i, whose table is at a position, is read
abbrev pub spec_contains_field : ProjectionModel → List ℕ → ℕ → ℕ → ℕ → Result Bool IpcReadError
spec_contains_field all bytes i position left = Ok true
spec_contains_field (at indices) bytes i position left = Ok (indices_contain indices i)
spec_contains_field (named names) bytes i position left = spec_name_at bytes position left >>= λ name. Ok (names_contain names name)

-- strings, ordered by their bytes
abbrev pub str_cmp : Bor (List ℕ) → Bor (List ℕ) → Ordering
str_cmp a b = slice_cmp nat_cmp a.now b.now

-- the sets have the indices and names of the projection
abbrev pub IsColumnSet : ColumnSet → Type 0
IsColumnSet p = ((i : ℕ) → sets.contains nat_cmp p.indices i ≡ indices_contain (indices_in p.columns) i) × ((name : Bor (List ℕ)) → sets.contains str_cmp p.names name ≡ names_contain (names_in p.columns) name.now)
