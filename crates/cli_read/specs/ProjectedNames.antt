-- Projected names that no column has.
use Rattle.std.specs.Prelude.{◌≡◌, ◌⊎◌, ℕ, Option, Some, None}
use Rattle.ipc_schema.specs.Projections.{ProjectionModel}
use Rattle.cli_rows.specs.ColumnNames.{unknown_projected_name}
use Rattle.cli_rows.specs.Output.{HasTable}
use Rattle.cli_rows.specs.declared.error.BatchError.{BatchError}
use Rattle.cli_rows.specs.declared.error.CliError.{CliError}
use Rattle.cli_rows.specs.declared.error.CliError.TheVariants.{UnknownName}
use Rattle.cli_read.specs.Decoded.{Decoded}
use Rattle.cli_read.specs.Remaining.{IsReadErrorOf}

-- the first projected name that no column of the schema has, if there is one
abbrev pub HasUnknown : ProjectionModel → Option ℕ → Decoded → Type 0
HasUnknown picks name s = HasTable (s.first 0) (λ t. unknown_projected_name picks t.schema.fields ≡ name)

-- each projected name is that of a column
abbrev pub HasNames : ProjectionModel → Option Decoded → Type 0
HasNames picks None = Unit {0}
HasNames picks (Some s) = HasUnknown picks None s

-- the error has the first projected name that no column has
abbrev pub LacksName : ProjectionModel → Decoded → CliError → Type 0
LacksName picks s error = (name : ℕ) × (error ≡ UnknownName name) × HasUnknown picks (Some name) s

-- and occurred before any record batch
abbrev pub StopsForName : ProjectionModel → Option Decoded → BatchError → Type 0
StopsForName picks None e = Unit {0}
StopsForName picks (Some s) e = (e.batch ≡ None) × LacksName picks s e.error

-- The error occurred with names that all have a column. Where one has none, it is an error of reading before any record batch.
abbrev pub FollowsNames : ProjectionModel → Option Decoded → BatchError → Type 0
FollowsNames picks None e = Unit {0}
FollowsNames picks (Some s) e = HasUnknown picks None s ⊎ ((e.batch ≡ None) × IsReadErrorOf e.error (s.first 0))

-- reading failed, or it is the first error of the bytes, or no column has a projected name
abbrev pub FailsToOpenColumns : ProjectionModel → CliError → Option Decoded → Type 0
FailsToOpenColumns picks error None = Unit {0}
FailsToOpenColumns picks error (Some s) = IsReadErrorOf error (s.first 0) ⊎ LacksName picks s error
