-- Steps of taking rows by index.
use Rattle.std.specs.Prelude.{◌≡◌, ◌+◌, ℕ, Bool, true, false, List, Option, Some}
use Rattle.ipc_schema.specs.Schemas.{SchemaModel}
use Rattle.cli_rows.specs.declared.error.BatchError.{BatchError}
use Rattle.cli_rows.specs.declared.error.CliError.{CliError}
use Rattle.cli_read.specs.Readers.{reader_schema, remaining_batches}
use Rattle.cli_read.specs.Remaining.{Remaining}
use Rattle.cli_read.specs.TakeStates.{IsTakeEnd, IsTakeState, IsTakeStateError, IsTakeStep}
use Rattle.cli_read.specs.declared.reader.BatchReader.{BatchReader}
use Rattle.cli_read.specs.declared.by_index.rows.TakeState.{TakeState}

module _ {R : Type 0} (remaining : R → Option (List ℕ)) (place : R → Option ℕ) (bytes : R → Option (List ℕ)) where
  -- from a state of taking the next one, or the same after the last record batch
  abbrev pub TakesNext : BatchReader R → TakeState → BatchReader R → TakeState → Bool → Type 0
  TakesNext reader state new_reader new_state more =
      (t : Option Remaining) (s : SchemaModel) (k : ℕ) → reader_schema reader ≡ s → IsTakeState t s false k (remaining_batches remaining place bytes reader) state
      → IsTakeStep more (IsTakeState t s false (k + 1) (remaining_batches remaining place bytes new_reader) new_state) (IsTakeState t s true k (remaining_batches remaining place bytes new_reader) new_state)

  -- from a state of taking the error of the next record batch
  abbrev pub FailsToTakeNext : BatchReader R → TakeState → CliError → Type 0
  FailsToTakeNext reader state e =
      (t : Option Remaining) (s : SchemaModel) (k : ℕ) → reader_schema reader ≡ s → IsTakeState t s false k (remaining_batches remaining place bytes reader) state
      → IsTakeStateError t s state.wanted.items (record { batch = Some k; error = e })

  -- from the first state of taking the end
  abbrev pub TakesAll : BatchReader R → TakeState → TakeState → Type 0
  TakesAll reader state new_state =
      (t : Option Remaining) (s : SchemaModel) → reader_schema reader ≡ s → IsTakeState t s false 0 (remaining_batches remaining place bytes reader) state → IsTakeEnd t s new_state

  -- from the first state of taking the error of a record batch
  abbrev pub FailsToTakeAll : BatchReader R → TakeState → BatchError → Type 0
  FailsToTakeAll reader state e =
      (t : Option Remaining) (s : SchemaModel) → reader_schema reader ≡ s → IsTakeState t s false 0 (remaining_batches remaining place bytes reader) state → IsTakeStateError t s state.wanted.items e
