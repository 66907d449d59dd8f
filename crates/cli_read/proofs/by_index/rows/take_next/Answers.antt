use Rattle.std.proofs.Common.{None, Option, Some, subst, sym}
use Rattle.std.specs.Prelude.{IfSome}
use Rattle.std.specs.Option.{option_map}
use Rattle.ipc_schema.specs.Schemas.{SchemaModel}
use Rattle.nest_array.specs.Seen.{layout_of}
use Rattle.nest_array.specs.declared.any.AnyArray.{AnyArray}
use Rattle.cli_rows.specs.Rows.{rows_of}
use Rattle.cli_read.specs.RowBuffers.{FailsRows, ReturnsRows}
use Rattle.cli_read.specs.Readers.{remaining_batches, reader_schema}
use Rattle.cli_rows.specs.SelectedTables.{AreRowsOf}
use Rattle.cli_rows.specs.declared.error.CliError.{CliError}
use Rattle.cli_rows.specs.declared.error.CliError.TheVariants.{Memory}
use Rattle.cli_read.specs.TakeStates.{IsTakeStateError}
use Rattle.cli_read.proofs.TakeSteps.{no-memory, turn-fails, turn-on, turn-over}
use Rattle.cli_read.proofs.by_index.rows.take_next.Goals as goal

pub returns-in-Err-clause-error : goal.returns-in-Err-clause-error
returns-in-Err-clause-error g c = λ t s k h p.
    let of_ = remaining_batches g.R.Read.remaining g.R.Seek.stream_position g.R.Seek.stream_bytes in
    turn-fails t s k (of_ c.args.reader.now) c.args.state.now c.in-Err.error c.requires.more (subst (λ (z : SchemaModel). FailsRows z c.in-Err.error (of_ c.args.reader.now)) h c.in-Err.ensures.error) p

pub returns-in-Ok-None-clause-step : goal.returns-in-Ok-None-clause-step
returns-in-Ok-None-clause-step g c = λ t s k h p.
    let of_ = remaining_batches g.R.Read.remaining g.R.Seek.stream_position g.R.Seek.stream_bytes in
    let u = of_ c.args.reader.now in
    let v = of_ c.next_rows.new.reader in
    let gave = subst (λ (r : Option AnyArray). ReturnsRows (reader_schema c.args.reader.now) u v (option_map layout_of r)) c.in-Ok-None.field-0-is c.in-Ok-None.ensures.rows in
    turn-over t s k u v c.args.state.now (subst (λ (z : SchemaModel). ReturnsRows z u v None) h gave) p

pub returns-in-Ok-clause-step : goal.returns-in-Ok-clause-step
returns-in-Ok-clause-step g c = λ t s k h p.
    let of_ = remaining_batches g.R.Read.remaining g.R.Seek.stream_position g.R.Seek.stream_bytes in
    let u = of_ c.args.reader.now in
    let v = of_ c.next_rows.new.reader in
    let a = layout_of c.in-Ok-Some.array in
    let gave = subst (λ (r : Option AnyArray). ReturnsRows (reader_schema c.args.reader.now) u v (option_map layout_of r)) c.in-Ok-Some.field-0-is c.in-Ok-Some.ensures.rows in
    let each = subst (λ (r : Option AnyArray). IfSome r (λ x. AreRowsOf (reader_schema c.args.reader.now).fields (rows_of (layout_of x)))) c.in-Ok-Some.field-0-is c.in-Ok-Some.ensures.each in
    turn-on t s k u v a c.args.state.now c.take_from_array-taken.new.state (subst (λ (z : SchemaModel). ReturnsRows z u v (Some a)) h gave) (subst (λ (z : SchemaModel). AreRowsOf z.fields (rows_of a)) h each) c.in-Ok.ensures.took p

pub returns-in-Err-taken-clause-error : goal.returns-in-Err-taken-clause-error
returns-in-Err-taken-clause-error g c = λ t s k h p.
    let of_ = remaining_batches g.R.Read.remaining g.R.Seek.stream_position g.R.Seek.stream_bytes in
    let u = of_ c.args.reader.now in
    let state = c.args.state.now in
    subst (λ (f : CliError). IsTakeStateError t s state.wanted.items (record { batch = Some k; error = f })) (sym c.in-Err-taken.ensures.error) (turn-fails t s k u state Memory c.requires.more (no-memory s u) p)
