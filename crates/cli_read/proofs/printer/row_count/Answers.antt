use Rattle.std.proofs.Common.{◌∙◌, sym, ap}
use Rattle.std.specs.List.{slice_get}
use Rattle.ipc.specs.Streams.{record_batch_of}
use Rattle.cli_read.proofs.SelectedRows.{count-alone, first-long}
use Rattle.cli_read.proofs.printer.row_count.Goals as goal

pub returns-in-Some : goal.returns-in-Some
returns-in-Some c = λ s.
    count-alone s (record_batch_of c.args.batch.now)
    ∙ first-long c.args.batch.now.columns.items c.in-Some.column.now (c.in-Some.ensures.value ∙ ap (λ l. slice_get l 0) c.deref.ensures.value)
    ∙ sym c.len.ensures
