use Rattle.std.proofs.Common.{sym, subst}
use Rattle.std.specs.Option.{option_map}
use Rattle.ipc_io.specs.StreamReaders.{as_slice_reader}
use Rattle.cli_rows.specs.declared.error.CliError.{CliError}
use Rattle.cli_read.specs.Remaining.{FailsToReadNext, remaining_in_stream}
use Rattle.cli_read.proofs.Readers.{stream-fails, stream-next}
use Rattle.cli_read.proofs.reader.next_in_stream.Goals as goal

pub returns-in-Ok-clause-next : goal.returns-in-Ok-clause-next
returns-in-Ok-clause-next g c = stream-next (as_slice_reader g.R.Read.remaining c.args.reader.now) (as_slice_reader g.R.Read.remaining c.next_batch.new.self) _ c.in-Ok.ensures.next.0

pub returns-in-Err-clause-error : goal.returns-in-Err-clause-error
returns-in-Err-clause-error g c =
    subst (λ (error : CliError). FailsToReadNext error (option_map remaining_in_stream (as_slice_reader g.R.Read.remaining c.args.reader.now))) (sym c.from.ensures)
    (stream-fails g.R.Read.remaining c.args.reader.now c.next_batch.new.self c.in-Err.e c.in-Err.ensures.next)
