use Rattle.std.proofs.Common.{arith, drop, sym, subst}
use Rattle.std.specs.Option.{option_map}
use Rattle.ipc_io.specs.FileReaders.{bytes_of}
use Rattle.cli_rows.specs.declared.error.CliError.{CliError}
use Rattle.cli_read.specs.Remaining.{FailsToReadNext, remaining_in_file}
use Rattle.cli_read.proofs.Readers.{file-end, file-fails, file-next}
use Rattle.cli_read.proofs.reader.next_in_file.Goals as goal

pub returns-then-k-len-clause-next : goal.returns-then-k-len-clause-next
returns-then-k-len-clause-next g c =
    let r = c.args.reader.now in
    file-end r.state r.blocks c.args.next.now (bytes_of g.R.Seek.stream_position g.R.Seek.stream_bytes r.inner) (omega (arith, c.if-k-len.true, c.len.ensures))

pub returns-in-Ok-clause-next : goal.returns-in-Ok-clause-next
returns-in-Ok-clause-next g c =
    let bytes = bytes_of g.R.Seek.stream_position g.R.Seek.stream_bytes in
    let r = c.args.reader.now in
    let s = c.batch.new.self in
    file-next r.state s.state r.blocks s.blocks c.args.next.now (bytes r.inner) (bytes s.inner) c.in-Ok.batch (omega (arith, c.if-k-len.false, c.len.ensures)) c.in-Ok.ensures.still.0 c.in-Ok.ensures.still.1 c.in-Ok.ensures.still.2
    c.in-Ok.ensures.batch

pub returns-in-Err-clause-error : goal.returns-in-Err-clause-error
returns-in-Err-clause-error g c =
    let known = bytes_of g.R.Seek.stream_position g.R.Seek.stream_bytes c.args.reader.now.inner in
    let r = c.args.reader.now in
    subst (λ (error : CliError). FailsToReadNext error (option_map (remaining_in_file r.state (drop c.args.next.now r.blocks)) known)) (sym c.from.ensures)
    (file-fails r.state r.blocks c.args.next.now known c.in-Err.e (omega (arith, c.if-k-len.false, c.len.ensures)) c.in-Err.ensures.batch)
