use Rattle.std.proofs.Common.{◌≡◌}
use Rattle.cli_args.specs.RequestTrees.{request_tree}
use Rattle.cli_read.specs.Readers.{reader_schema, remaining_batches}
use Rattle.cli_read.proofs.PrintSteps.{PrintState}
use Rattle.cli_read.proofs.printer.print_resolved.Given as goal

abbrev pub invariant-loop-k : goal.invariant-loop-k
invariant-loop-k g l =
    let left = remaining_batches g.R.Read.remaining g.R.Seek.stream_position g.R.Seek.stream_bytes in
    let contents = g.W.Write.contents in
    record {
      schema : reader_schema l.reader ≡ reader_schema l.fn.reader;
      on : PrintState (request_tree l.fn.request) (request_tree l.left) (reader_schema l.fn.reader) l.k (left l.fn.reader) (left l.reader) (contents l.fn.out) (contents l.out);
    }
