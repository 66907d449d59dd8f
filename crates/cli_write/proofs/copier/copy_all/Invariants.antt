use Rattle.std.proofs.Common.{◌≡◌, List, Option}
use Rattle.ipc.specs.Streams.{RecordBatchTree}
use Rattle.ipc_schema.specs.Schemas.{SchemaModel}
use Rattle.cli_read.specs.Remaining.{Remaining}
use Rattle.cli_read.specs.Readers.{remaining_batches, reader_schema}
use Rattle.cli_args.specs.Requests.{SelectionTree}
use Rattle.cli_args.specs.RequestTrees.{selection_tree}
use Rattle.cli_args.specs.declared.format.Format as forms
use Rattle.cli_write.specs.CopyStates.{CopyState}
use Rattle.cli_write.proofs.copier.copy_all.Given as goal

abbrev pub invariant-loop-k : goal.invariant-loop-k
invariant-loop-k g l =
    let of_ = remaining_batches g.R.Read.remaining g.R.Seek.stream_position g.R.Seek.stream_bytes in
    record {
      schema : reader_schema l.reader ≡ reader_schema l.fn.reader;
      on : (form : forms.Format) (c : SelectionTree) (s : SchemaModel) (t : Option Remaining) (start : _) (front : List RecordBatchTree) → reader_schema l.fn.reader ≡ s → CopyState g.W.Write.contents form c s t start front 0 (selection_tree l.fn.left) (of_ l.fn.reader) l.fn.writer
          → CopyState g.W.Write.contents form c s t start front l.k (selection_tree l.left) (of_ l.reader) l.writer;
    }
