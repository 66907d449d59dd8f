-- Record batches of a file.
use Rattle.std.proofs.Common.{◌≡◌, ℕ, List, Result, Ok, ap, ◌∙◌}
use Rattle.ipc_flatbuf.specs.ReadResults.{◌>>=◌}
use Rattle.ipc_flatbuf.specs.declared.error.IpcReadError as formats
use Rattle.ipc_schema.specs.Projections.{ProjectionModel}
use Rattle.ipc.specs.Files.{SliceFileReaderTree, batches_of_file, file_reader_in}
use Rattle.cli_rows.specs.Tables.{TableTree}
use Rattle.cli_read.specs.Decoded.{Decoded, file_contents, first_of_file, table_with}
use Rattle.cli_read.specs.Remaining.{remaining_in_file, with_schema}
use Rattle.cli_read.proofs.FirstLaws.{file-whole}

abbrev spelled_by : Result SliceFileReaderTree formats.IpcReadError → Decoded
spelled_by read = record {
  first = λ k. read >>= λ r. table_with r.state.picked.schema (first_of_file k r);
  whole = read >>= λ r. table_with r.state.picked.schema (batches_of_file r);
}

pub spelled-is : (picks : ProjectionModel) (bytes : List ℕ) (r : SliceFileReaderTree) → file_reader_in picks bytes ≡ Ok r → file_contents picks bytes ≡ with_schema r.state.picked.schema (remaining_in_file r.state r.blocks r.bytes)
spelled-is picks bytes r e =
    ap (λ (w : Result TableTree formats.IpcReadError). record { first = (file_contents picks bytes).first; whole = w }) (file-whole picks bytes)
    ∙ ap spelled_by e
