-- The number of rows of a table is that of its lines, and of a file that of its metadata.
use Rattle.std.proofs.Common.{◌≡◌, ◌+◌, ℕ, List, [], ◌∷◌, map, sum, length, Some, Result, Ok, Err, refl, sym, ap, subst, ◌∙◌, length-append}
use Rattle.std.proofs.lemmas.List.Sums.{sum-map, sum_by-cons}
use Rattle.std.specs.List.{AllByRecursion, sum_by}
use Rattle.ipc_flatbuf.specs.ReadResults.{◌>>=◌}
use Rattle.ipc_flatbuf.specs.declared.error.IpcReadError.{IpcReadError}
use Rattle.ipc_schema.specs.Projections.{ProjectionModel}
use Rattle.ipc_schema.specs.Schemas.{SchemaModel}
use Rattle.ipc_schema.specs.declared.footer.types.Block.{Block}
use Rattle.ipc.specs.Files.{FileTree, projected_file_in}
use Rattle.ipc.specs.MessageLaws.{ok_same}
use Rattle.ipc.specs.Streams.{RecordBatchTree}
use Rattle.ipc_io.specs.FileMetadata.{file_metadata_in, row_counts_at, row_counts_in, row_counts_of}
use Rattle.ipc_io.specs.FileMetadataLaws.{counts_of_file}
use Rattle.cli_rows.specs.Output.{HasTable}
use Rattle.cli_rows.specs.Rows.{rows_of}
use Rattle.cli_rows.specs.RowLaws.{rows-length}
use Rattle.cli_rows.specs.Tables.{TableTree, record_rows, table_of_file}
use Rattle.cli_read.specs.Counts.{Counts, HasColumnOfRows, batches_of_counts, metadata_contents, rows_alone, total_rows}
use Rattle.cli_read.specs.Decoded.{file_contents, table_with}
use Rattle.cli_read.specs.RowBuffers.{table_of_batches}
use Rattle.cli_read.specs.TailSteps.{batch_records_of}

by-rows : (s : SchemaModel) (bs : List RecordBatchTree) → AllByRecursion HasColumnOfRows bs → sum_by (λ (b : RecordBatchTree). b.rows) bs ≡ length (record_rows (table_of_batches s bs))
by-rows s [] h = refl
by-rows s (b ∷ bs) h =
    sum_by-cons (λ (x : RecordBatchTree). x.rows) b bs
    ∙ ap (λ n. n + sum_by (λ (x : RecordBatchTree). x.rows) bs) (sym (rows-length (batch_records_of s b) ∙ h.0))
    ∙ ap (λ n. length (rows_of (batch_records_of s b)) + n) (by-rows s bs h.1)
    ∙ sym (length-append (rows_of (batch_records_of s b)) (record_rows (table_of_batches s bs)))

pub counted-lines : (s : SchemaModel) (bs : List RecordBatchTree) → AllByRecursion HasColumnOfRows bs → total_rows (table_of_batches s bs) ≡ length (record_rows (table_of_batches s bs))
counted-lines s bs h = sum-map (λ (b : RecordBatchTree). b.rows) bs ∙ by-rows s bs h

-- ---- files

-- a table of which only the numbers of rows are read
abbrev table_of_counts : SchemaModel × List ℕ → TableTree
table_of_counts x = record { schema = x.0; batches = map rows_alone x.1 }

by-counts : (picks : ProjectionModel) (bytes : List ℕ) → (metadata_contents picks bytes).whole ≡ (row_counts_in picks bytes >>= λ x. Ok (table_of_counts x))
by-counts picks bytes = one (file_metadata_in picks bytes)
  where
    two : (s : SchemaModel) (counts : Result (List ℕ) IpcReadError) → table_with s (batches_of_counts counts) ≡ ((counts >>= λ ns. Ok (s, ns)) >>= λ x. Ok (table_of_counts x))
    two s (Ok ns) = refl
    two s (Err error) = refl

    one : (read : Result (SchemaModel × List Block) IpcReadError) → (read >>= λ m. table_with m.0 (batches_of_counts (row_counts_at bytes m.1))) ≡ ((read >>= λ m. row_counts_at bytes m.1 >>= λ ns. Ok (m.0, ns)) >>= λ x. Ok (table_of_counts x))
    one (Ok m) = two m.0 (row_counts_at bytes m.1)
    one (Err error) = refl

rows-of-counts : (ns : List ℕ) → map (λ (b : RecordBatchTree). b.rows) (map rows_alone ns) ≡ ns
rows-of-counts [] = refl
rows-of-counts (n ∷ ns) = ap (λ (xs : List ℕ). n ∷ xs) (rows-of-counts ns)

pub file-counts : (picks : ProjectionModel) (bytes : List ℕ) (h : TableTree) (n : ℕ) → (file_contents picks bytes).whole ≡ Ok h → Counts (Some (metadata_contents picks bytes)) n → n ≡ total_rows h
file-counts picks bytes h n whole counts = by (projected_file_in picks bytes) refl whole
  where
    by : (read : Result FileTree IpcReadError) → projected_file_in picks bytes ≡ read → (read >>= λ f. Ok (table_of_file f)) ≡ Ok h → n ≡ total_rows h
    by (Ok f) is same =
        let known : (metadata_contents picks bytes).whole ≡ Ok (table_of_counts (row_counts_of f)) = by-counts picks bytes ∙ ap (λ (r : Result (SchemaModel × List ℕ) IpcReadError). r >>= λ x. Ok (table_of_counts x)) (counts_of_file picks bytes f is) in
        let all : n ≡ total_rows (table_of_counts (row_counts_of f)) = subst (λ (r : Result TableTree IpcReadError). HasTable r (λ t. n ≡ total_rows t)) known counts in
        all ∙ ap sum (rows-of-counts (row_counts_of f).1) ∙ ap total_rows (ok_same {A = TableTree} (table_of_file f) h same)
    by (Err error) is same = cc
