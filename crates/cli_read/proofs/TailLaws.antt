-- The last rows of an input are the last ones of its table.
use Rattle.std.proofs.Common.{◌≡◌, inl, inr, ℕ, ◌-◌, List, [], ◌++◌, length, take, drop, Some, Result, Ok, Err, refl, sym, ap, subst, ◌∙◌, arith, take-append-drop}
use Rattle.std.proofs.lemmas.List.Concat.{flat_map-append}
use Rattle.ipc_flatbuf.specs.ReadResults.{◌>>=◌}
use Rattle.ipc_flatbuf.specs.declared.error.IpcReadError.{IpcReadError}
use Rattle.ipc_schema.specs.Projections.{ProjectionModel}
use Rattle.ipc_schema.specs.Schemas.{SchemaModel}
use Rattle.ipc_schema.specs.declared.footer.types.Block.{Block}
use Rattle.ipc.specs.Files.{SliceFileReaderTree, batches_at, batches_of_file, file_reader_in}
use Rattle.ipc.specs.Streams.{RecordBatchTree, StateTree}
use Rattle.cli_rows.specs.Output.{HasTable}
use Rattle.cli_rows.specs.Rows.{RowSlot}
use Rattle.cli_rows.specs.Tables.{TableTree, record_rows}
use Rattle.cli_rows.specs.Text.{json_line, text_of_rows}
use Rattle.cli_read.specs.Decoded.{Decoded, file_contents, table_with}
use Rattle.cli_read.specs.RowBuffers.{table_of_batches}
use Rattle.cli_read.specs.Tails.{AreLastRows, HasEnough, file_ends, last, stream_ends}
use Rattle.cli_read.proofs.FileTails.{Batches, batches-both, joined}
use Rattle.cli_read.proofs.FirstLaws.{file-whole}
use Rattle.cli_read.proofs.LastRows.{last-enough}
use Rattle.cli_read.proofs.StreamTails.{records-both}

pub stream-last : (n : ℕ) (s : Decoded) (h : TableTree) (found : List RowSlot) → s.whole ≡ Ok h → AreLastRows n (Some (stream_ends s)) found → found ≡ last n (record_rows h)
stream-last n s h found w (k, has) = (subst (λ (read : Result TableTree IpcReadError). HasTable read (λ t. HasEnough n k t × (found ≡ last n (record_rows t)))) w has).1

none-at : (s : StateTree) (xs : List ℕ) (blocks : List Block) (k : ℕ) → k ≡ 0 → batches_at s xs (take k blocks) ≡ Ok []
unfolding batches_at
none-at s xs blocks k e = rw e refl

part-last : (n k : ℕ) (s : SchemaModel) (first rest whole : Batches) (h : TableTree) (found : List RowSlot) → (k ≡ 0 → first ≡ Ok []) → whole ≡ joined first rest → table_with s whole ≡ Ok h → HasTable (table_with s rest) (λ t. HasEnough n k t × (found ≡ last n (record_rows t)))
    → found ≡ last n (record_rows h)
part-last n k s (Err error) rest whole h found none split w has = let z : Err error ≡ Ok h = sym (ap (table_with s) split) ∙ w in absurd cc
part-last n k s (Ok bs) (Err error) whole h found none split w has = absurd has
part-last n k s (Ok bs) (Ok cs) whole h found none split w (enough, is) =
    let z : Ok (table_of_batches s (bs ++ cs)) ≡ Ok h = sym (ap (table_with s) split) ∙ w in
    let t : table_of_batches s (bs ++ cs) ≡ h = grind (arith, z) in
    is ∙ same enough ∙ ap (last n) (sym (records-both s bs cs)) ∙ ap (λ (x : TableTree). last n (record_rows x)) t
  where
    same : HasEnough n k (table_of_batches s cs) → last n (record_rows (table_of_batches s cs)) ≡ last n (record_rows (table_of_batches s bs) ++ record_rows (table_of_batches s cs))
    same (inr long) = sym (last-enough n (record_rows (table_of_batches s bs)) (record_rows (table_of_batches s cs)) long)
    same (inl start) =
        let e : Ok bs ≡ Ok [] = none start in
        let b : bs ≡ [] = grind (arith, e) in
        ap (λ (l : List RecordBatchTree). last n (record_rows (table_of_batches s l) ++ record_rows (table_of_batches s cs))) (sym b)

reader-last : (n : ℕ) (read : Result SliceFileReaderTree IpcReadError) (h : TableTree) (found : List RowSlot) → (read >>= λ r. table_with r.state.picked.schema (batches_of_file r)) ≡ Ok h → AreLastRows n (Some (file_ends read)) found → found ≡ last n (record_rows h)
reader-last n (Err error) h found w last_ = absurd cc
reader-last n (Ok r) h found w (k, has) =
    part-last n k r.state.picked.schema (batches_at r.state r.bytes (take k r.blocks)) (batches_at r.state r.bytes (drop k r.blocks)) (batches_of_file r) h found (none-at r.state r.bytes r.blocks k)
    (ap (batches_at r.state r.bytes) (sym (take-append-drop k r.blocks)) ∙ batches-both r.state r.bytes (take k r.blocks) (drop k r.blocks)) w has

pub file-last : (picks : ProjectionModel) (bytes : List ℕ) (n : ℕ) (h : TableTree) (found : List RowSlot) → (file_contents picks bytes).whole ≡ Ok h → AreLastRows n (Some (file_ends (file_reader_in picks bytes))) found → found ≡ last n (record_rows h)
file-last picks bytes n h found w found_last = reader-last n (file_reader_in picks bytes) h found (sym (file-whole picks bytes) ∙ w) found_last

-- the text of rows is that of the first ones, and then that of the last ones
pub text-parts : (n : ℕ) (rows : List RowSlot) → text_of_rows rows ≡ text_of_rows (take (length rows - n) rows) ++ text_of_rows (last n rows)
text-parts n rows = ap text_of_rows (sym (take-append-drop (length rows - n) rows)) ∙ flat_map-append json_line (take (length rows - n) rows) (last n rows)
