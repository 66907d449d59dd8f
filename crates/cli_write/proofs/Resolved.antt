-- Copies of selections whose columns are resolved.
use Rattle.std.proofs.Common.{◌≡◌, ◌⊎◌, ◌∙◌, ◌+◌, ℕ, List, [], Option, Some, None, Result, Ok, Err, inl, inr, ap, sym}
use Rattle.std.specs.Option.{option_map}
use Rattle.ipc_flatbuf.specs.declared.error.IpcReadError as formats
use Rattle.ipc_schema.specs.Schemas.{SchemaModel}
use Rattle.ipc.specs.Streams.{RecordBatchTree}
use Rattle.cli_args.specs.Requests.{SelectionTree, all, indices, slice, where_true}
use Rattle.cli_args.specs.declared.format.Format as forms
use Rattle.cli_rows.specs.ColumnNames.{resolved_selection, spec_selection_error}
use Rattle.cli_rows.specs.Compared.{table_rows}
use Rattle.cli_rows.specs.Output.{HasTable}
use Rattle.cli_rows.specs.RequestText.{unless_error}
use Rattle.cli_rows.specs.RowOrder.{IsInRowOrder}
use Rattle.cli_rows.specs.Selection.{selected_rows}
use Rattle.cli_rows.specs.Tables.{TableTree}
use Rattle.cli_rows.specs.declared.error.BatchError.{BatchError}
use Rattle.cli_rows.specs.declared.error.CliError.{CliError}
use Rattle.cli_rows.specs.declared.error.CliError.TheVariants.{Input, Read, Write, MismatchedColumns, IndexOutOfRange, Condition, UnknownName, Output, Memory}
use Rattle.cli_rows.proofs.Resolved.{resolved-error, resolved-rows, rows-typed}
use Rattle.cli_rows.proofs.SelectedBatches.{held-each}
use Rattle.cli_read.specs.Decoded.{table_with}
use Rattle.cli_read.specs.Remaining.{Remaining, with_schema}
use Rattle.cli_read.specs.RowBuffers.{table_of_batches}
use Rattle.cli_write.specs.Copies.{Copies, FailsWhileCopying, HasSelectedRows, IsCopy, IsCopyError, WritesCopy}
use Rattle.nest_memory.specs.TypeTree.{FieldTree}

pub in-order : (fs : List FieldTree) (c : SelectionTree) → IsInRowOrder c → IsInRowOrder (resolved_selection fs c)
in-order fs all h = tt
in-order fs (slice o n) h = tt
in-order fs (where_true condition) h = tt
in-order fs (indices places) h = h

-- the selected rows of a table of the schema are the same
selected-same : (s : SchemaModel) (c : SelectionTree) (bs : List RecordBatchTree)
    → unless_error (spec_selection_error (resolved_selection s.fields c) s.fields) (selected_rows (resolved_selection s.fields c) (table_rows (table_of_batches s bs)))
    ≡ unless_error (spec_selection_error c s.fields) (selected_rows c (table_rows (table_of_batches s bs)))
selected-same s c bs =
    ap (λ e. unless_error e (selected_rows (resolved_selection s.fields c) (table_rows (table_of_batches s bs)))) (resolved-error s.fields c)
    ∙ ap (unless_error (spec_selection_error c s.fields)) (resolved-rows s.fields c (table_rows (table_of_batches s bs)) (rows-typed s.fields (table_rows (table_of_batches s bs)) (held-each s.fields bs)))

copy-of : (s : SchemaModel) (c : SelectionTree) (bs : List RecordBatchTree) (t : TableTree) → IsCopy (resolved_selection s.fields c) (table_of_batches s bs) t → IsCopy c (table_of_batches s bs) t
copy-of s all bs t h = h
copy-of s (slice o n) bs t h = h
copy-of s (indices places) bs t h = h
copy-of s (where_true condition) bs t h = (h.0, sym (selected-same s (where_true condition) bs) ∙ h.1)

all-rows : (s : SchemaModel) (c : SelectionTree) (h : TableTree) → HasSelectedRows (resolved_selection s.fields c) h → HasSelectedRows c h
all-rows s all h p = p
all-rows s (slice o n) h p = p
all-rows s (indices places) h p = p
all-rows s (where_true condition) h p = p

all-rows-back : (s : SchemaModel) (c : SelectionTree) (h : TableTree) → HasSelectedRows c h → HasSelectedRows (resolved_selection s.fields c) h
all-rows-back s all h p = p
all-rows-back s (slice o n) h p = p
all-rows-back s (indices places) h p = p
all-rows-back s (where_true condition) h p = p

abbrev Batches : Type 0
Batches = Result (List RecordBatchTree) formats.IpcReadError

writes-copy : (form : forms.Format) (s : SchemaModel) (c : SelectionTree) (read : Batches) (old new : Option (List ℕ)) → WritesCopy (resolved_selection s.fields c) form (table_with s read) old new → WritesCopy c form (table_with s read) old new
writes-copy form s c (Ok bs) old new (t, bytes, copy, encoding, appends) = (t, bytes, copy-of s c bs t copy, encoding, appends)
writes-copy form s c (Err error) old new h = absurd h

sufficient : (s : SchemaModel) (c : SelectionTree) (read : Batches) (whole : Result TableTree formats.IpcReadError) → HasTable (table_with s read) (λ h. (whole ≡ Ok h) ⊎ HasSelectedRows (resolved_selection s.fields c) h) → HasTable (table_with s read) (λ h. (whole ≡ Ok h) ⊎ HasSelectedRows c h)
sufficient s c (Ok bs) whole (inl e) = inl e
sufficient s c (Ok bs) whole (inr p) = inr (all-rows s c (table_of_batches s bs) p)
sufficient s c (Err error) whole h = absurd h

insufficient : (s : SchemaModel) (c : SelectionTree) (read : Batches) → HasTable (table_with s read) (λ h. HasSelectedRows (resolved_selection s.fields c) h → ⊥) → HasTable (table_with s read) (λ h. HasSelectedRows c h → ⊥)
insufficient s c (Ok bs) h = λ p. h (all-rows-back s c (table_of_batches s bs) p)
insufficient s c (Err error) h = absurd h

copy-error : (error : CliError) (form : forms.Format) (front : List RecordBatchTree) (s : SchemaModel) (c : SelectionTree) (read : Batches) → IsCopyError error (resolved_selection s.fields c) form front (table_with s read) → IsCopyError error c form front (table_with s read)
copy-error (Read error) form front s c read h = h
copy-error (Write why) form front s c (Ok bs) (t, copy, refusal) = (t, copy-of s c bs t copy, refusal)
copy-error (Write why) form front s c (Err error) h = absurd h
copy-error (Condition why) form front s c (Ok bs) h = sym (resolved-error s.fields c) ∙ h
copy-error (Condition why) form front s c (Err error) h = absurd h
copy-error (UnknownName i) form front s c read h = h
copy-error MismatchedColumns form front s c read h = h
copy-error IndexOutOfRange form front s c read h = h
copy-error Memory form front s c read h = tt
copy-error Input form front s c read h = tt
copy-error Output form front s c read h = tt

fails-at : (error : CliError) (batch : Option ℕ) (form : forms.Format) (front : List RecordBatchTree) (s : SchemaModel) (c : SelectionTree) (t : Remaining) → FailsWhileCopying (resolved_selection s.fields c) form front (with_schema s t) batch error → FailsWhileCopying c form front (with_schema s t) batch error
fails-at error None form front s c t h = copy-error error form front s c (t.first 0) h
fails-at error (Some k) form front s c t (inl h) = inl (copy-error error form front s c (t.first (k + 1)) h.0, insufficient s c (t.first k) h.1)
fails-at error (Some k) form front s c t (inr h) = inr (copy-error error form front s c (t.first k) h.0, sufficient s c (t.first k) (table_with s t.whole) h.1)

pub copies-resolved : {W : Type 0} (contents : W → Option (List ℕ)) (form : forms.Format) (c : SelectionTree) (s : SchemaModel) (t : Option Remaining) (start : W) (result : Result W BatchError)
    → Copies contents form (resolved_selection s.fields c) (option_map (with_schema s) t) start result → Copies contents form c (option_map (with_schema s) t) start result
copies-resolved contents form c s None start result h = tt
copies-resolved contents form c s (Some t) start (Ok end) (k, wrote, enough) = (k, writes-copy form s c (t.first k) (contents start) (contents end) wrote, sufficient s c (t.first k) (table_with s t.whole) enough)
copies-resolved contents form c s (Some t) start (Err stop) h = fails-at stop.error stop.batch form [] s c t h
