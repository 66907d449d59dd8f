-- Text of requests whose columns are resolved.
use Rattle.std.proofs.Common.{◌≡◌, ◌∙◌, ◌+◌, ℕ, List, Option, Some, None, Result, Ok, Err, inl, inr, ap, refl, sym}
use Rattle.std.specs.Prelude.{⊤}
use Rattle.std.specs.Io.KnownBytes.{Keeps}
use Rattle.std.specs.Option.{option_map}
use Rattle.ipc_flatbuf.specs.declared.error.IpcReadError as formats
use Rattle.nest_memory.specs.TypeTree.{FieldTree}
use Rattle.ipc_schema.specs.Schemas.{SchemaModel}
use Rattle.ipc.specs.Streams.{RecordBatchTree}
use Rattle.cli_args.specs.Requests.{RequestTree, all, columns, indices, rows, slice, where_true}
use Rattle.cli_rows.specs.ColumnNames.{request_error, resolved_request, resolved_selection, spec_selection_error}
use Rattle.cli_rows.specs.Output.{IsPrintError, printed_text}
use Rattle.cli_rows.specs.Records.{record_type}
use Rattle.cli_rows.specs.RequestText.{spec_request_text, unless_error}
use Rattle.cli_rows.specs.Selection.{selected_rows}
use Rattle.cli_rows.specs.Tables.{TableTree, record_rows}
use Rattle.cli_rows.specs.Text.{text_of_rows}
use Rattle.cli_rows.specs.declared.error.BatchError.{BatchError}
use Rattle.cli_rows.specs.declared.error.CliError.{CliError}
use Rattle.cli_rows.specs.declared.error.CliError.TheVariants.{Input, Read, Write, MismatchedColumns, IndexOutOfRange, Condition, UnknownName, Output, Memory}
use Rattle.cli_rows.proofs.Resolved.{records-typed, resolved-error, resolved-rows}
use Rattle.cli_read.specs.Decoded.{table_with}
use Rattle.cli_read.specs.Printed.{FailsWhilePrinting, FailsWith, HasRowsToPrint, Prints, WritesText, WritesTextPrefix}
use Rattle.cli_read.specs.Remaining.{Remaining, with_schema}
use Rattle.cli_read.specs.RemainingRequests.{HasRequestedRows, IsRequestInRowOrder}
use Rattle.cli_read.specs.RowBuffers.{table_of_batches}

pub in-order : (fs : List FieldTree) (q : RequestTree) → IsRequestInRowOrder q → IsRequestInRowOrder (resolved_request fs q)
in-order fs columns h = tt
in-order fs (rows all) h = tt
in-order fs (rows (slice o n)) h = tt
in-order fs (rows (where_true condition)) h = tt
in-order fs (rows (indices places)) h = h

error-same : (fs : List FieldTree) (q : RequestTree) → request_error (resolved_request fs q) fs ≡ request_error q fs
error-same fs columns = refl
error-same fs (rows c) = resolved-error fs c

text-same : (s : SchemaModel) (q : RequestTree) (bs : List RecordBatchTree) → spec_request_text (resolved_request s.fields q) (table_of_batches s bs) ≡ spec_request_text q (table_of_batches s bs)
text-same s columns bs = refl
text-same s (rows c) bs =
    let them = record_rows (table_of_batches s bs) in
    ap (λ e. unless_error e (option_map text_of_rows (selected_rows (resolved_selection s.fields c) them))) (resolved-error s.fields c)
    ∙ ap (λ r. unless_error (spec_selection_error c s.fields) (option_map text_of_rows r)) (resolved-rows s.fields c them (λ some. records-typed (record_type s.fields) bs))

abbrev Batches : Type 0
Batches = Result (List RecordBatchTree) formats.IpcReadError

printed-same : (s : SchemaModel) (q : RequestTree) (read : Batches) → printed_text (resolved_request s.fields q) (table_with s read) ≡ printed_text q (table_with s read)
printed-same s q (Ok bs) = text-same s q bs
printed-same s q (Err error) = refl

writes-text : (s : SchemaModel) (q : RequestTree) (read : Batches) (old new : Option (List ℕ)) → WritesText (resolved_request s.fields q) (table_with s read) old new → WritesText q (table_with s read) old new
writes-text s q read old new (text, is, appends) = (text, sym (printed-same s q read) ∙ is, appends)

writes-prefix : (s : SchemaModel) (q : RequestTree) (read : Batches) (old new : Option (List ℕ)) → WritesTextPrefix (resolved_request s.fields q) (table_with s read) old new → WritesTextPrefix q (table_with s read) old new
writes-prefix s q read old new (text, is, prefix) = (text, sym (printed-same s q read) ∙ is, prefix)

all-rows : (s : SchemaModel) (q : RequestTree) (t : TableTree) → HasRequestedRows (resolved_request s.fields q) t → HasRequestedRows q t
all-rows s columns t h = tt
all-rows s (rows all) t h = h
all-rows s (rows (slice o n)) t h = h
all-rows s (rows (indices places)) t h = h
all-rows s (rows (where_true condition)) t h = h

all-rows-back : (s : SchemaModel) (q : RequestTree) (t : TableTree) → HasRequestedRows q t → HasRequestedRows (resolved_request s.fields q) t
all-rows-back s columns t h = tt
all-rows-back s (rows all) t h = h
all-rows-back s (rows (slice o n)) t h = h
all-rows-back s (rows (indices places)) t h = h
all-rows-back s (rows (where_true condition)) t h = h

sufficient : (s : SchemaModel) (q : RequestTree) (read : Batches) → HasRowsToPrint (resolved_request s.fields q) (table_with s read) → HasRowsToPrint q (table_with s read)
sufficient s q (Ok bs) h = all-rows s q (table_of_batches s bs) h
sufficient s q (Err error) h = absurd h

sufficient-back : (s : SchemaModel) (q : RequestTree) (read : Batches) → HasRowsToPrint q (table_with s read) → HasRowsToPrint (resolved_request s.fields q) (table_with s read)
sufficient-back s q (Ok bs) h = all-rows-back s q (table_of_batches s bs) h
sufficient-back s q (Err error) h = absurd h

print-error : (error : CliError) (s : SchemaModel) (q : RequestTree) (read : Batches) → IsPrintError error (resolved_request s.fields q) (table_with s read) → IsPrintError error q (table_with s read)
print-error (Read error) s q read h = h
print-error MismatchedColumns s q (Ok bs) h = (sym (error-same s.fields q) ∙ h.0, h.1)
print-error MismatchedColumns s q (Err error) h = absurd h
print-error IndexOutOfRange s q (Ok bs) h = (sym (error-same s.fields q) ∙ h.0, sym (text-same s q bs) ∙ h.1)
print-error IndexOutOfRange s q (Err error) h = absurd h
print-error (Condition why) s q (Ok bs) h = sym (error-same s.fields q) ∙ h
print-error (Condition why) s q (Err error) h = absurd h
print-error (UnknownName i) s q read h = h
print-error Memory s q read h = tt
print-error Input s q read h = h
print-error Output s q read h = h
print-error (Write why) s q read h = h

fails-with : (error : CliError) (s : SchemaModel) (q : RequestTree) (read : Batches) (Earlier Before : Type 0) (old new : Option (List ℕ)) → (Earlier → Before)
    → FailsWith error (resolved_request s.fields q) (table_with s read) Earlier old new → FailsWith error q (table_with s read) Before old new
fails-with Output s q read Earlier Before old new k h = writes-prefix s q read old new h
fails-with Input s q read Earlier Before old new k h = k h
fails-with (Read error) s q read Earlier Before old new k h = (k h.0, print-error (Read error) s q read h.1)
fails-with (Write why) s q read Earlier Before old new k h = (k h.0, print-error (Write why) s q read h.1)
fails-with MismatchedColumns s q read Earlier Before old new k h = (k h.0, print-error MismatchedColumns s q read h.1)
fails-with IndexOutOfRange s q read Earlier Before old new k h = (k h.0, print-error IndexOutOfRange s q read h.1)
fails-with (Condition why) s q read Earlier Before old new k h = (k h.0, print-error (Condition why) s q read h.1)
fails-with (UnknownName i) s q read Earlier Before old new k h = (k h.0, print-error (UnknownName i) s q read h.1)
fails-with Memory s q read Earlier Before old new k h = (k h.0, tt)

fails-at : (error : CliError) (batch : Option ℕ) (s : SchemaModel) (q : RequestTree) (t : Remaining) (old new : Option (List ℕ)) → FailsWhilePrinting (resolved_request s.fields q) (with_schema s t) batch error old new → FailsWhilePrinting q (with_schema s t) batch error old new
fails-at error None s q t old new h = fails-with error s q (t.first 0) (Keeps old new) (Keeps old new) old new (λ kept. kept) h
fails-at error (Some k) s q t old new h = (
  fails-with error s q (t.first (k + 1)) (WritesText (resolved_request s.fields q) (table_with s (t.first k)) old new) (WritesText q (table_with s (t.first k)) old new) old new (writes-text s q (t.first k) old new) h.0,
  λ enough. h.1 (sufficient-back s q (t.first k) enough),
)

pub prints-resolved : (q : RequestTree) (s : SchemaModel) (t : Option Remaining) (result : Result ⊤ BatchError) (old new : Option (List ℕ)) → Prints (resolved_request s.fields q) (option_map (with_schema s) t) result old new → Prints q (option_map (with_schema s) t) result old new
prints-resolved q s None result old new h = tt
prints-resolved q s (Some t) (Ok done) old new (k, wrote, inl all_read) = (k, writes-text s q (t.first k) old new wrote, inl all_read)
prints-resolved q s (Some t) (Ok done) old new (k, wrote, inr enough) = (k, writes-text s q (t.first k) old new wrote, inr (sufficient s q (t.first k) enough))
prints-resolved q s (Some t) (Err stop) old new h = fails-at stop.error stop.batch s q t old new h
