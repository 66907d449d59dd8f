-- The text of a request after one more record batch.
use Rattle.std.proofs.Common.{◌≡◌, ℕ, List, [], ◌∷◌, ◌++◌, Option, Some, None, Result, Ok, true, false, sym, ap, subst, ◌∙◌, arith, append_assoc}
use Rattle.std.specs.Io.KnownBytes.{Appends, Keeps}
use Rattle.std.proofs.KnownBytes.{Appends-kept, Appends-trans}
use Rattle.ipc_schema.specs.Schemas.{SchemaModel}
use Rattle.ipc.specs.Streams.{RecordBatchTree}
use Rattle.ipc_io.specs.Writes.{WritesPrefix}
use Rattle.cli_args.specs.Requests.{RequestTree, columns, rows}
use Rattle.cli_rows.specs.RequestText.{spec_request_text}
use Rattle.cli_rows.specs.ColumnNames.{request_error}
use Rattle.cli_rows.specs.Tables.{TableTree, MatchesSchema, record_rows}
use Rattle.cli_rows.specs.Output.{printed_text}
use Rattle.cli_rows.specs.declared.error.CliError.{CliError}
use Rattle.cli_rows.specs.declared.error.CliError.TheVariants.{Input, Read, Write, MismatchedColumns, IndexOutOfRange, Condition, UnknownName, Output, Memory}
use Rattle.cli_read.specs.RemainingRequests.{IsRequestInRowOrder, batch_table, is_complete_request, remaining_request, table_row_count}
use Rattle.cli_read.specs.Printed.{FailsWith, HasRowsToPrint, WritesText}
use Rattle.cli_read.specs.RowBuffers.{table_of_batches}
use Rattle.cli_read.proofs.SelectedRows.{answer-both, count-append, enough, has-rows, in-order-behind, left-is, left-none, left-twice, no-place, not-enough, query-left}

pub record Going (q left : RequestTree) (s : SchemaModel) (bs : List RecordBatchTree) (old new : Option (List ℕ)) : Type 0 where
  pub order : IsRequestInRowOrder q
  pub text : List ℕ
  pub answers : printed_text q (Ok (table_of_batches s bs)) ≡ Some text
  pub written : Appends old new text
  pub left_is : left ≡ remaining_request q (table_row_count (table_of_batches s bs))

pub begun : (q : RequestTree) (s : SchemaModel) (old new : Option (List ℕ)) → IsRequestInRowOrder q → WritesText q (Ok (batch_table s None)) old new → Going q q s [] old new
begun q s old new order w = record {
  order = order;
  text = w.0;
  answers = w.1;
  written = w.2;
  left_is = sym (left-none q);
}

more-is-rows : (q left : RequestTree) (s : SchemaModel) (bs : List RecordBatchTree) (old new : Option (List ℕ)) (b : RecordBatchTree) (more : List ℕ) → Going q left s bs old new → is_complete_request left ≡ false → spec_request_text left (batch_table s (Some b)) ≡ Some more
    → (g : Going q left s bs old new) → printed_text q (Ok (table_of_batches s (bs ++ b ∷ []))) ≡ Some (g.text ++ more)
more-is-rows columns left s bs old new b more going more_asked e g = absurd (grind (arith, g.left_is, more_asked))
more-is-rows (rows c) left s bs old new b more going more_asked e g =
    answer-both c s bs (b ∷ []) g.text more g.order g.answers (ap (λ q. spec_request_text q (table_of_batches s (b ∷ []))) (sym g.left_is) ∙ e)

pub gone-on : (q left next : RequestTree) (s : SchemaModel) (bs : List RecordBatchTree) (old mid new : Option (List ℕ)) (b : RecordBatchTree) → Going q left s bs old mid → is_complete_request left ≡ false → WritesText left (Ok (batch_table s (Some b))) mid new → next ≡ remaining_request left (table_row_count (batch_table s (Some b)))
    → Going q next s (bs ++ b ∷ []) old new
gone-on q left next s bs old mid new b g more_asked w is = record {
  order = g.order;
  text = g.text ++ w.0;
  answers = more-is-rows q left s bs old mid b w.0 g more_asked w.1 g;
  written = Appends-trans old mid new g.text w.0 g.written w.2;
  left_is =
      is
      ∙ ap (λ z. remaining_request z (table_row_count (batch_table s (Some b)))) g.left_is
      ∙ left-twice q (table_row_count (table_of_batches s bs)) (table_row_count (batch_table s (Some b)))
      ∙ ap (remaining_request q) (sym (count-append s bs (b ∷ [])));
}

pub wrote-first : (q left : RequestTree) (s : SchemaModel) (bs : List RecordBatchTree) (old new : Option (List ℕ)) → Going q left s bs old new → WritesText q (Ok (table_of_batches s bs)) old new
wrote-first q left s bs old new g = (g.text, g.answers, g.written)

wrote-kept : (q left : RequestTree) (s : SchemaModel) (bs : List RecordBatchTree) (old mid new : Option (List ℕ)) → Going q left s bs old mid → Keeps mid new → WritesText q (Ok (table_of_batches s bs)) old new
wrote-kept q left s bs old mid new g kept = (g.text, g.answers, Appends-kept old mid new g.text g.written kept)

begins-behind : (old mid new : Option (List ℕ)) (text more : List ℕ) → Appends old mid text → WritesPrefix mid new more → WritesPrefix old new (text ++ more)
begins-behind old mid new text more w b = (
  text ++ b.0,
  b.1,
  ap (λ l. text ++ l) b.2 ∙ sym (append_assoc text b.0 b.1),
  Appends-trans old mid new text b.0 w b.3,
)

columns-left : (q left : RequestTree) (s : SchemaModel) (bs : List RecordBatchTree) (old new : Option (List ℕ)) (g : Going q left s bs old new) → request_error left s.fields ≡ request_error q s.fields
columns-left q left s bs old new g = ap (λ z. request_error z s.fields) g.left_is ∙ query-left q (table_row_count (table_of_batches s bs)) s.fields

order-left : (q : RequestTree) (k : ℕ) → IsRequestInRowOrder q → IsRequestInRowOrder (remaining_request q k)
order-left columns k h = tt
order-left (rows c) k h = subst IsRequestInRowOrder (sym (left-is c k)) (in-order-behind c k h)

pub halted : (error : CliError) (q left : RequestTree) (s : SchemaModel) (bs : List RecordBatchTree) (old mid new : Option (List ℕ)) (b : RecordBatchTree) → Going q left s bs old mid → is_complete_request left ≡ false → FailsWith error left (Ok (batch_table s (Some b))) (Keeps mid new) mid new
    → FailsWith error q (Ok (table_of_batches s (bs ++ b ∷ []))) (WritesText q (Ok (table_of_batches s bs)) old new) old new
halted Output q left s bs old mid new b g more_asked h = (
  g.text ++ h.0,
  more-is-rows q left s bs old mid b h.0 g more_asked h.1 g,
  begins-behind old mid new g.text h.0 g.written h.2,
)
halted Input q left s bs old mid new b g more_asked h = wrote-kept q left s bs old mid new g h
halted (Read error) q left s bs old mid new b g more_asked h = (wrote-kept q left s bs old mid new g h.0, λ real. absurd (grind (arith, h.1 real)))
halted (Write why) q left s bs old mid new b g more_asked h = absurd h.1
halted MismatchedColumns q left s bs old mid new b g more_asked h = (
  wrote-kept q left s bs old mid new g h.0,
  (sym (columns-left q left s bs old mid g) ∙ h.1.0, λ has. h.1.1 (has-rows s bs (b ∷ []) has)),
)
halted IndexOutOfRange q left s bs old mid new b g more_asked h = absurd (no-place left s (b ∷ []) (subst IsRequestInRowOrder (sym g.left_is) (order-left q (table_row_count (table_of_batches s bs)) g.order)) h.1.0 h.1.1)
halted (Condition why) q left s bs old mid new b g more_asked h = (wrote-kept q left s bs old mid new g h.0, sym (columns-left q left s bs old mid g) ∙ h.1)
halted (UnknownName i) q left s bs old mid new b g more_asked h = absurd h.1
halted Memory q left s bs old mid new b g more_asked h = (wrote-kept q left s bs old mid new g h.0, tt)

pub is-enough : (q left : RequestTree) (s : SchemaModel) (bs : List RecordBatchTree) (old new : Option (List ℕ)) → Going q left s bs old new → is_complete_request left ≡ true → HasRowsToPrint q (Ok (table_of_batches s bs))
is-enough q left s bs old new g e = enough q (table_of_batches s bs) (ap is_complete_request (sym g.left_is) ∙ e)

pub is-not-enough : (q left : RequestTree) (s : SchemaModel) (bs : List RecordBatchTree) (old new : Option (List ℕ)) → Going q left s bs old new → is_complete_request left ≡ false → HasRowsToPrint q (Ok (table_of_batches s bs)) → ⊥
is-not-enough q left s bs old new g e is = not-enough q (table_of_batches s bs) (ap is_complete_request (sym g.left_is) ∙ e) is
