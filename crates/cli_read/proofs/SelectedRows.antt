-- Selected rows of record batches.
use Rattle.std.proofs.Common.{◌≡◌, ℕ, ◌+◌, ◌-◌, List, [], ◌∷◌, ◌++◌, length, take, drop, map, Option, Some, None, option_map, refl, sym, ap, ◌∙◌, arith, append_assoc, append-nil, length-append, eqb-true, true, false}
use Rattle.std.specs.List.{AllByRecursion, filter, flat_map, slice_get}
use Rattle.std.proofs.lemmas.Grind.{flat_map-append}
use Rattle.std.proofs.lemmas.List.Elements.{filter-append}
use Rattle.nest_memory.specs.Sublist.{sublist}
use Rattle.nest_memory.specs.TypeTree.{FieldTree}
use Rattle.nest_model.specs.Fits.{Fits}
use Rattle.nest_model.specs.Meaning.{first_len, len}
use Rattle.nest_array.specs.Seen.{layout_of}
use Rattle.nest_array.specs.declared.any.AnyArray.{AnyArray}
use Rattle.ipc_schema.specs.Schemas.{SchemaModel}
use Rattle.ipc.specs.Streams.{RecordBatchTree}
use Rattle.cli_args.specs.Requests.{SelectionTree, RequestTree, columns, rows, all, slice, indices, where_true}
use Rattle.cli_rows.specs.Selection.{selected_rows}
use Rattle.cli_rows.specs.RowLaws.{rows-length, sublist-both}
use Rattle.cli_rows.specs.Rows.{RowSlot, rows_of}
use Rattle.cli_rows.specs.Conditions.{is_true_in}
use Rattle.cli_rows.specs.Text.{json_line, text_of_rows}
use Rattle.cli_rows.specs.RequestText.{spec_request_text, unless_error}
use Rattle.cli_rows.specs.ColumnNames.{spec_selection_error, request_error}
use Rattle.cli_rows.specs.Tables.{MatchesSchema, TableTree, record_rows}
use Rattle.cli_rows.specs.Records.{record_type, records, side_by_side}
use Rattle.cli_rows.specs.declared.error.CliError.{CliError}
use Rattle.cli_read.specs.RemainingRequests.{HasRequestedRows, IsRequestInRowOrder, batch_table, is_complete_request, remaining_request, table_row_count}
use Rattle.cli_read.specs.RowBuffers.{table_of_batches}
use Rattle.cli_rows.specs.RowOrder.{IsInRowOrder, remaining_selection}
use Rattle.cli_rows.proofs.RemainingSelections.{remaining-error, remaining-none, remaining-twice}

abbrev picked : SelectionTree → List RowSlot → List RowSlot
picked all rs = rs
picked (slice o n) rs = sublist rs o n
picked (where_true condition) rs = filter (is_true_in condition) rs
picked (indices wanted) rs = []

choice-is : (c : SelectionTree) (rs : List RowSlot) → IsInRowOrder c → selected_rows c rs ≡ Some (picked c rs)
choice-is all rs h = refl
choice-is (slice o n) rs h = refl
choice-is (where_true condition) rs h = refl
choice-is (indices wanted) rs h = absurd h

pub left-is : (c : SelectionTree) (k : ℕ) → remaining_request (rows c) k ≡ rows (remaining_selection c k)
left-is all k = refl
left-is (slice o n) k = refl
left-is (where_true condition) k = refl
left-is (indices wanted) k = refl

pub in-order-behind : (c : SelectionTree) (k : ℕ) → IsInRowOrder c → IsInRowOrder (remaining_selection c k)
in-order-behind all k h = tt
in-order-behind (slice o n) k h = tt
in-order-behind (where_true condition) k h = tt
in-order-behind (indices wanted) k h = h

picked-both : (c : SelectionTree) (xs ys : List RowSlot) → IsInRowOrder c → picked c (xs ++ ys) ≡ picked c xs ++ picked (remaining_selection c (length xs)) ys
picked-both all xs ys h = refl
picked-both (slice o n) xs ys h = sublist-both xs ys o n
picked-both (where_true condition) xs ys h = filter-append (is_true_in condition) xs ys
picked-both (indices wanted) xs ys h = absurd h

pub left-twice : (q : RequestTree) (a b : ℕ) → remaining_request (remaining_request q a) b ≡ remaining_request q (a + b)
left-twice columns a b = refl
left-twice (rows c) a b = ap (λ z. remaining_request z b) (left-is c a) ∙ left-is (remaining_selection c a) b ∙ ap rows (remaining-twice c a b) ∙ sym (left-is c (a + b))

pub left-none : (q : RequestTree) → remaining_request q 0 ≡ q
left-none columns = refl
left-none (rows c) = left-is c 0 ∙ ap rows (remaining-none c)

abbrev rows_under : List FieldTree → List RecordBatchTree → List RowSlot
rows_under fs bs = flat_map rows_of (map (records (record_type fs)) (map (λ (b : RecordBatchTree). b.columns) bs))

rows-append : (fs : List FieldTree) (as_ bs : List RecordBatchTree) → rows_under fs (as_ ++ bs) ≡ rows_under fs as_ ++ rows_under fs bs
rows-append fs [] bs = refl
rows-append fs (a ∷ as_) bs =
    ap (λ rs. rows_of (records (record_type fs) a.columns) ++ rs) (rows-append fs as_ bs)
    ∙ sym (append_assoc (rows_of (records (record_type fs) a.columns)) (rows_under fs as_) (rows_under fs bs))

pub count-append : (s : SchemaModel) (as_ bs : List RecordBatchTree) → table_row_count (table_of_batches s (as_ ++ bs)) ≡ table_row_count (table_of_batches s as_) + table_row_count (table_of_batches s bs)
count-append s as_ bs = ap length (rows-append s.fields as_ bs) ∙ length-append (rows_under s.fields as_) (rows_under s.fields bs)

rows-all : (fs : List FieldTree) (as_ bs : List RecordBatchTree) → AllByRecursion Fits (map (records (record_type fs)) (map (λ (b : RecordBatchTree). b.columns) (as_ ++ bs))) → AllByRecursion Fits (map (records (record_type fs)) (map (λ (b : RecordBatchTree). b.columns) bs))
rows-all fs [] bs h = h
rows-all fs (a ∷ as_) bs h = rows-all fs as_ bs h.1

pub has-rows : (s : SchemaModel) (as_ bs : List RecordBatchTree) → MatchesSchema (table_of_batches s (as_ ++ bs)) → MatchesSchema (table_of_batches s bs)
has-rows s as_ bs h = rows-all s.fields as_ bs h

pub count-alone : (s : SchemaModel) (b : RecordBatchTree) → table_row_count (batch_table s (Some b)) ≡ first_len (side_by_side b.columns)
count-alone s b = ap length (append-nil (rows_of (records (record_type s.fields) b.columns))) ∙ rows-length (records (record_type s.fields) b.columns)

pub first-long : (xs : List AnyArray) (x : AnyArray) → Some x ≡ slice_get xs 0 → first_len (side_by_side (map layout_of xs)) ≡ len (layout_of x)
first-long [] x h = absurd cc
first-long (y ∷ ys) x h = let same : y ≡ x = grind (arith, h) in ap (λ (a : AnyArray). len (layout_of a)) same

unless-some : {A : Type 0} (f : Option CliError) (found : Option A) (x : A) → unless_error f found ≡ Some x → (f ≡ None) × (found ≡ Some x)
unless-some None found x h = (refl, h)
unless-some (Some refusal) found x h = absurd cc

pub query-left : (q : RequestTree) (k : ℕ) (fs : List FieldTree) → request_error (remaining_request q k) fs ≡ request_error q fs
query-left columns k fs = refl
query-left (rows c) k fs = ap (λ q. request_error q fs) (left-is c k) ∙ remaining-error c k fs

some-is : {A : Type 0} (x y : A) → Some x ≡ Some y → x ≡ y
some-is x y e = grind (arith, e)

text-is : (c : SelectionTree) (s : SchemaModel) (bs : List RecordBatchTree) (text : List ℕ) → IsInRowOrder c → spec_request_text (rows c) (table_of_batches s bs) ≡ Some text
    → (spec_selection_error c s.fields ≡ None) × (text_of_rows (picked c (rows_under s.fields bs)) ≡ text)
text-is c s bs text h e =
    let u = unless-some (spec_selection_error c s.fields) (option_map text_of_rows (selected_rows c (rows_under s.fields bs))) text e in
    (u.0, some-is _ _ (sym (ap (option_map text_of_rows) (choice-is c (rows_under s.fields bs) h)) ∙ u.1))

is-text : (c : SelectionTree) (s : SchemaModel) (bs : List RecordBatchTree) (text : List ℕ) → IsInRowOrder c → spec_selection_error c s.fields ≡ None → text_of_rows (picked c (rows_under s.fields bs)) ≡ text
    → spec_request_text (rows c) (table_of_batches s bs) ≡ Some text
is-text c s bs text h none e = rw (none, choice-is c (rows_under s.fields bs) h, e) refl

pub answer-both : (c : SelectionTree) (s : SchemaModel) (as_ bs : List RecordBatchTree) (text more : List ℕ) → IsInRowOrder c → spec_request_text (rows c) (table_of_batches s as_) ≡ Some text
    → spec_request_text (remaining_request (rows c) (table_row_count (table_of_batches s as_))) (table_of_batches s bs) ≡ Some more → spec_request_text (rows c) (table_of_batches s (as_ ++ bs)) ≡ Some (text ++ more)
answer-both c s as_ bs text more h e f =
    let xs = rows_under s.fields as_ in
    let ys = rows_under s.fields bs in
    let front = text-is c s as_ text h e in
    let rest = text-is (remaining_selection c (length xs)) s bs more (in-order-behind c (length xs) h) (ap (λ q. spec_request_text q (table_of_batches s bs)) (sym (left-is c (length xs))) ∙ f) in
    is-text c s (as_ ++ bs) (text ++ more) h front.0
    (ap (λ rs. text_of_rows (picked c rs)) (rows-append s.fields as_ bs)
    ∙ ap text_of_rows (picked-both c xs ys h)
    ∙ flat_map-append json_line (picked c xs) (picked (remaining_selection c (length xs)) ys)
    ∙ ap (λ t. t ++ text_of_rows (picked (remaining_selection c (length xs)) ys)) front.1
    ∙ ap (λ t. text ++ t) rest.1)

pub no-place : (q : RequestTree) (s : SchemaModel) (bs : List RecordBatchTree) → IsRequestInRowOrder q → request_error q s.fields ≡ None → spec_request_text q (table_of_batches s bs) ≡ None → ⊥
no-place columns s bs h none e = absurd cc
no-place (rows c) s bs h none e = absurd (grind (arith, sym (is-text c s bs (text_of_rows (picked c (rows_under s.fields bs))) h none refl) ∙ e))

pub enough : (q : RequestTree) (h : TableTree) → is_complete_request (remaining_request q (table_row_count h)) ≡ true → HasRequestedRows q h
enough columns h e = tt
enough (rows all) h e = absurd cc
enough (rows (slice o n)) h e = let z = eqb-true (n - (table_row_count h - o)) 0 e in omega (arith, z)
enough (rows (where_true condition)) h e = absurd cc
enough (rows (indices wanted)) h e = absurd cc

pub not-enough : (q : RequestTree) (h : TableTree) → is_complete_request (remaining_request q (table_row_count h)) ≡ false → HasRequestedRows q h → ⊥
not-enough columns h e is = absurd cc
not-enough (rows all) h e is = is
not-enough (rows (slice o n)) h e is = let z : n - (table_row_count h - o) ≡ 0 = omega (arith, is) in absurd (grind (arith, z, e))
not-enough (rows (where_true condition)) h e is = is
not-enough (rows (indices wanted)) h e is = is

pub enough-is-all : (q : RequestTree) (s : SchemaModel) (as_ bs : List RecordBatchTree) → HasRequestedRows q (table_of_batches s as_) → spec_request_text q (table_of_batches s as_) ≡ spec_request_text q (table_of_batches s (as_ ++ bs))
enough-is-all columns s as_ bs h = refl
enough-is-all (rows all) s as_ bs h = absurd h
enough-is-all (rows (slice o n)) s as_ bs h =
    let xs = rows_under s.fields as_ in
    let ys = rows_under s.fields bs in
    let none : n - (length xs - o) ≡ 0 = omega (arith, h) in
    let same : sublist xs o n ≡ sublist (rows_under s.fields (as_ ++ bs)) o n =
    sym (ap (λ rs. sublist rs o n) (rows-append s.fields as_ bs)
    ∙ sublist-both xs ys o n
    ∙ ap (λ k. sublist xs o n ++ take k (drop (o - length xs) ys)) none
    ∙ append-nil (sublist xs o n)) in
    ap (λ rs. Some (text_of_rows rs)) same
enough-is-all (rows (where_true condition)) s as_ bs h = absurd h
enough-is-all (rows (indices wanted)) s as_ bs h = absurd h
