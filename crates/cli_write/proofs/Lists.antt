-- Selected rows of record batches.
use Rattle.std.proofs.Common.{Ok, append-nil, ◌≡◌, ℕ, ◌+◌, ◌-◌, ◌≤◌, List, [], ◌∷◌, ◌++◌, length, Option, Some, None, true, false, refl, sym, ap, ◌∙◌, subst, arith, append_assoc, eqb-true, length-append}
use Rattle.std.specs.List.{filter, flat_map, slice_get}
use Rattle.std.specs.Prelude.{◌==◌, map, option_map}
use Rattle.std.proofs.lemmas.List.Elements.{filter-append}
use Rattle.nest_memory.specs.Sublist.{sublist}
use Rattle.nest_memory.specs.TypeTree.{FieldTree}
use Rattle.nest_model.specs.Layout.{Layout}
use Rattle.nest_model.specs.Meaning.{first_len, len}
use Rattle.nest_array.specs.Seen.{layout_of}
use Rattle.nest_array.specs.declared.any.AnyArray.{AnyArray}
use Rattle.ipc_schema.specs.Schemas.{SchemaModel}
use Rattle.ipc.specs.Streams.{RecordBatchTree}
use Rattle.cli_rows.specs.RequestText.{unless_error}
use Rattle.cli_rows.specs.ColumnNames.{spec_selection_error}
use Rattle.cli_rows.specs.ConditionErrors.{spec_condition_error}
use Rattle.cli_rows.specs.declared.error.ColumnError.{ColumnError}
use Rattle.cli_rows.specs.Records.{side_by_side}
use Rattle.cli_rows.specs.declared.error.CliError.{CliError}
use Rattle.cli_rows.specs.Selection.{selected_rows}
use Rattle.cli_rows.specs.RowLaws.{cut-none, rows-length, sublist-both}
use Rattle.cli_rows.specs.Rows.{RowSlot, rows_of}
use Rattle.cli_rows.specs.Conditions.{is_true_in}
use Rattle.cli_read.specs.RowBuffers.{table_of_batches}
use Rattle.cli_rows.specs.Compared.{IsRowsError, batch_array}
use Rattle.cli_rows.specs.RequestErrors.{IsIndexError}
use Rattle.cli_rows.specs.SelectedTables.{batch_rows}
use Rattle.cli_rows.specs.declared.error.CliError.TheVariants as causes
use Rattle.cli_args.specs.Requests.{SelectionTree, all, slice, indices, where_true}
use Rattle.cli_args.specs.RequestTrees.{selection_tree}
use Rattle.cli_args.specs.declared.request.Selection.{Selection}
use Rattle.cli_args.specs.declared.request.Selection.TheVariants as choices
use Rattle.cli_write.specs.RemainingSelections.{AreSelectedBatches, IsBatchSelectionError, AreSelectedRows}
use Rattle.cli_rows.specs.RowOrder.{IsInRowOrder, is_complete_selection, remaining_selection}
use Rattle.cli_write.specs.Copies.{IsCopy, HasSelectedRows}

pub rows-both : (fs : List FieldTree) (as_ bs : List RecordBatchTree) → batch_rows fs (as_ ++ bs) ≡ batch_rows fs as_ ++ batch_rows fs bs
rows-both fs [] bs = refl
rows-both fs (a ∷ as_) bs = ap (λ rs. rows_of (batch_array fs a) ++ rs) (rows-both fs as_ bs) ∙ sym (append_assoc (rows_of (batch_array fs a)) (batch_rows fs as_) (batch_rows fs bs))

pub enough : (c : SelectionTree) (s : SchemaModel) (bs : List RecordBatchTree) → is_complete_selection (remaining_selection c (length (batch_rows s.fields bs))) ≡ true → HasSelectedRows c (table_of_batches s bs)
enough all s bs h = absurd cc
enough (slice o n) s bs h = let e = eqb-true (n - (length (batch_rows s.fields bs) - o)) 0 h in omega (arith, e)
enough (where_true condition) s bs h = absurd cc
enough (indices places) s bs h = absurd cc

pub not-enough : (c : SelectionTree) (s : SchemaModel) (bs : List RecordBatchTree) → is_complete_selection (remaining_selection c (length (batch_rows s.fields bs))) ≡ false → HasSelectedRows c (table_of_batches s bs) → ⊥
not-enough all s bs h e = absurd e
not-enough (slice o n) s bs h e =
    let none : n - (length (batch_rows s.fields bs) - o) ≡ 0 = omega (arith, e) in
    let untrue : (0 == 0) ≡ false = subst (λ (m : ℕ). (m == 0) ≡ false) none h in
    cc
not-enough (where_true condition) s bs h e = absurd e
not-enough (indices places) s bs h e = absurd e

some-is : {A : Type 0} (x y : A) → Some x ≡ Some y → x ≡ y
some-is x y e = cc

pub copied-none : (c : SelectionTree) (fs : List FieldTree) → IsInRowOrder c → AreSelectedBatches c fs [] []
copied-none all fs h = refl
copied-none (slice o n) fs h = ap Some (cut-none o n)
copied-none (where_true condition) fs h = refl
copied-none (indices places) fs h = absurd h

pub copied-more : (c : SelectionTree) (fs : List FieldTree) (bs vs more ws : List RecordBatchTree) → IsInRowOrder c → AreSelectedBatches c fs bs vs → AreSelectedBatches (remaining_selection c (length (batch_rows fs bs))) fs more ws → AreSelectedBatches c fs (bs ++ more) (vs ++ ws)
copied-more all fs bs vs more ws h e f = λ i. e i ++ f i
copied-more (slice o n) fs bs vs more ws h e f =
    let k = length (batch_rows fs bs) in
    let x : sublist (batch_rows fs bs) o n ≡ batch_rows fs vs = some-is (sublist (batch_rows fs bs) o n) (batch_rows fs vs) e in
    let y : sublist (batch_rows fs more) (o - k) (n - (k - o)) ≡ batch_rows fs ws = some-is (sublist (batch_rows fs more) (o - k) (n - (k - o))) (batch_rows fs ws) f in
    ap (λ rs. Some (sublist rs o n)) (rows-both fs bs more)
    ∙ ap Some (sublist-both (batch_rows fs bs) (batch_rows fs more) o n ∙ (λ i. x i ++ y i) ∙ sym (rows-both fs vs ws))
copied-more (where_true condition) fs bs vs more ws h e f =
    let x : filter (is_true_in condition) (batch_rows fs bs) ≡ batch_rows fs vs = some-is (filter (is_true_in condition) (batch_rows fs bs)) (batch_rows fs vs) e in
    let y : filter (is_true_in condition) (batch_rows fs more) ≡ batch_rows fs ws = some-is (filter (is_true_in condition) (batch_rows fs more)) (batch_rows fs ws) f in
    ap (λ rs. Some (filter (is_true_in condition) rs)) (rows-both fs bs more)
    ∙ ap Some (filter-append (is_true_in condition) (batch_rows fs bs) (batch_rows fs more) ∙ (λ i. x i ++ y i) ∙ sym (rows-both fs vs ws))
copied-more (indices places) fs bs vs more ws h e f = absurd h

pub is-copy : (c : SelectionTree) (s : SchemaModel) (bs vs : List RecordBatchTree) → spec_selection_error c s.fields ≡ None → AreSelectedBatches c s.fields bs vs → IsCopy c (table_of_batches s bs) (table_of_batches s vs)
is-copy all s bs vs none e = ap (table_of_batches s) e
is-copy (slice o n) s bs vs none e = (refl, e)
is-copy (where_true condition) s bs vs none e = (refl, ap (λ f. unless_error f (selected_rows (where_true condition) (batch_rows s.fields bs))) none ∙ e)
is-copy (indices places) s bs vs none e = (refl, e)

pub no-place : (c : SelectionTree) (k : ℕ) (rows : List RowSlot) → IsInRowOrder c → selected_rows (remaining_selection c k) rows ≡ None → ⊥
no-place all k rows h e = cc
no-place (slice o n) k rows h e = cc
no-place (where_true condition) k rows h e = cc
no-place (indices places) k rows h e = h

pub picked-copied : (c : SelectionTree) (fs : List FieldTree) (bs vs : List RecordBatchTree) → (c ≡ all → ⊥) → AreSelectedRows c fs bs vs → AreSelectedBatches c fs bs vs
picked-copied all fs bs vs other e = absurd (other refl)
picked-copied (slice o n) fs bs vs other e = e
picked-copied (where_true condition) fs bs vs other e = e
picked-copied (indices places) fs bs vs other e = e

abbrev pub IsOfCondition : CliError → Type 0
IsOfCondition (causes.Condition why) = Unit {0}
IsOfCondition (causes.UnknownName i) = ⊥
IsOfCondition (causes.Read error) = ⊥
IsOfCondition (causes.Write why) = ⊥
IsOfCondition causes.MismatchedColumns = ⊥
IsOfCondition causes.IndexOutOfRange = ⊥
IsOfCondition causes.Memory = ⊥
IsOfCondition causes.Input = ⊥
IsOfCondition causes.Output = ⊥

pub of-condition : (c : SelectionTree) (fs : List FieldTree) (r : CliError) → spec_selection_error c fs ≡ Some r → IsOfCondition r
of-condition all fs r e = absurd cc
of-condition (slice o n) fs r e = absurd cc
of-condition (indices places) fs r e = absurd cc
of-condition (where_true condition) fs r e = by (spec_condition_error condition fs) e
  where
    by : (o : Option ColumnError) → option_map causes.Condition o ≡ Some r → IsOfCondition r
    by None e = absurd cc
    by (Some why) e = let is : causes.Condition why ≡ r = cc in subst IsOfCondition is tt

pub column-fails : (error : CliError) (c : SelectionTree) (fs : List FieldTree) (bs : List RecordBatchTree) → spec_selection_error c fs ≡ Some error → IsBatchSelectionError error c fs bs
column-fails error c fs bs e = by error (of-condition c fs error e) e
  where
    by : (f : CliError) → IsOfCondition f → spec_selection_error c fs ≡ Some f → IsBatchSelectionError f c fs bs
    by (causes.Condition why) is e = e
    by (causes.UnknownName i) is e = absurd is
    by (causes.Read error) is e = absurd is
    by (causes.Write why) is e = absurd is
    by causes.MismatchedColumns is e = absurd is
    by causes.IndexOutOfRange is e = absurd is
    by causes.Memory is e = absurd is
    by causes.Input is e = absurd is
    by causes.Output is e = absurd is

pub rows-fail : (error : CliError) (c : SelectionTree) (s : SchemaModel) (b : RecordBatchTree) → IsRowsError error (Ok (table_of_batches s (b ∷ []))) → IsBatchSelectionError error c s.fields (b ∷ [])
rows-fail (causes.Read error) c s b e = λ real. let same = e real in cc
rows-fail causes.MismatchedColumns c s b e = e
rows-fail causes.Memory c s b e = tt
rows-fail (causes.Write why) c s b e = e
rows-fail causes.IndexOutOfRange c s b e = absurd e
rows-fail (causes.Condition why) c s b e = absurd e
rows-fail (causes.UnknownName i) c s b e = absurd e
rows-fail causes.Input c s b e = e
rows-fail causes.Output c s b e = e

pub index-fails : (error : CliError) (c : SelectionTree) (fs : List FieldTree) (bs : List RecordBatchTree) (rows : List RowSlot) → rows ≡ batch_rows fs bs → IsIndexError error (selected_rows c rows) → IsBatchSelectionError error c fs bs
index-fails causes.IndexOutOfRange c fs bs rows same e = ap (selected_rows c) (sym same) ∙ e
index-fails causes.Memory c fs bs rows same e = tt
index-fails (causes.Read error) c fs bs rows same e = absurd e
index-fails (causes.Write why) c fs bs rows same e = e
index-fails causes.MismatchedColumns c fs bs rows same e = absurd e
index-fails (causes.Condition why) c fs bs rows same e = absurd e
index-fails (causes.UnknownName i) c fs bs rows same e = absurd e
index-fails causes.Input c fs bs rows same e = e
index-fails causes.Output c fs bs rows same e = e

pub rows-alone : (as_ : List AnyArray) (a : AnyArray) (fs : List FieldTree) (b : RecordBatchTree) → as_ ≡ a ∷ [] → layout_of a ≡ batch_array fs b → flat_map rows_of (map layout_of as_) ≡ batch_rows fs (b ∷ [])
rows-alone as_ a fs b alone is = ap (λ (xs : List AnyArray). flat_map rows_of (map layout_of xs)) alone ∙ ap (λ (l : Layout). rows_of l ++ []) is

count-of : (fs : List FieldTree) (b : RecordBatchTree) → length (batch_rows fs (b ∷ [])) ≡ len (batch_array fs b)
count-of fs b = ap length (append-nil (rows_of (batch_array fs b))) ∙ rows-length (batch_array fs b)

pub count-bare : {X : Type 0} (f : X → FieldTree) (xs : List X) (b : RecordBatchTree) → true ≡ (length xs == 0) → b.rows ≡ length (batch_rows (map f xs) (b ∷ []))
count-bare f [] b h = sym (count-of [] b)
count-bare f (x ∷ xs) b h = let e = eqb-true (length (x ∷ xs)) 0 (sym h) in absurd (omega (arith, e))

pub count-columns : {X : Type 0} (f : X → FieldTree) (xs : List X) (b : RecordBatchTree) → false ≡ (length xs == 0) → first_len (side_by_side b.columns) ≡ length (batch_rows (map f xs) (b ∷ []))
count-columns f [] b h = absurd cc
count-columns f (x ∷ xs) b h = sym (count-of (f x ∷ map f xs) b)

pub first-none : (as_ : List AnyArray) → None ≡ slice_get as_ 0 → 0 ≡ first_len (side_by_side (map layout_of as_))
first-none [] h = refl
first-none (a ∷ as_) h = absurd cc

pub first-some : (as_ : List AnyArray) (a : AnyArray) → Some a ≡ slice_get as_ 0 → len (layout_of a) ≡ first_len (side_by_side (map layout_of as_))
first-some [] a h = absurd cc
first-some (x ∷ as_) a h = let is : a ≡ x = grind (arith, h) in ap (λ (z : AnyArray). len (layout_of z)) is

pub other-than-all : (c : Selection) → (c ≡ choices.All → ⊥) → selection_tree c ≡ all → ⊥
other-than-all choices.All differs e = differs refl
other-than-all (choices.Slice o n) differs e = cc
other-than-all (choices.Indices ps) differs e = cc
other-than-all (choices.Where name) differs e = cc
