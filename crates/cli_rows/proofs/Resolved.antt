-- Selections whose columns are resolved.
use Rattle.std.proofs.Common.{◌≡◌, ℕ, zero, suc, ◌<◌, Bool, true, false, List, [], ◌∷◌, length, map, Option, Some, None, option_map, bytes_eq, if◌then◌else◌, refl, sym, ap, subst, ◌∙◌, arith}
use Rattle.std.specs.Option.{option_and_then, option_or}
use Rattle.std.specs.Prelude.{is_some, unwrap_or}
use Rattle.std.specs.List.{AllByRecursion, filter, flat_map}
use Rattle.std.proofs.Math.Bool.{cond}
use Rattle.nest_memory.specs.TypeOf.{field_trees}
use Rattle.nest_memory.specs.TypeTree.{FieldTree, TypeTree, field_type, more_fields}
use Rattle.nest_model.specs.Meaning.{slots_of}
use Rattle.nest_model.specs.Slot as slots
use Rattle.nest_model.specs.Slot.{Slot, Slots, more_slots, no_slots}
use Rattle.json_write.specs.JsonText.{field_name}
use Rattle.ipc.specs.Streams.{RecordBatchTree}
use Rattle.cli_args.specs.Columns.{ColumnTree, indexed, named}
use Rattle.cli_args.specs.Conditions as literals
use Rattle.cli_args.specs.Conditions.{ConditionTree, LiteralTree, NumberTree, both, compare, either, is_null, is_true, negation}
use Rattle.cli_args.specs.declared.condition.Comparison.{Comparison}
use Rattle.cli_args.specs.Requests.{SelectionTree, all, indices, slice, where_true}
use Rattle.cli_rows.specs.Conditions.{is_true_in, nullness, spec_compared, spec_truth, truth_of, value_at, value_named, value_of}
use Rattle.cli_rows.specs.Comparisons.{spec_holds_of, spec_number_order, spec_order, spec_ordered}
use Rattle.cli_rows.specs.Kinds.{spec_column_kind}
use Rattle.cli_rows.specs.TimeLiterals.{spec_number_of_text}
use Rattle.cli_rows.specs.declared.error.ColumnError.TheVariants.{InvalidText}
use Rattle.cli_rows.specs.declared.select.kinds.ValueKind.{ValueKind}
use Rattle.cli_rows.specs.declared.select.kinds.ValueKind.TheVariants as kinds
use Rattle.cli_rows.specs.ConditionErrors.{number_or_text, resolved_condition, resolved_literal, spec_boolean_error, spec_column_error, spec_comparison_error, spec_condition_error, spec_field_kind, spec_kind_error}
use Rattle.cli_rows.specs.ColumnFields.{column_by_index, field_of_column, resolved_column, spec_column_index, spec_field_at, spec_field_named}
use Rattle.cli_rows.specs.Truth.{truth_and, truth_not, truth_or}
use Rattle.cli_rows.specs.ColumnNames.{resolved_selection, spec_selection_error}
use Rattle.cli_rows.specs.declared.error.CliError.TheVariants.{Condition}
use Rattle.cli_rows.specs.Records.{record_type, records}
use Rattle.cli_rows.specs.Rows.{RowSlot, rows_of}
use Rattle.cli_rows.specs.SelectedTables.{AreRowsOf}
use Rattle.cli_rows.specs.Selection.{selected_rows}
use Rattle.cli_rows.proofs.SelectedBatches.{both-all}

pub under-suc : (o : Option ℕ) (i : ℕ) → option_map suc o ≡ Some i → (k : ℕ) × (o ≡ Some k) × (suc k ≡ i)
under-suc None i e = absurd cc
under-suc (Some k) i e = let is : suc k ≡ i = cc in (k, refl, is)

same-field : (name : List ℕ) (fs : List FieldTree) (i : ℕ) → spec_column_index name fs ≡ Some i → spec_field_named name fs ≡ spec_field_at i fs
same-field name [] i e = absurd cc
same-field name (f ∷ fs) i e = by_name (bytes_eq (field_name f) name) (same-field name fs) e
  where
    by_name : (q : Bool) → ((k : ℕ) → spec_column_index name fs ≡ Some k → spec_field_named name fs ≡ spec_field_at k fs) → (if q then Some 0 else option_map suc (spec_column_index name fs)) ≡ Some i
        → (if q then Some f else spec_field_named name fs) ≡ spec_field_at i (f ∷ fs)
    by_name true others e = let is : 0 ≡ i = cc in subst (λ k. Some f ≡ spec_field_at k (f ∷ fs)) is refl
    by_name false others e =
        let w = under-suc (spec_column_index name fs) i e in
        subst (λ k. spec_field_named name fs ≡ spec_field_at k (f ∷ fs)) w.2 (others w.0 w.1)

same-named : (name : List ℕ) (fs : List FieldTree) (i : ℕ) (ss : Slots) → spec_column_index name fs ≡ Some i → value_named name (field_trees fs) ss ≡ value_at i (field_trees fs) ss
same-named name [] i ss e = absurd cc
same-named name (f ∷ fs) i no_slots e = refl
same-named name (f ∷ fs) i (more_slots s ss) e = by_name (bytes_eq (field_name f) name) (λ k h. same-named name fs k ss h) e
  where
    by_name : (q : Bool) → ((k : ℕ) → spec_column_index name fs ≡ Some k → value_named name (field_trees fs) ss ≡ value_at k (field_trees fs) ss) → (if q then Some 0 else option_map suc (spec_column_index name fs)) ≡ Some i
        → (if q then Some (field_type f, s) else value_named name (field_trees fs) ss) ≡ value_at i (more_fields f (field_trees fs)) (more_slots s ss)
    by_name true others e = let is : 0 ≡ i = cc in subst (λ k. Some (field_type f, s) ≡ value_at k (more_fields f (field_trees fs)) (more_slots s ss)) is refl
    by_name false others e =
        let w = under-suc (spec_column_index name fs) i e in
        subst (λ k. value_named name (field_trees fs) ss ≡ value_at k (more_fields f (field_trees fs)) (more_slots s ss)) w.2 (others w.0 w.1)

-- ---- a resolved column

column-field : (fs : List FieldTree) (column : ColumnTree) → field_of_column (resolved_column fs column) fs ≡ field_of_column column fs
column-field fs (indexed i) = refl
column-field fs (named name) = by_index (spec_column_index name fs) refl
  where
    by_index : (o : Option ℕ) → spec_column_index name fs ≡ o → field_of_column (column_by_index name o) fs ≡ spec_field_named name fs
    by_index None e = refl
    by_index (Some i) e = sym (same-field name fs i e)

column-value : (fs : List FieldTree) (column : ColumnTree) (ss : Slots) → value_of (resolved_column fs column) (field_trees fs) ss ≡ value_of column (field_trees fs) ss
column-value fs (indexed i) ss = refl
column-value fs (named name) ss = by_index (spec_column_index name fs) refl
  where
    by_index : (o : Option ℕ) → spec_column_index name fs ≡ o → value_of (column_by_index name o) (field_trees fs) ss ≡ value_named name (field_trees fs) ss
    by_index None e = refl
    by_index (Some i) e = sym (same-named name fs i ss e)

no-column : (column : ColumnTree) → resolved_column [] column ≡ column
no-column (named name) = refl
no-column (indexed i) = refl

-- ---- a resolved literal

no-literal : (literal : LiteralTree) → resolved_literal None literal ≡ literal
no-literal (literals.number n) = refl
no-literal (literals.text bs) = refl
no-literal (literals.boolean b) = refl

no-field : (literal : LiteralTree) (column : ColumnTree) → resolved_literal (spec_field_kind (field_of_column column [])) literal ≡ literal
no-field literal (named name) = no-literal literal
no-field literal (indexed i) = no-literal literal

same-order : (kind : Option ValueKind) (literal : LiteralTree) (v : Slot) → spec_order kind (resolved_literal kind literal) v ≡ spec_order kind literal v
same-order (Some (kinds.Temporal u)) (literals.text bs) v = by (spec_number_of_text u bs) refl
  where
    by : (o : Option NumberTree) → spec_number_of_text u bs ≡ o → spec_order (Some (kinds.Temporal u)) (number_or_text bs o) v ≡ spec_order (Some (kinds.Temporal u)) (literals.text bs) v
    by None e = refl
    by (Some n) e = sym (ap (λ o. spec_ordered (option_and_then (spec_number_order 0 v) o)) e)
same-order (Some (kinds.Temporal u)) (literals.number n) v = refl
same-order (Some (kinds.Temporal u)) (literals.boolean b) v = refl
same-order (Some (kinds.Number s)) literal v = refl
same-order (Some (kinds.Float p)) literal v = refl
same-order (Some kinds.String) literal v = refl
same-order (Some kinds.Boolean) literal v = refl
same-order None literal v = ap (λ l. spec_order None l v) (no-literal literal)

same-compared : (op : Comparison) (literal : LiteralTree) (t : TypeTree) (v : Slot) → spec_compared op (resolved_literal (spec_column_kind t) literal) (t, v) ≡ spec_compared op literal (t, v)
same-compared op literal t v = ap (option_map (spec_holds_of op)) (same-order (spec_column_kind t) literal v)

same-error : (at : ℕ) (kind : Option ValueKind) (literal : LiteralTree) → spec_kind_error at (resolved_literal kind literal) kind ≡ spec_kind_error at literal kind
same-error at (Some (kinds.Temporal u)) (literals.text bs) = by (spec_number_of_text u bs) refl
  where
    by : (o : Option NumberTree) → spec_number_of_text u bs ≡ o → spec_kind_error at (number_or_text bs o) (Some (kinds.Temporal u)) ≡ spec_kind_error at (literals.text bs) (Some (kinds.Temporal u))
    by None e = refl
    by (Some n) e = sym (ap (λ o. if is_some o then None else Some (InvalidText at)) e)
same-error at (Some (kinds.Temporal u)) (literals.number n) = refl
same-error at (Some (kinds.Temporal u)) (literals.boolean b) = refl
same-error at (Some (kinds.Number s)) literal = refl
same-error at (Some (kinds.Float p)) literal = refl
same-error at (Some kinds.String) literal = refl
same-error at (Some kinds.Boolean) literal = refl
same-error at None literal = ap (λ l. spec_kind_error at l None) (no-literal literal)

field-error : (at : ℕ) (literal : LiteralTree) (o : Option FieldTree) → spec_comparison_error at (resolved_literal (spec_field_kind o) literal) o ≡ spec_comparison_error at literal o
field-error at literal None = refl
field-error at literal (Some f) = same-error at (spec_column_kind (field_type f)) literal

abbrev compared_value : Comparison → LiteralTree → Option FieldTree → Option RowSlot → Option Bool
compared_value op literal f r = option_and_then (spec_compared op (resolved_literal (spec_field_kind f) literal)) r

named-literal : (op : Comparison) (literal : LiteralTree) (name : List ℕ) (fs : List FieldTree) (ss : Slots) → compared_value op literal (spec_field_named name fs) (value_named name (field_trees fs) ss) ≡ option_and_then (spec_compared op literal) (value_named name (field_trees fs) ss)
named-literal op literal name [] ss = refl
named-literal op literal name (f ∷ fs) no_slots = refl
named-literal op literal name (f ∷ fs) (more_slots s ss) = by (bytes_eq (field_name f) name) (named-literal op literal name fs ss)
  where
    by : (q : Bool) → compared_value op literal (spec_field_named name fs) (value_named name (field_trees fs) ss) ≡ option_and_then (spec_compared op literal) (value_named name (field_trees fs) ss)
        → compared_value op literal (if q then Some f else spec_field_named name fs) (if q then Some (field_type f, s) else value_named name (field_trees fs) ss)
        ≡ option_and_then (spec_compared op literal) (if q then Some (field_type f, s) else value_named name (field_trees fs) ss)
    by true rest = same-compared op literal (field_type f) s
    by false rest = rest

indexed-literal : (op : Comparison) (literal : LiteralTree) (i : ℕ) (fs : List FieldTree) (ss : Slots) → compared_value op literal (spec_field_at i fs) (value_at i (field_trees fs) ss) ≡ option_and_then (spec_compared op literal) (value_at i (field_trees fs) ss)
indexed-literal op literal i [] ss = refl
indexed-literal op literal i (f ∷ fs) no_slots = refl
indexed-literal op literal zero (f ∷ fs) (more_slots s ss) = same-compared op literal (field_type f) s
indexed-literal op literal (suc i) (f ∷ fs) (more_slots s ss) = indexed-literal op literal i fs ss

column-literal : (op : Comparison) (literal : LiteralTree) (column : ColumnTree) (fs : List FieldTree) (ss : Slots) → compared_value op literal (field_of_column column fs) (value_of column (field_trees fs) ss) ≡ option_and_then (spec_compared op literal) (value_of column (field_trees fs) ss)
column-literal op literal (named name) fs ss = named-literal op literal name fs ss
column-literal op literal (indexed i) fs ss = indexed-literal op literal i fs ss

-- ---- a resolved condition

condition-error : (fs : List FieldTree) (c : ConditionTree) → spec_condition_error (resolved_condition fs c) fs ≡ spec_condition_error c fs
condition-error fs (is_true column at) = ap (spec_boolean_error at) (column-field fs column)
condition-error fs (is_null column at) = ap (spec_column_error at) (column-field fs column)
condition-error fs (compare column at op literal) =
    ap (spec_comparison_error at (resolved_literal (spec_field_kind (field_of_column column fs)) literal)) (column-field fs column) ∙ field-error at literal (field_of_column column fs)
condition-error fs (negation c) = condition-error fs c
condition-error fs (both c d) = let e = condition-error fs c in let f = condition-error fs d in λ i. option_or (e i) (f i)
condition-error fs (either c d) = let e = condition-error fs c in let f = condition-error fs d in λ i. option_or (e i) (f i)

condition-truth : (fs : List FieldTree) (c : ConditionTree) (ss : Slots) → spec_truth (resolved_condition fs c) (field_trees fs) ss ≡ spec_truth c (field_trees fs) ss
condition-truth fs (is_true column at) ss = ap (option_and_then truth_of) (column-value fs column ss)
condition-truth fs (is_null column at) ss = ap (option_and_then nullness) (column-value fs column ss)
condition-truth fs (compare column at op literal) ss =
    ap (compared_value op literal (field_of_column column fs)) (column-value fs column ss) ∙ column-literal op literal column fs ss
condition-truth fs (negation c) ss = ap truth_not (condition-truth fs c ss)
condition-truth fs (both c d) ss = let e = condition-truth fs c ss in let f = condition-truth fs d ss in λ i. truth_and (e i) (f i)
condition-truth fs (either c d) ss = let e = condition-truth fs c ss in let f = condition-truth fs d ss in λ i. truth_or (e i) (f i)

no-columns : (c : ConditionTree) → resolved_condition [] c ≡ c
no-columns (is_true column at) = ap (λ z. is_true z at) (no-column column)
no-columns (is_null column at) = ap (λ z. is_null z at) (no-column column)
no-columns (compare column at op literal) = let e = no-column column in let f = no-field literal column in λ i. compare (e i) at op (f i)
no-columns (negation c) = ap negation (no-columns c)
no-columns (both c d) = let e = no-columns c in let f = no-columns d in λ i. both (e i) (f i)
no-columns (either c d) = let e = no-columns c in let f = no-columns d in λ i. either (e i) (f i)

same-slot : (fs : List FieldTree) (c : ConditionTree) (s : Slot) → is_true_in (resolved_condition fs c) (record_type fs, s) ≡ is_true_in c (record_type fs, s)
same-slot fs c (slots.record_of ss) = ap (λ q. unwrap_or q false) (condition-truth fs c ss)
same-slot fs c slots.null = refl
same-slot fs c (slots.boolean b) = refl
same-slot fs c (slots.number zs) = refl
same-slot fs c (slots.utf8 bs) = refl
same-slot fs c (slots.bytes bs) = refl
same-slot fs c (slots.list ss) = refl
same-slot fs c (slots.pick f u s) = refl

-- rows of this type
abbrev pub AreTyped : TypeTree → List RowSlot → Type 0
AreTyped t rows = AllByRecursion (λ r. r.0 ≡ t) rows

each-same : (fs : List FieldTree) (c : ConditionTree) (rows : List RowSlot) → AreTyped (record_type fs) rows → AllByRecursion (λ r. is_true_in (resolved_condition fs c) r ≡ is_true_in c r) rows
each-same fs c [] h = tt
each-same fs c ((t, s) ∷ rows) h = (subst (λ u. is_true_in (resolved_condition fs c) (u, s) ≡ is_true_in c (u, s)) (sym h.0) (same-slot fs c s), each-same fs c rows h.1)

same-filter : (p q : RowSlot → Bool) (rows : List RowSlot) → AllByRecursion (λ r. p r ≡ q r) rows → filter p rows ≡ filter q rows
same-filter p q [] h = refl
same-filter p q (r ∷ rows) h = ap (λ b. cond b (r ∷ filter p rows) (filter p rows)) h.0 ∙ ap (λ l. cond (q r) (r ∷ l) l) (same-filter p q rows h.1)

same-rows : (fs : List FieldTree) (c : ConditionTree) (rows : List RowSlot) → (0 < length fs → AreTyped (record_type fs) rows) → filter (is_true_in (resolved_condition fs c)) rows ≡ filter (is_true_in c) rows
same-rows [] c rows h = ap (λ z. filter (is_true_in z) rows) (no-columns c)
same-rows (f ∷ fs) c rows h = same-filter (is_true_in (resolved_condition (f ∷ fs) c)) (is_true_in c) rows (each-same (f ∷ fs) c rows (h (omega arith)))

pub resolved-error : (fs : List FieldTree) (c : SelectionTree) → spec_selection_error (resolved_selection fs c) fs ≡ spec_selection_error c fs
resolved-error fs all = refl
resolved-error fs (slice o n) = refl
resolved-error fs (indices places) = refl
resolved-error fs (where_true c) = ap (option_map Condition) (condition-error fs c)

pub resolved-rows : (fs : List FieldTree) (c : SelectionTree) (rows : List RowSlot) → (0 < length fs → AreTyped (record_type fs) rows) → selected_rows (resolved_selection fs c) rows ≡ selected_rows c rows
resolved-rows fs all rows h = refl
resolved-rows fs (slice o n) rows h = refl
resolved-rows fs (indices places) rows h = refl
resolved-rows fs (where_true c) rows h = ap Some (same-rows fs c rows h)

-- ---- the rows of tables

pub rows-typed : (fs : List FieldTree) (rows : List RowSlot) → AreRowsOf fs rows → 0 < length fs → AreTyped (record_type fs) rows
rows-typed [] rows h some = absurd (omega (arith, some))
rows-typed (f ∷ fs) [] h some = tt
rows-typed (f ∷ fs) (r ∷ rows) h some = (h.0.0, rows-typed (f ∷ fs) rows h.1 some)

slots-typed : (t : TypeTree) (ss : List Slot) → AreTyped t (map (λ s. (t, s)) ss)
slots-typed t [] = tt
slots-typed t (s ∷ ss) = (refl, slots-typed t ss)

pub records-typed : (t : TypeTree) (bs : List RecordBatchTree) → AreTyped t (flat_map rows_of (map (records t) (map (λ (b : RecordBatchTree). b.columns) bs)))
records-typed t [] = tt
records-typed t (b ∷ bs) = both-all (λ r. r.0 ≡ t) (rows_of (records t b.columns)) _ (slots-typed t (slots_of (records t b.columns))) (records-typed t bs)
