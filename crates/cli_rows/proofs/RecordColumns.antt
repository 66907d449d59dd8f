-- Columns of arrays of records, and conditions in their rows.
use Rattle.std.proofs.Common.{◌≡◌, ◌≢◌, ℕ, zero, suc, ◌+◌, ◌<◌, ◌≤◌, Bool, true, false, not, List, [], ◌∷◌, length, drop, get_or, Option, Some, None, bytes_eq, if◌then◌else◌, option_map, refl, sym, ap, subst, ◌∙◌, arith}
use Rattle.std.specs.Prelude.{unwrap_or}
use Rattle.std.proofs.lemmas.Bool.{cond-true, cond-false}
use Rattle.std.proofs.lemmas.List.{drop_all, drop_more}
use Rattle.nest_memory.specs.Physical.{physical_type}
use Rattle.nest_memory.specs.declared.datatypes.physical_type.PhysicalType.{PhysicalType}
use Rattle.nest_memory.specs.declared.datatypes.physical_type.PhysicalType.TheVariants as physical
use Rattle.nest_memory.specs.TypeOf.{field_list_of, field_of}
use Rattle.nest_memory.specs.declared.datatypes.field.Field.{Field}
use Rattle.nest_memory.specs.TypeTree.{FieldTrees, TypeTree, field_type, fields_of, no_fields, more_fields}
use Rattle.nest_model.specs.Array.{TopFits}
use Rattle.nest_model.specs.Accessors.{children_of, validity_of}
use Rattle.nest_model.specs.FactLaws.{struct-facts}
use Rattle.nest_model.specs.Facts.{IsStruct}
use Rattle.nest_model.specs.Fits.{EachLen, EachType}
use Rattle.nest_model.specs.Layout as layouts
use Rattle.nest_model.specs.Layout.{Layout, Layouts, layout_type, no_layouts, more_layouts}
use Rattle.nest_model.specs.Meaning.{each, first_len, len, slot}
use Rattle.nest_model.specs.Nullness.{is_null_at}
use Rattle.nest_model.specs.Part.{valid_at}
use Rattle.nest_model.specs.Slot as slots
use Rattle.nest_model.specs.Slot.{Slot}
use Rattle.nest_array.specs.Seen.{layout_of, layouts_of}
use Rattle.nest_array.specs.declared.any.AnyArray.{AnyArray}
use Rattle.json_write.specs.JsonText.{field_name}
use Rattle.cli_args.specs.Columns.{ColumnTree, indexed, named}
use Rattle.cli_args.specs.Conditions.{ConditionTree}
use Rattle.cli_rows.specs.Rows.{RowSlot}
use Rattle.cli_rows.specs.Conditions.{IsColumn, column_at, column_layout, column_named, is_record, is_record_kind, is_true_in, spec_truth, truth_in, value_at, value_named, value_of}

-- ---- the values of a column

abbrev value_in : ℕ → Layout → RowSlot
value_in i c = (layout_type c, slot c i)

values-named : (name : List ℕ) (fs : FieldTrees) (cs : Layouts) (i : ℕ) → EachType fs cs → value_named name fs (each cs i) ≡ option_map (value_in i) (column_named name fs cs)
values-named name no_fields no_layouts i h = refl
values-named name no_fields (more_layouts c cs) i h = absurd h
values-named name (more_fields f fs) no_layouts i h = absurd h
values-named name (more_fields f fs) (more_layouts c cs) i h = by_name (bytes_eq (field_name f) name) (values-named name fs cs i h.1)
  where
    by_name : (q : Bool) → value_named name fs (each cs i) ≡ option_map (value_in i) (column_named name fs cs)
        → (if q then Some (field_type f, slot c i) else value_named name fs (each cs i)) ≡ option_map (value_in i) (if q then Some c else column_named name fs cs)
    by_name true rest = ap (λ u. Some (u, slot c i)) (sym h.0)
    by_name false rest = rest

values-at : (k : ℕ) (fs : FieldTrees) (cs : Layouts) (i : ℕ) → EachType fs cs → value_at k fs (each cs i) ≡ option_map (value_in i) (column_at k fs cs)
values-at k no_fields no_layouts i h = refl
values-at k no_fields (more_layouts c cs) i h = absurd h
values-at k (more_fields f fs) no_layouts i h = absurd h
values-at zero (more_fields f fs) (more_layouts c cs) i h = ap (λ u. Some (u, slot c i)) (sym h.0)
values-at (suc k) (more_fields f fs) (more_layouts c cs) i h = values-at k fs cs i h.1

column-values : (column : ColumnTree) (fs : FieldTrees) (cs : Layouts) (i : ℕ) → EachType fs cs → value_of column fs (each cs i) ≡ option_map (value_in i) (column_layout column fs cs)
column-values (named name) fs cs i h = values-named name fs cs i h
column-values (indexed k) fs cs i h = values-at k fs cs i h

len-named : (name : List ℕ) (fs : FieldTrees) (cs : Layouts) (n : ℕ) (c : Layout) → EachLen cs n → Some c ≡ column_named name fs cs → len c ≡ n
len-named name no_fields cs n c h e = absurd cc
len-named name (more_fields f fs) no_layouts n c h e = absurd cc
len-named name (more_fields f fs) (more_layouts d cs) n c h e = by_name (bytes_eq (field_name f) name) e (len-named name fs cs n c h.1)
  where
    by_name : (q : Bool) → Some c ≡ (if q then Some d else column_named name fs cs) → (Some c ≡ column_named name fs cs → len c ≡ n) → len c ≡ n
    by_name true same rest = let is : c ≡ d = cc in ap len is ∙ h.0
    by_name false same rest = rest same

len-at : (k : ℕ) (fs : FieldTrees) (cs : Layouts) (n : ℕ) (c : Layout) → EachLen cs n → Some c ≡ column_at k fs cs → len c ≡ n
len-at k no_fields cs n c h e = absurd cc
len-at k (more_fields f fs) no_layouts n c h e = absurd cc
len-at zero (more_fields f fs) (more_layouts d cs) n c h e = let is : c ≡ d = cc in ap len is ∙ h.0
len-at (suc k) (more_fields f fs) (more_layouts d cs) n c h e = len-at k fs cs n c h.1 e

column-len : (column : ColumnTree) (fs : FieldTrees) (cs : Layouts) (n : ℕ) (c : Layout) → EachLen cs n → Some c ≡ column_layout column fs cs → len c ≡ n
column-len (named name) fs cs n c h e = len-named name fs cs n c h e
column-len (indexed k) fs cs n c h e = len-at k fs cs n c h e

module _ (r : Layout) (kind : r ≡ layouts.struct (layout_type r) (children_of r) (validity_of r)) (fits : TopFits r) where
  facts : IsStruct (layout_type r) (children_of r) (validity_of r)
  facts = struct-facts (layout_type r) (children_of r) (validity_of r) (subst TopFits kind fits)

  module _ (column : ColumnTree) (fs : FieldTrees) (cs : Layouts) (fields : fs ≡ fields_of (layout_type r)) (children : cs ≡ children_of r) (o : Option Layout) (e : o ≡ column_layout column fs cs) where
    found : o ≡ column_layout column (fields_of (layout_type r)) (children_of r)
    found = e ∙ (λ i. column_layout column (fields i) (children i))

    pub is-column : IsColumn column r o
    is-column i = column-values column (fields_of (layout_type r)) (children_of r) i facts.each_type ∙ ap (option_map (value_in i)) (sym found)

    pub column-length : (c : Layout) → o ≡ Some c → len c ≡ len r
    column-length c is = column-len column (fields_of (layout_type r)) (children_of r) (first_len (children_of r)) c facts.each_len (sym is ∙ found) ∙ sym (ap len kind)

  -- ---- the truth of a condition in a row

  pub valid-truth : (c : ConditionTree) (i : ℕ) → is_null_at r i ≡ false → truth_in c (layout_type r, slot r i) ≡ spec_truth c (fields_of (layout_type r)) (each (children_of r) i)
  valid-truth c i valid =
      ap (λ z. truth_in c (layout_type r, slot z i)) kind
      ∙ by_validity (valid_at (validity_of r) i) (ap (λ z. is_null_at z i) (sym kind) ∙ valid)
    where
      by_validity : (b : Bool) → not b ≡ false → truth_in c (layout_type r, (if b then slots.record_of (each (children_of r) i) else slots.null)) ≡ spec_truth c (fields_of (layout_type r)) (each (children_of r) i)
      by_validity true e = ap (λ p. if is_record_kind p then spec_truth c (fields_of (layout_type r)) (each (children_of r) i) else None) facts.typed
      by_validity false e = absurd cc

not-record : (p : PhysicalType) → p ≢ physical.Struct → is_record_kind p ≡ false
not-record physical.Struct h = absurd (h refl)
not-record physical.Null h = refl
not-record physical.Boolean h = refl
not-record (physical.Primitive q) h = refl
not-record physical.Binary h = refl
not-record physical.FixedSizeBinary h = refl
not-record physical.LargeBinary h = refl
not-record physical.Utf8 h = refl
not-record physical.LargeUtf8 h = refl
not-record physical.List h = refl
not-record physical.FixedSizeList h = refl
not-record physical.LargeList h = refl
not-record physical.Union h = refl
not-record physical.Map h = refl
not-record (physical.Dictionary k) h = refl

no-record : (c : ConditionTree) (t : TypeTree) (s : Slot) → is_record t ≡ false → is_true_in c (t, s) ≡ false
no-record c t (slots.record_of ss) e = ap (λ q. unwrap_or (if q then spec_truth c (fields_of t) ss else None) false) e
no-record c t slots.null e = refl
no-record c t (slots.boolean b) e = refl
no-record c t (slots.number zs) e = refl
no-record c t (slots.utf8 bs) e = refl
no-record c t (slots.bytes bs) e = refl
no-record c t (slots.list ss) e = refl
no-record c t (slots.pick f u s) e = refl

pub other-type : (c : ConditionTree) (a : Layout) (i : ℕ) → physical_type (layout_type a) ≢ physical.Struct → is_true_in c (layout_type a, slot a i) ≡ false
other-type c a i h = no-record c (layout_type a) (slot a i) (not-record (physical_type (layout_type a)) h)

-- ---- the child of a column

no-children : (name : List ℕ) (fs : FieldTrees) → column_named name fs no_layouts ≡ None
no-children name no_fields = refl
no-children name (more_fields f fs) = refl

abbrev pub named_from : List ℕ → List Field → List AnyArray → ℕ → Option Layout
named_from name fields children i = column_named name (field_list_of (drop i fields)) (layouts_of (drop i children))

pub named-end : (name : List ℕ) (fields : List Field) (children : List AnyArray) (i : ℕ) → length children ≤ i → named_from name fields children i ≡ None
named-end name fields children i h = ap (λ l. column_named name (field_list_of (drop i fields)) (layouts_of l)) (drop_all i children h) ∙ no-children name (field_list_of (drop i fields))

named-more : (name : List ℕ) (fields : List Field) (children : List AnyArray) (i : ℕ) (f : Field) (x : AnyArray) → i < length fields → i < length children → f ≡ get_or fields i f → x ≡ get_or children i x
    → named_from name fields children i ≡ (if bytes_eq (field_name (field_of f)) name then Some (layout_of x) else named_from name fields children (i + 1))
named-more name fields children i f x hf hx ef ex =
    ap (λ l. column_named name (field_list_of l) (layouts_of (drop i children))) (drop_more fields i f hf ∙ ap (λ z. z ∷ drop (i + 1) fields) (sym ef))
    ∙ ap (λ l. column_named name (field_list_of (f ∷ drop (i + 1) fields)) (layouts_of l)) (drop_more children i x hx ∙ ap (λ z. z ∷ drop (i + 1) children) (sym ex))

pub named-found : (name : List ℕ) (fields : List Field) (children : List AnyArray) (i : ℕ) (f : Field) (x : AnyArray) → i < length fields → i < length children → f ≡ get_or fields i f → x ≡ get_or children i x
    → bytes_eq (field_name (field_of f)) name ≡ true → named_from name fields children i ≡ Some (layout_of x)
named-found name fields children i f x hf hx ef ex e = named-more name fields children i f x hf hx ef ex ∙ cond-true _ _ _ e

pub named-next : (name : List ℕ) (fields : List Field) (children : List AnyArray) (i : ℕ) (f : Field) (x : AnyArray) → i < length fields → i < length children → f ≡ get_or fields i f → x ≡ get_or children i x
    → bytes_eq (field_name (field_of f)) name ≡ false → named_from name fields children i ≡ named_from name fields children (i + 1)
named-next name fields children i f x hf hx ef ex e = named-more name fields children i f x hf hx ef ex ∙ cond-false _ _ _ e

pub next-child : (xs : List AnyArray) (i : ℕ) → i < length xs → (x : AnyArray) × (x ≡ get_or xs i x)
next-child [] i h = absurd (omega (arith, h))
next-child (x ∷ xs) zero h = (x, refl)
next-child (x ∷ xs) (suc i) h = next-child xs i (omega (arith, h))

pub child-at : (k : ℕ) (fields : List Field) (children : List AnyArray) (x : AnyArray) → k < length fields → k < length children → x ≡ get_or children k x
    → Some (layout_of x) ≡ column_at k (field_list_of fields) (layouts_of children)
child-at k [] children x hf hx e = absurd (omega (arith, hf))
child-at k (f ∷ fields) [] x hf hx e = absurd (omega (arith, hx))
child-at zero (f ∷ fields) (y ∷ children) x hf hx e = ap (λ z. Some (layout_of z)) e
child-at (suc k) (f ∷ fields) (y ∷ children) x hf hx e = child-at k fields children x (omega (arith, hf)) (omega (arith, hx)) e

pub no-field-at : (k : ℕ) (fields : List Field) (children : List AnyArray) → length fields ≤ k → None ≡ column_at k (field_list_of fields) (layouts_of children)
no-field-at k [] children h = refl
no-field-at zero (f ∷ fields) children h = absurd (omega (arith, h))
no-field-at (suc k) (f ∷ fields) [] h = refl
no-field-at (suc k) (f ∷ fields) (y ∷ children) h = no-field-at k fields children (omega (arith, h))

pub no-child-at : (k : ℕ) (fields : List Field) (children : List AnyArray) → length children ≤ k → None ≡ column_at k (field_list_of fields) (layouts_of children)
no-child-at k [] children h = refl
no-child-at k (f ∷ fields) [] h = refl
no-child-at zero (f ∷ fields) (y ∷ children) h = absurd (omega (arith, h))
no-child-at (suc k) (f ∷ fields) (y ∷ children) h = no-child-at k fields children (omega (arith, h))
