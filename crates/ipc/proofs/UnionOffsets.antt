-- Offsets of dense unions that overflow, as the code finds them.
use Rattle.std.proofs.Common.{◌≡◌, ℕ, zero, suc, ◌+◌, ◌-◌, ◌<◌, ◌≤◌, Bool, true, false, leb, length, get_or, List, Option, Some, None, inl, inr, refl, sym, ap, subst, ◌∙◌, arith}
use Rattle.std.specs.Prelude.{◌||◌, ◌&&◌, ◌⊎◌, ◌↔◌, IsTrue, ◌^◌, ℤ, pos, is_some, List as Seq, [], ◌∷◌}
use Rattle.std.specs.Option.{option_map}
use Rattle.std.specs.List.{list_any, range_with_len}
use Rattle.std.proofs.lemmas.Bool.{le-leb, lt-leb, false≢true}
use Rattle.nest_memory.specs.Physical.{physical_type}
use Rattle.nest_memory.specs.TypeTree.{ids_of}
use Rattle.nest_memory.specs.declared.datatypes.physical_type.PhysicalType.TheVariants as physical
use Rattle.nest_model.specs.Accessors.{types_of, union_offsets_of, start_of}
use Rattle.nest_model.specs.Array.{TopFits}
use Rattle.nest_model.specs.Fits.{child_len}
use Rattle.nest_model.specs.Layout.{Layout, Layouts, null, boolean, primitive, binary, utf8, fixed_size_binary, fixed_size_list, list as list_of, map as map_of, struct, union, dictionary, no_layouts, more_layouts, layout_type, weight, weight_all}
use Rattle.nest_model.specs.Meaning.{len, union_index}
use Rattle.nest_model.specs.Part.{field_named}
use Rattle.nest_array.specs.Kinds.{typed}
use Rattle.nest_array.specs.Seen.{layout_of, layouts_of}
use Rattle.nest_array.specs.declared.any.AnyArray.{AnyArray}
use Rattle.ipc.specs.UnionOffsets.{spec_children, offset_past, spec_slots_overflow, spec_offsets_overflow, of_first, spec_union_offsets_overflow, spec_any_overflows}

or_false : (b : Bool) → b ≡ (b || false)
or_false true = refl
or_false false = refl

first_alone : (c : Layout) (ds : Layouts) → of_first (spec_union_offsets_overflow c) ds ≡ spec_any_overflows (more_layouts c no_layouts) ds
first_alone c no_layouts = refl
first_alone c (more_layouts d ds) = or_false (spec_union_offsets_overflow c d)

-- of its own slots, or of its child arrays
pub own_or_below : (a b : Layout) → spec_union_offsets_overflow a b ≡ (spec_offsets_overflow a b || spec_any_overflows (spec_children a) (spec_children b))
own_or_below (null t n) b = refl
own_or_below (boolean t bs va) b = refl
own_or_below (primitive k t vs va) b = refl
own_or_below (binary large t os bs va) b = refl
own_or_below (utf8 large t os bs va) b = refl
own_or_below (fixed_size_binary t bs va) b = refl
own_or_below (fixed_size_list t c va) b = first_alone c (spec_children b)
own_or_below (list_of large t os c va) b = first_alone c (spec_children b)
own_or_below (map_of t os c va) b = first_alone c (spec_children b)
own_or_below (struct t cs va) b = refl
own_or_below (union t ks cs os start) b = refl
own_or_below (dictionary t ks c) b = refl

-- a child array is no heavier
pub lighter : (a : Layout) → weight_all (spec_children a) ≤ weight a
lighter (null t n) = omega arith
lighter (boolean t bs va) = omega arith
lighter (primitive k t vs va) = omega arith
lighter (binary large t os bs va) = omega arith
lighter (utf8 large t os bs va) = omega arith
lighter (fixed_size_binary t bs va) = omega arith
lighter (fixed_size_list t c va) = omega arith
lighter (list_of large t os c va) = omega arith
lighter (map_of t os c va) = omega arith
lighter (struct t cs va) = omega arith
lighter (union t ks cs os start) = omega arith
lighter (dictionary t ks c) = omega arith

-- no slot of another array overflows
pub first_apart : (a b : Layout) → TopFits a → (physical_type (layout_type a) ≡ physical.Union → ⊥) → spec_offsets_overflow a b ≡ false
first_apart (null t n) b fits apart = refl
first_apart (boolean t bs va) b fits apart = refl
first_apart (primitive k t vs va) b fits apart = refl
first_apart (binary large t os bs va) b fits apart = refl
first_apart (utf8 large t os bs va) b fits apart = refl
first_apart (fixed_size_binary t bs va) b fits apart = refl
first_apart (fixed_size_list t c va) b fits apart = refl
first_apart (list_of large t os c va) b fits apart = refl
first_apart (map_of t os c va) b fits apart = refl
first_apart (struct t cs va) b fits apart = refl
first_apart (union t ks cs os start) b fits apart = absurd (apart (typed (union t ks cs os start) fits))
first_apart (dictionary t ks c) b fits apart = refl

none_past : (es : Layouts) (b : Layout) → TopFits b → (physical_type (layout_type b) ≡ physical.Union → ⊥) → spec_slots_overflow es b ≡ false
none_past es (null t n) fits apart = refl
none_past es (boolean t bs va) fits apart = refl
none_past es (primitive k t vs va) fits apart = refl
none_past es (binary large t os bs va) fits apart = refl
none_past es (utf8 large t os bs va) fits apart = refl
none_past es (fixed_size_binary t bs va) fits apart = refl
none_past es (fixed_size_list t c va) fits apart = refl
none_past es (list_of large t os c va) fits apart = refl
none_past es (map_of t os c va) fits apart = refl
none_past es (struct t cs va) fits apart = refl
none_past es (union t ks ds os start) fits apart = absurd (apart (typed (union t ks ds os start) fits))
none_past es (dictionary t ks c) fits apart = refl

pub other_apart : (a b : Layout) → TopFits b → (physical_type (layout_type b) ≡ physical.Union → ⊥) → spec_offsets_overflow a b ≡ false
other_apart (null t n) b fits apart = refl
other_apart (boolean t bs va) b fits apart = refl
other_apart (primitive k t vs va) b fits apart = refl
other_apart (binary large t os bs va) b fits apart = refl
other_apart (utf8 large t os bs va) b fits apart = refl
other_apart (fixed_size_binary t bs va) b fits apart = refl
other_apart (fixed_size_list t c va) b fits apart = refl
other_apart (list_of large t os c va) b fits apart = refl
other_apart (map_of t os c va) b fits apart = refl
other_apart (struct t cs va) b fits apart = refl
other_apart (union t ks cs os start) b fits apart = none_past cs b fits apart
other_apart (dictionary t ks c) b fits apart = refl

-- some number from i on passes a test: this one, or one after it
pub any_from : (test : ℕ → Bool) (i n : ℕ) → i < n → list_any test (range_with_len i (n - i)) ≡ (test i || list_any test (range_with_len (i + 1) (n - (i + 1))))
any_from test i n spec_children =
    let more : n - i ≡ suc (n - (i + 1)) = omega (arith, spec_children) in
    ap (λ (m : ℕ). list_any test (range_with_len i m)) more

-- no number before i passes
abbrev pub NoneBefore : (ℕ → Bool) → ℕ → ℕ → Type 0
NoneBefore test i n = list_any test (range_with_len 0 n) ≡ list_any test (range_with_len i (n - i))

pub one_passes : (test : ℕ → Bool) (i n : ℕ) → i < n → test i ≡ true → NoneBefore test i n → list_any test (range_with_len 0 n) ≡ true
one_passes test i n spec_children passes before = before ∙ any_from test i n spec_children ∙ ap (λ (b : Bool). b || list_any test (range_with_len (i + 1) (n - (i + 1)))) passes

pub one_more : (test : ℕ → Bool) (i n : ℕ) → i < n → test i ≡ false → NoneBefore test i n → NoneBefore test (i + 1) n
one_more test i n spec_children fails before = before ∙ any_from test i n spec_children ∙ ap (λ (b : Bool). b || list_any test (range_with_len (i + 1) (n - (i + 1)))) fails

pub none_at_all : (test : ℕ → Bool) (i n : ℕ) → n ≤ i → NoneBefore test i n → list_any test (range_with_len 0 n) ≡ false
none_at_all test i n end before =
    let none : n - i ≡ 0 = omega (arith, end) in
    before ∙ ap (λ (m : ℕ). list_any test (range_with_len i m)) none

by_test : (r : Bool) (k m : ℕ) → (IsTrue r ↔ (k ≤ m)) → leb k m ≡ r
by_test true k m told = le-leb k m (told.0 refl)
by_test false k m told =
    let few : ¬ (k ≤ m) = λ h. false≢true (told.1 h) in
    lt-leb k m (omega (arith, few))

-- the field and offset of a slot
module _ (cs : Layouts) (b : Layout) (i f position n : ℕ) (field : field_named (ids_of (layout_type b)) (get_or (types_of b) i (pos 0)) ≡ Some f) (at : position ≡ union_index (union_offsets_of b) (start_of b) i) (slots : n ≡ child_len cs (Some f)) where
  slot_is : offset_past cs b i ≡ leb (2 ^ 31) (n + position)
  slot_is =
      ap (λ (o : Option ℕ). leb (2 ^ 31) (child_len cs o + union_index (union_offsets_of b) (start_of b) i)) field
      ∙ ap (λ (p : ℕ). leb (2 ^ 31) (child_len cs (Some f) + p)) (sym at)
      ∙ ap (λ (m : ℕ). leb (2 ^ 31) (m + position)) (sym slots)

  pub overflows : (r : Bool) → (IsTrue r ↔ (2 ^ 31 ≤ n + position)) → offset_past cs b i ≡ r
  overflows r told = slot_is ∙ by_test r (2 ^ 31) (n + position) told

shown_some : {A B : Type 0} (f : A → B) (o : Option A) → is_some (option_map f o) ≡ is_some o
shown_some f None = refl
shown_some f (Some x) = refl

-- offsets that are shown are there
pub is_dense : {A : Type 0} (f : A → List ℤ) (o : Option A) (b : Layout) → option_map f o ≡ union_offsets_of b → is_some o ≡ true → is_some (union_offsets_of b) ≡ true
is_dense f o b shown there = ap is_some (sym shown) ∙ shown_some f o ∙ there

-- slots of a dense union
pub dense_slots : (cs : Layouts) (b : Layout) (p : Bool) → is_some (union_offsets_of b) ≡ true → list_any (offset_past cs b) (range_with_len 0 (len b)) ≡ p → spec_slots_overflow cs b ≡ p
dense_slots cs b p dense any = ap (λ (d : Bool). d && list_any (offset_past cs b) (range_with_len 0 (len b))) dense ∙ any

-- ---- child arrays in order

-- none overflowed so far, and these are left
pub record PastLeft (xs ys zs ws : Seq AnyArray) : Type 0 where
  pub same : spec_any_overflows (layouts_of xs) (layouts_of ys) ≡ spec_any_overflows (layouts_of zs) (layouts_of ws)
  pub fewer : weight_all (layouts_of zs) ≤ weight_all (layouts_of xs)

pub all_left : (xs ys zs ws : Seq AnyArray) → zs ≡ xs → ws ≡ ys → PastLeft xs ys zs ws
all_left xs ys zs ws e f =
    let all : PastLeft xs ys xs ys = record { same = refl; fewer = omega arith } in
    subst (λ us. PastLeft xs ys us ws) (sym e) (subst (λ us. PastLeft xs ys xs us) (sym f) all)

pub first_left : (xs ys zs ws us vs : Seq AnyArray) (x y : AnyArray) → zs ≡ x ∷ us → ws ≡ y ∷ vs → PastLeft xs ys zs ws → PastLeft xs ys (x ∷ us) (y ∷ vs)
first_left xs ys zs ws us vs x y e f left = subst (λ ts. PastLeft xs ys ts (y ∷ vs)) e (subst (λ ts. PastLeft xs ys zs ts) f left)

pub one_past : (xs ys us vs : Seq AnyArray) (x y : AnyArray) → spec_union_offsets_overflow (layout_of x) (layout_of y) ≡ true → PastLeft xs ys (x ∷ us) (y ∷ vs) → spec_any_overflows (layouts_of xs) (layouts_of ys) ≡ true
one_past xs ys us vs x y past left = left.same ∙ ap (λ (b : Bool). b || spec_any_overflows (layouts_of us) (layouts_of vs)) past

pub rest_left : (xs ys us vs : Seq AnyArray) (x y : AnyArray) → spec_union_offsets_overflow (layout_of x) (layout_of y) ≡ false → PastLeft xs ys (x ∷ us) (y ∷ vs) → PastLeft xs ys us vs
rest_left xs ys us vs x y fits left = record { same = left.same ∙ ap (λ (b : Bool). b || spec_any_overflows (layouts_of us) (layouts_of vs)) fits; fewer = omega (arith, left.fewer) }

pub none_left : (xs ys zs ws : Seq AnyArray) → (length zs ≡ 0) ⊎ (length ws ≡ 0) → PastLeft xs ys zs ws → spec_any_overflows (layouts_of xs) (layouts_of ys) ≡ false
none_left xs ys zs ws end left = left.same ∙ ended zs ws end
  where
    ended : (zs ws : Seq AnyArray) → (length zs ≡ 0) ⊎ (length ws ≡ 0) → spec_any_overflows (layouts_of zs) (layouts_of ws) ≡ false
    ended [] ws e = refl
    ended (z ∷ zs) [] e = refl
    ended (z ∷ zs) (w ∷ ws) (inl e) = absurd (omega (arith, e))
    ended (z ∷ zs) (w ∷ ws) (inr e) = absurd (omega (arith, e))
