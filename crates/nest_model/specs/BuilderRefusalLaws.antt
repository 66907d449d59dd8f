-- Which pushes are refused, and which are not.
use Rattle.std.specs.Prelude.{Option, Some, None, not, ◌||◌, leb, nat_eq}
use Rattle.std.proofs.Common.{◌≡◌, ◌≢◌, ℕ, suc, ◌+◌, ◌-◌, ◌*◌, ◌≤◌, ◌<◌, Bool, true, false, List, [], ◌∷◌, ◌++◌, length, replicate, refl, sym, ap, ◌∙◌, arith, inl, inr}
use Rattle.std.proofs.lemmas.Bool.{leb-true, le-leb}
use Rattle.std.proofs.lemmas.Bool.Decides.{leb_tells, eqb_tells}
use Rattle.std.proofs.Math.Nat.{add-mul, mul-le-mul_right}
use Rattle.std.proofs.lemmas.List.{length-append, length-replicate}
use Rattle.nest_memory.specs.TypeTree.{TypeTree, size_of}
use Rattle.nest_memory.specs.Physical.{physical_type}
use Rattle.nest_memory.specs.declared.datatypes.physical_type.PhysicalType.{PhysicalType}
use Rattle.nest_memory.specs.declared.datatypes.physical_type.PhysicalType.TheVariants as physical
use Rattle.nest_memory.specs.declared.error.Error.{Error}
use Rattle.nest_memory.specs.declared.error.Error.TheVariants.{InvalidArgumentError, Overflow}
use Rattle.nest_memory.specs.declared.error.ArgumentError.TheVariants.{ItemSize}
use Rattle.nest_memory.specs.Rising.{largest_offset}
use Rattle.nest_model.specs.Slot as slots
use Rattle.nest_model.specs.Slot.{Slot}
use Rattle.nest_model.specs.BuilderRow.{Row, row_ending, end_from}
use Rattle.nest_model.specs.BuilderTree.{BuilderTree, BuilderTrees, flat, list, fixed_size_list, dictionary, struct, no_builders, more_builders, builder_len}
use Rattle.nest_model.specs.Checks.{largest_length}
use Rattle.nest_model.specs.BuilderItem as items
use Rattle.nest_model.specs.BuilderItem.{PlainValue, Item, Items, no_items, more_items, seal_items, count_items}
use Rattle.nest_model.specs.BuilderAppend.{nulls_appended, nulls_appended_each, appended, items_appended, all_appended, AcceptedAll}
use Rattle.nest_model.specs.BuilderAppendLaws.{appended-sealed, count-sealed}
use Rattle.nest_model.specs.Checks.{first_of, is_past}
use Rattle.nest_model.specs.BuilderRefusals.{bytes_pass, flat_passes, nulls_pass, nulls_pass_each, item_refusal, items_refusal}

-- comparisons
pub below : (a b : ℕ) → b < a → leb a b ≡ false
below a b l = elim (leb_tells a b) as (λ _. leb a b ≡ false) [ inl e ↦ absurd (omega (arith, l, e.1)) | inr e ↦ e.0 ]

pub within : (n : ℕ) → n ≤ largest_length → is_past n ≡ false
within n l = below (suc largest_length) n (omega (arith, l))

pub past-le : (m n : ℕ) → m ≤ n → is_past m ≡ true → is_past n ≡ true
past-le m n l p = le-leb (suc largest_length) n (omega (arith, leb-true (suc largest_length) m p, l))

pub same_number : (a b : ℕ) → a ≡ b → not (nat_eq a b) ≡ false
same_number a b e = elim (eqb_tells a b) as (λ _. not (nat_eq a b) ≡ false) [ inl h ↦ rw h.0 refl | inr h ↦ absurd (h.1 e) ]

pub other_number : (a b : ℕ) → a ≢ b → not (nat_eq a b) ≡ true
other_number a b e = elim (eqb_tells a b) as (λ _. not (nat_eq a b) ≡ true) [ inl h ↦ absurd (e h.1) | inr h ↦ rw h.0 refl ]

-- items in order: a first part, then the rest
first_of-all : (o p q : Option Error) → first_of o (first_of p q) ≡ first_of (first_of o p) q
first_of-all None p q = refl
first_of-all (Some e) p q = refl

pub items-both : (xs ys : List Item) (t : BuilderTree) → items_refusal (seal_items (xs ++ ys)) t ≡ first_of (items_refusal (seal_items xs) t) (items_refusal (seal_items ys) (all_appended xs t))
items-both [] ys t = refl
items-both (x ∷ xs) ys t =
    ap (first_of (item_refusal x t)) (items-both xs ys (appended x t))
    ∙ first_of-all (item_refusal x t) (items_refusal (seal_items xs) (appended x t)) (items_refusal (seal_items ys) (all_appended xs (appended x t)))

pub none-more : (xs : List Item) (x : Item) (t : BuilderTree) → items_refusal (seal_items xs) t ≡ None → item_refusal x (all_appended xs t) ≡ None → items_refusal (seal_items (xs ++ x ∷ [])) t ≡ None
none-more xs x t h k = items-both xs (x ∷ []) t ∙ rw (h, k) refl

pub some-then : (e : Error) (xs ys : List Item) (x : Item) (t : BuilderTree) → items_refusal (seal_items xs) t ≡ None → item_refusal x (all_appended xs t) ≡ Some e → items_refusal (seal_items (xs ++ x ∷ ys)) t ≡ Some e
some-then e xs ys x t h k = items-both xs (x ∷ ys) t ∙ rw (h, k) refl

-- A list whose items are not refused: its row is accepted within the limits and refused past them.
pub list_none : (large : Bool) (k : TypeTree) (rows : List Row) (c d : BuilderTree) (xs : List Item) → items_refusal (seal_items xs) c ≡ None → AcceptedAll xs c d → length rows + 1 ≤ largest_length → builder_len d ≤ largest_offset large
    → item_refusal (items.list_of (seal_items xs)) (list large k rows c) ≡ None
list_none large k rows c d xs h a l m =
    let end : builder_len (items_appended (seal_items xs) c) ≡ builder_len d = ap builder_len (appended-sealed xs c ∙ sym a.exact) in
    rw (h, end, within (length rows + 1) l, below (suc (largest_offset large)) (builder_len d) (omega (arith, m))) refl

or-true : (b : Bool) → (b || true) ≡ true
or-true true = refl
or-true false = refl

pub list_past : (large : Bool) (k : TypeTree) (rows : List Row) (c d : BuilderTree) (xs : List Item) → items_refusal (seal_items xs) c ≡ None → AcceptedAll xs c d → largest_offset large < builder_len d
    → item_refusal (items.list_of (seal_items xs)) (list large k rows c) ≡ Some Overflow
list_past large k rows c d xs h a m =
    let end : builder_len (items_appended (seal_items xs) c) ≡ builder_len d = ap builder_len (appended-sealed xs c ∙ sym a.exact) in
    rw (h, end, le-leb (suc (largest_offset large)) (builder_len d) (omega (arith, m)), or-true (is_past (length rows + 1))) refl

-- A fixed-size list: the same, and the number of items must equal its size.
pub fixed_none : (k : TypeTree) (bits : List Bool) (c : BuilderTree) (xs : List Item) → items_refusal (seal_items xs) c ≡ None → length xs ≡ size_of k → length bits + 1 ≤ largest_length → (length bits + 1) * size_of k ≤ largest_length
    → item_refusal (items.list_of (seal_items xs)) (fixed_size_list k bits c) ≡ None
fixed_none k bits c xs h n l m =
    rw (h, same_number (count_items (seal_items xs)) (size_of k) (count-sealed xs ∙ n), within (length bits + 1) l, within ((length bits + 1) * size_of k) m) refl

pub fixed_size : (k : TypeTree) (bits : List Bool) (c : BuilderTree) (xs : List Item) → items_refusal (seal_items xs) c ≡ None → length xs ≢ size_of k
    → item_refusal (items.list_of (seal_items xs)) (fixed_size_list k bits c) ≡ Some (InvalidArgumentError ItemSize)
fixed_size k bits c xs h n = rw (h, other_number (count_items (seal_items xs)) (size_of k) (λ e. n (sym (count-sealed xs) ∙ e))) refl

pub fixed_past : (k : TypeTree) (bits : List Bool) (c : BuilderTree) (xs : List Item) → items_refusal (seal_items xs) c ≡ None → length xs ≡ size_of k → largest_length < (length bits + 1) * size_of k
    → item_refusal (items.list_of (seal_items xs)) (fixed_size_list k bits c) ≡ Some Overflow
fixed_past k bits c xs h n m =
    rw (h, same_number (count_items (seal_items xs)) (size_of k) (count-sealed xs ∙ n), le-leb (suc largest_length) ((length bits + 1) * size_of k) (omega (arith, m)), or-true (is_past (length bits + 1))) refl

-- Two runs of nulls pass a limit exactly if the first run does, or the second run after it.
absorb : (x y : Bool) → (x ≡ true → y ≡ true) → y ≡ (x || y)
absorb true y h = h refl
absorb false y h = refl

absorb_both : (x y p q : Bool) → (x ≡ true → y ≡ true) → (y || (p || q)) ≡ ((x || p) || (y || q))
absorb_both true y p q h = rw (h refl) refl
absorb_both false true true q h = refl
absorb_both false true false q h = refl
absorb_both false false true q h = refl
absorb_both false false false q h = refl

swap : (p q r s : Bool) → ((p || q) || (r || s)) ≡ ((p || r) || (q || s))
swap true q r s = refl
swap false true true s = refl
swap false true false s = refl
swap false false true s = refl
swap false false false s = refl

either-le : (a b : Bool) (c d : Bool) → (a ≡ true → c ≡ true) → (b ≡ true → d ≡ true) → (a || b) ≡ true → (c || d) ≡ true
either-le true b c d f g h = rw (f refl) refl
either-le false true c d f g h = rw (g refl) (or-true c)
either-le false false c d f g h = absurd (let e : false ≡ true = h in cc)

bytes-le : (p : PhysicalType) (m n b : ℕ) → m ≤ n → bytes_pass p m b ≡ true → bytes_pass p n b ≡ true
bytes-le physical.FixedSizeBinary m n b l h = past-le m n l h
bytes-le physical.Null m n b l h = h
bytes-le physical.Boolean m n b l h = h
bytes-le (physical.Primitive q) m n b l h = h
bytes-le physical.Binary m n b l h = h
bytes-le physical.LargeBinary m n b l h = h
bytes-le physical.Utf8 m n b l h = h
bytes-le physical.LargeUtf8 m n b l h = h
bytes-le physical.List m n b l h = h
bytes-le physical.FixedSizeList m n b l h = h
bytes-le physical.LargeList m n b l h = h
bytes-le physical.Struct m n b l h = h
bytes-le physical.Union m n b l h = h
bytes-le physical.Map m n b l h = h
bytes-le (physical.Dictionary i) m n b l h = h

flat-le : (t : TypeTree) (m n b : ℕ) → m ≤ n → flat_passes t m b ≡ true → flat_passes t n b ≡ true
flat-le t m n b l h =
    either-le (is_past m) (bytes_pass (physical_type t) (m * size_of t) b) (is_past n) (bytes_pass (physical_type t) (n * size_of t) b)
    (past-le m n l) (bytes-le (physical_type t) (m * size_of t) (n * size_of t) b (mul-le-mul_right (size_of t) l)) h

longer : {A : Type 0} (xs : List A) (x : A) (m n : ℕ) → length (xs ++ replicate m x) + n ≡ length xs + (m + n)
longer xs x m n = omega (arith, length-append xs (replicate m x), length-replicate m x)

past-both : {A : Type 0} (xs : List A) (x : A) (m n : ℕ) → is_past (length xs + (m + n)) ≡ (is_past (length xs + m) || is_past (length (xs ++ replicate m x) + n))
past-both xs x m n = rw (longer xs x m n) (absorb (is_past (length xs + m)) (is_past (length xs + (m + n))) (past-le (length xs + m) (length xs + (m + n)) (omega arith)))

mutual
  pub nulls-both : (t : BuilderTree) (m n : ℕ) → nulls_pass (m + n) t ≡ (nulls_pass m t || nulls_pass n (nulls_appended m t))
  nulls-both (flat k xs) m n =
      rw (longer xs slots.null m n) (absorb (flat_passes k (length xs + m) 0) (flat_passes k (length xs + (m + n)) 0) (flat-le k (length xs + m) (length xs + (m + n)) 0 (omega arith)))
  nulls-both (list large k rows c) m n = past-both rows (row_ending false (end_from 0 rows)) m n
  nulls-both (fixed_size_list k bits c) m n =
      let le : length bits + m ≤ length bits + (m + n) = omega arith in
      let own = either-le (is_past (length bits + m)) (is_past ((length bits + m) * size_of k)) (is_past (length bits + (m + n))) (is_past ((length bits + (m + n)) * size_of k))
      (past-le (length bits + m) (length bits + (m + n)) le) (past-le ((length bits + m) * size_of k) ((length bits + (m + n)) * size_of k) (mul-le-mul_right (size_of k) le)) in
      rw (longer bits false m n, add-mul m n (size_of k), nulls-both c (m * size_of k) (n * size_of k))
      (absorb_both (is_past (length bits + m) || is_past ((length bits + m) * size_of k)) (is_past (length bits + (m + n)) || is_past ((length bits + (m + n)) * size_of k)) (nulls_pass (m * size_of k) c) (nulls_pass (n * size_of k) (nulls_appended (m * size_of k) c)) own)
  nulls-both (dictionary i k keys c) m n = past-both keys None m n
  nulls-both (struct k bits cs) m n =
      let le : length bits + m ≤ length bits + (m + n) = omega arith in
      rw (longer bits false m n, nulls-both-each cs m n)
      (absorb_both (is_past (length bits + m)) (is_past (length bits + (m + n))) (nulls_pass_each m cs) (nulls_pass_each n (nulls_appended_each m cs)) (past-le (length bits + m) (length bits + (m + n)) le))

  pub nulls-both-each : (cs : BuilderTrees) (m n : ℕ) → nulls_pass_each (m + n) cs ≡ (nulls_pass_each m cs || nulls_pass_each n (nulls_appended_each m cs))
  nulls-both-each no_builders m n = refl
  nulls-both-each (more_builders c cs) m n =
      rw (nulls-both c m n, nulls-both-each cs m n)
      (swap (nulls_pass m c) (nulls_pass n (nulls_appended m c)) (nulls_pass_each m cs) (nulls_pass_each n (nulls_appended_each m cs)))

-- one more null fits, or the nulls together pass a limit
pub nulls-more_fit : (t : BuilderTree) (m : ℕ) → nulls_pass m t ≡ false → nulls_pass 1 (nulls_appended m t) ≡ false → nulls_pass (m + 1) t ≡ false
nulls-more_fit t m h k = rw (nulls-both t m 1, h, k) refl

pub nulls-then_pass : (t : BuilderTree) (m n : ℕ) → m < n → nulls_pass 1 (nulls_appended m t) ≡ true → nulls_pass n t ≡ true
nulls-then_pass t m n l h =
    let e : n ≡ (m + 1) + (n - (m + 1)) = omega (arith, l) in
    let f : nulls_pass (m + 1) t ≡ true = nulls-both t m 1 ∙ (ap (λ b. nulls_pass m t || b) h ∙ or-true (nulls_pass m t)) in
    ap (λ i. nulls_pass i t) e ∙ (nulls-both t (m + 1) (n - (m + 1)) ∙ ap (λ b. b || nulls_pass (n - (m + 1)) (nulls_appended (m + 1) t)) f)

-- a null item is refused exactly if one more null passes a limit
pub null_none : (t : BuilderTree) → nulls_pass 1 t ≡ false → item_refusal items.null t ≡ None
null_none t h = rw h refl

pub null_past : (t : BuilderTree) → nulls_pass 1 t ≡ true → item_refusal items.null t ≡ Some Overflow
null_past t h = rw h refl

pub null_passes : (t : BuilderTree) (e : Error) → item_refusal items.null t ≡ Some e → (e ≡ Overflow) × (nulls_pass 1 t ≡ true)
null_passes t e h = by_case (nulls_pass 1 t) refl
  where
    by_case : (b : Bool) → nulls_pass 1 t ≡ b → (e ≡ Overflow) × (nulls_pass 1 t ≡ true)
    by_case true k = (let a : Some Overflow ≡ Some e = sym (null_past t k) ∙ h in cc, k)
    by_case false k = absurd (let a : None ≡ Some e = sym (null_none t k) ∙ h in cc)

pub null_fits : (t : BuilderTree) → item_refusal items.null t ≡ None → nulls_pass 1 t ≡ false
null_fits t h = by_case (nulls_pass 1 t) refl
  where
    by_case : (b : Bool) → nulls_pass 1 t ≡ b → nulls_pass 1 t ≡ false
    by_case true k = absurd (let a : Some Overflow ≡ None = sym (null_past t k) ∙ h in cc)
    by_case false k = k
