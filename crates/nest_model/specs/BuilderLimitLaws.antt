-- A push that no check refuses leaves each level within its limits.
use Rattle.std.specs.Prelude.{Option, Some, None, not, ◌||◌, leb, ltb, nat_eq, if◌then◌else◌}
use Rattle.std.proofs.Common.{◌≡◌, ℕ, zero, suc, ◌+◌, ◌*◌, Bool, true, false, List, [], ◌∷◌, ◌++◌, length, replicate, refl, sym, ◌∙◌, arith, inl, inr}
use Rattle.std.proofs.lemmas.Bool.Decides.{leb_tells}
use Rattle.std.proofs.lemmas.List.{length-append, length-replicate, length_push}
use Rattle.nest_memory.specs.TypeTree.{TypeTree, size_of}
use Rattle.nest_memory.specs.Physical.{physical_type}
use Rattle.nest_memory.specs.declared.datatypes.IntegerType.{IntegerType}
use Rattle.nest_memory.specs.declared.datatypes.physical_type.PhysicalType.{PhysicalType}
use Rattle.nest_memory.specs.declared.datatypes.physical_type.PhysicalType.TheVariants as physical
use Rattle.nest_memory.specs.declared.error.Error.TheVariants.{InvalidArgumentError, Overflow}
use Rattle.nest_memory.specs.declared.error.ArgumentError.TheVariants.{ItemSize, ItemType}
use Rattle.nest_memory.specs.declared.error.Error.{Error}
use Rattle.nest_memory.specs.Rising.{largest_offset}
use Rattle.nest_model.specs.Slot as slots
use Rattle.nest_model.specs.Slot.{Slot}
use Rattle.nest_model.specs.Checks.{refuse_if, first_of, is_past}
use Rattle.nest_model.specs.Decide.{refuse-none, first-none}
use Rattle.nest_model.specs.BuilderRow.{row_ending, end_from}
use Rattle.nest_model.specs.BuilderTree.{BuilderTree, BuilderTrees, flat, list, fixed_size_list, dictionary, struct, no_builders, more_builders, builder_len, key_count}
use Rattle.nest_model.specs.BuilderLevels.{own_slots}
use Rattle.nest_model.specs.BuilderItem as items
use Rattle.nest_model.specs.BuilderItem.{PlainValue, Item, Items, no_items, more_items, count_items, slot_of_plain, takes, position_of, byte_count, bytes_held}
use Rattle.nest_model.specs.BuilderAppend.{nulls_appended, nulls_appended_each, keyed, value_appended, appended, items_appended}
use Rattle.nest_model.specs.BuilderRefusals.{bytes_pass, flat_passes, has_other_size, nulls_pass, nulls_pass_each, is_known, value_refusal, item_refusal, items_refusal, over_limits, over_limits_each}
use Rattle.nest_model.specs.BuilderRowLaws.{end_from-push}
use Rattle.nest_model.specs.BuilderRefusalLaws.{below}
use Rattle.nest_model.specs.BuilderRowCheckLaws.{bytes_held-append}
use Rattle.nest_model.specs.BuilderAcceptLaws.{end-nulls, some_none, new_refused, unknown}

neither : (a b : Bool) → (a || b) ≡ false → (a ≡ false) × (b ≡ false)
neither true b h = absurd (let e : true ≡ false = h in cc)
neither false b h = (refl, h)

either : (a b : Bool) → a ≡ false → b ≡ false → (a || b) ≡ false
either a b h k = rw (h, k) refl

-- nulls
no_bytes : (n : ℕ) → bytes_held (replicate n slots.null) ≡ 0
no_bytes zero = refl
no_bytes (suc n) = omega (arith, no_bytes n)

held-nulls : (xs : List Slot) (n : ℕ) → bytes_held (xs ++ replicate n slots.null) ≡ bytes_held xs
held-nulls xs n = omega (arith, bytes_held-append xs (replicate n slots.null), no_bytes n)

bytes-fit : (p : PhysicalType) (m n b : ℕ) → bytes_pass p m 0 ≡ false → bytes_pass p n b ≡ false → bytes_pass p m b ≡ false
bytes-fit physical.FixedSizeBinary m n b h k = h
bytes-fit physical.Binary m n b h k = k
bytes-fit physical.LargeBinary m n b h k = k
bytes-fit physical.Utf8 m n b h k = k
bytes-fit physical.LargeUtf8 m n b h k = k
bytes-fit physical.Null m n b h k = h
bytes-fit physical.Boolean m n b h k = h
bytes-fit (physical.Primitive q) m n b h k = h
bytes-fit physical.List m n b h k = h
bytes-fit physical.FixedSizeList m n b h k = h
bytes-fit physical.LargeList m n b h k = h
bytes-fit physical.Struct m n b h k = h
bytes-fit physical.Union m n b h k = h
bytes-fit physical.Map m n b h k = h
bytes-fit (physical.Dictionary i) m n b h k = h

longer : {A : Type 0} (xs : List A) (n : ℕ) (x : A) → length (xs ++ replicate n x) ≡ length xs + n
longer xs n x = omega (arith, length-append xs (replicate n x), length-replicate n x)

mutual
  nulls-within : (n : ℕ) (t : BuilderTree) → over_limits t ≡ false → nulls_pass n t ≡ false → over_limits (nulls_appended n t) ≡ false
  nulls-within n (flat k xs) o h =
      let a = neither (is_past (length xs + n)) (bytes_pass (physical_type k) ((length xs + n) * size_of k) 0) h in
      let b = neither (is_past (length xs)) (bytes_pass (physical_type k) (length xs * size_of k) (bytes_held xs)) o in
      rw (longer xs n slots.null, held-nulls xs n)
      (either (is_past (length xs + n)) (bytes_pass (physical_type k) ((length xs + n) * size_of k) (bytes_held xs)) a.0
      (bytes-fit (physical_type k) ((length xs + n) * size_of k) (length xs * size_of k) (bytes_held xs) a.1 b.1))
  nulls-within n (list large k rows c) o h =
      let a = neither (is_past (length rows) || ltb (largest_offset large) (end_from 0 rows)) (over_limits c) o in
      let b = neither (is_past (length rows)) (ltb (largest_offset large) (end_from 0 rows)) a.0 in
      rw (longer rows n (row_ending false (end_from 0 rows)), end-nulls rows n, h, b.1, a.1) refl
  nulls-within n (fixed_size_list k bits c) o h =
      let a = neither (is_past (length bits) || is_past (length bits * size_of k)) (over_limits c) o in
      let b = neither (is_past (length bits + n) || is_past ((length bits + n) * size_of k)) (nulls_pass (n * size_of k) c) h in
      rw (longer bits n false, b.0, nulls-within (n * size_of k) c a.1 b.1) refl
  nulls-within n (dictionary i k keys c) o h =
      let a = neither (is_past (length keys) || ltb (key_count i) (builder_len c)) (over_limits c) o in
      let b = neither (is_past (length keys)) (ltb (key_count i) (builder_len c)) a.0 in
      rw (longer {A = Option ℕ} keys n None, h, b.1, a.1) refl
  nulls-within n (struct k bits cs) o h =
      let a = neither (is_past (length bits)) (over_limits_each cs) o in
      let b = neither (is_past (length bits + n)) (nulls_pass_each n cs) h in
      rw (longer bits n false, b.0, nulls-within-each n cs a.1 b.1) refl

  nulls-within-each : (n : ℕ) (cs : BuilderTrees) → over_limits_each cs ≡ false → nulls_pass_each n cs ≡ false → over_limits_each (nulls_appended_each n cs) ≡ false
  nulls-within-each n no_builders o h = refl
  nulls-within-each n (more_builders c cs) o h =
      let a = neither (over_limits c) (over_limits_each cs) o in
      let b = neither (nulls_pass n c) (nulls_pass_each n cs) h in
      rw (nulls-within n c a.0 b.0, nulls-within-each n cs a.1 b.1) refl

-- values
value-len : (v : PlainValue) (t : BuilderTree) → value_refusal v t ≡ None → builder_len (value_appended v t) ≡ builder_len t + 1
value-len v (flat k xs) h = length_push xs (slot_of_plain v)
value-len v (list large k rows c) h = absurd (some_none (InvalidArgumentError ItemType) h)
value-len v (fixed_size_list k bits c) h = absurd (some_none (InvalidArgumentError ItemType) h)
value-len v (dictionary i k keys c) h = keyed-len i k keys c (value_appended v c) (position_of v (own_slots c))
  where
    keyed-len : (i : IntegerType) (k : TypeTree) (keys : List (Option ℕ)) (c d : BuilderTree) (o : Option ℕ) → builder_len (keyed i k keys c d o) ≡ length keys + 1
    keyed-len i k keys c d (Some j) = length_push keys (Some j)
    keyed-len i k keys c d None = length_push keys (Some (builder_len c))
value-len v (struct k bits cs) h = absurd (some_none (InvalidArgumentError ItemType) h)

-- a new key fits, if one is left
has_key : (known full other : Bool) (rest own : Option Error) → known ≡ false → first_of (if known then None else refuse_if full Overflow (refuse_if other (InvalidArgumentError ItemType) rest)) own ≡ None → full ≡ false
has_key true full other rest own e h = absurd (let a : true ≡ false = e in cc)
has_key false full other rest own e h = (refuse-none full Overflow (refuse_if other (InvalidArgumentError ItemType) rest) (first-none (refuse_if full Overflow (refuse_if other (InvalidArgumentError ItemType) rest)) own h).0).0

one_more : (m n : ℕ) → leb m n ≡ false → ltb m (n + 1) ≡ false
one_more m n h = elim (leb_tells m n) as (λ _. ltb m (n + 1) ≡ false) [
  | inl e ↦ absurd (let a : true ≡ false = sym e.0 ∙ h in cc)
  | inr e ↦ let l = e.1 in below (suc m) (n + 1) (omega arith)
]

key-within : (i : IntegerType) (k : TypeTree) (keys : List (Option ℕ)) (c d : BuilderTree) (o : Option ℕ) → is_past (length keys + 1) ≡ false → ltb (key_count i) (builder_len c) ≡ false → over_limits c ≡ false
    → (o ≡ None → (ltb (key_count i) (builder_len d) ≡ false) × (over_limits d ≡ false)) → over_limits (keyed i k keys c d o) ≡ false
key-within i k keys c d (Some j) a b w f = rw (length_push keys (Some j), a, b, w) refl
key-within i k keys c d None a b w f = let g = f refl in rw (length_push keys (Some (builder_len c)), a, g.0, g.1) refl

value-within : (v : PlainValue) (t : BuilderTree) → over_limits t ≡ false → value_refusal v t ≡ None → over_limits (value_appended v t) ≡ false
value-within v (flat k xs) o h =
    let s = slot_of_plain v in
    let own = refuse_if (flat_passes k (length xs + 1) (bytes_held xs + byte_count s)) Overflow None in
    let sized = refuse_if (has_other_size (physical_type k) (size_of k) (byte_count s)) (InvalidArgumentError ItemSize) own in
    let r = (refuse-none (not (takes (flat k xs) v)) (InvalidArgumentError ItemType) sized h).1 in
    let q = (refuse-none (has_other_size (physical_type k) (size_of k) (byte_count s)) (InvalidArgumentError ItemSize) own r).1 in
    let p = (refuse-none (flat_passes k (length xs + 1) (bytes_held xs + byte_count s)) Overflow None q).0 in
    let z : bytes_held (xs ++ s ∷ []) ≡ bytes_held xs + byte_count s = omega (arith, bytes_held-append xs (s ∷ [])) in
    rw (length_push xs s, z) p
value-within v (list large k rows c) o h = absurd (some_none (InvalidArgumentError ItemType) h)
value-within v (fixed_size_list k bits c) o h = absurd (some_none (InvalidArgumentError ItemType) h)
value-within v (dictionary i k keys c) o h =
    let a = neither (is_past (length keys) || ltb (key_count i) (builder_len c)) (over_limits c) o in
    let b = neither (is_past (length keys)) (ltb (key_count i) (builder_len c)) a.0 in
    let full = leb (key_count i) (builder_len c) in
    let own = refuse_if (is_past (length keys + 1)) Overflow None in
    key-within i k keys c (value_appended v c) (position_of v (own_slots c)) (refuse-none (is_past (length keys + 1)) Overflow None (first-none _ own h).1).0 b.1 a.1
    (λ e.
    let u = unknown (takes c v) (position_of v (own_slots c)) e in
    let r = new_refused (is_known c v) full (not (takes c v)) (value_refusal v c) own u h in
    let l = value-len v c r in
    (rw l (one_more (key_count i) (builder_len c) (has_key (is_known c v) full (not (takes c v)) (value_refusal v c) own u h)), value-within v c a.1 r))
value-within v (struct k bits cs) o h = absurd (some_none (InvalidArgumentError ItemType) h)

-- items
mutual
  pub item-within : (x : Item) (t : BuilderTree) → over_limits t ≡ false → item_refusal x t ≡ None → over_limits (appended x t) ≡ false
  item-within items.null t o h = nulls-within 1 t o (refuse-none (nulls_pass 1 t) Overflow None h).0
  item-within (items.plain v) t o h = value-within v t o h
  item-within (items.list_of xs) (flat k ss) o h = absurd (some_none (InvalidArgumentError ItemType) h)
  item-within (items.list_of xs) (list large k rows c) o h =
      let d = items_appended xs c in
      let a = neither (is_past (length rows) || ltb (largest_offset large) (end_from 0 rows)) (over_limits c) o in
      let f = first-none (items_refusal xs c) _ h in
      let r = neither (is_past (length rows + 1)) (ltb (largest_offset large) (builder_len d)) (refuse-none _ Overflow None f.1).0 in
      rw (length_push rows (row_ending true (builder_len d)), end_from-push 0 rows (row_ending true (builder_len d)), r.0, r.1, items-within xs c a.1 f.0) refl
  item-within (items.list_of xs) (fixed_size_list k bits c) o h =
      let a = neither (is_past (length bits) || is_past (length bits * size_of k)) (over_limits c) o in
      let f = first-none (items_refusal xs c) _ h in
      let full = is_past (length bits + 1) || is_past ((length bits + 1) * size_of k) in
      let r = (refuse-none full Overflow None (refuse-none (not (nat_eq (count_items xs) (size_of k))) (InvalidArgumentError ItemSize) (refuse_if full Overflow None) f.1).1).0 in
      rw (length_push bits true, r, items-within xs c a.1 f.0) refl
  item-within (items.list_of xs) (dictionary i k keys c) o h = absurd (some_none (InvalidArgumentError ItemType) h)
  item-within (items.list_of xs) (struct k bits cs) o h = absurd (some_none (InvalidArgumentError ItemType) h)

  items-within : (xs : Items) (t : BuilderTree) → over_limits t ≡ false → items_refusal xs t ≡ None → over_limits (items_appended xs t) ≡ false
  items-within no_items t o h = o
  items-within (more_items x xs) t o h =
      let f = first-none (item_refusal x t) _ h in
      items-within xs (appended x t) (item-within x t o f.0) f.1
