-- The calls of a fixed-size list builder.
use Rattle.std.specs.Prelude.{◌⊎◌, ◌≢◌, ◌||◌, Option, Some, None, alloc_error}
use Rattle.std.proofs.Common.{◌≡◌, ℕ, zero, suc, ◌+◌, ◌-◌, ◌*◌, ◌<◌, ◌≤◌, Bool, true, false, List, [], ◌∷◌, ◌++◌, length, replicate, refl, sym, ap, subst, ◌∙◌, inl, inr, arith, ◌/◌, ◌%◌}
use Rattle.std.proofs.lemmas.List.{length-replicate}
use Rattle.std.proofs.Math.Nat.{add-mul, mul-suc, mul-div_cancel, mul-mod_left}
use Rattle.nest_memory.specs.TypeTree.{TypeTree, item_type, size_of}
use Rattle.nest_memory.specs.declared.error.Error.{Error}
use Rattle.nest_memory.specs.declared.error.Error.TheVariants.{Memory, Overflow, InvalidArgumentError}
use Rattle.nest_memory.specs.declared.error.ArgumentError.TheVariants.{ItemSize, ItemType}
use Rattle.nest_model.specs.BuilderTree.{BuilderTree, fixed_size_list, builder_len, builder_type, flat}
use Rattle.nest_model.specs.BuilderComplete.{IsComplete}
use Rattle.nest_model.specs.BuilderItem as items
use Rattle.nest_model.specs.BuilderItem.{Item, seal_items}
use Rattle.nest_model.specs.BuilderAppend.{Accepted, AcceptedAll}
use Rattle.nest_model.specs.BuilderAddRow.{RowAdded}
use Rattle.nest_model.specs.BuilderAppendLaws.{len-accepted_all, fixed_size_list_accepted, fixed_size_list_null_accepted}
use Rattle.nest_model.specs.BuilderJoin.{Joined, join_checks, join_passes}
use Rattle.nest_model.specs.BuilderJoinLaws.{fixed_size_list_joined}
use Rattle.nest_model.specs.BuilderAddRowLaws.{fixed_size_list_row_added}
use Rattle.nest_model.specs.BuilderRefusals.{item_refusal, nulls_pass}
use Rattle.nest_model.specs.BuilderRefusalLaws.{within, fixed_none, fixed_size, null_past}
use Rattle.nest_model.specs.BuilderReading.{begun, ReadsList, Reading, Consumed, Refused, ConsumedAll, RefusedSome}
use Rattle.nest_model.specs.Checks.{Pass, FailFirst, is_past, largest_length}
use Rattle.nest_model.specs.BuilderLevels.{own_slots, rows_of_size}
use Rattle.nest_model.specs.BuilderLevelLaws.{own-length, len-grown}
use Rattle.nest_memory.specs.Physical.{physical_type}
use Rattle.nest_memory.specs.declared.datatypes.physical_type.PhysicalType.TheVariants as physical
use Rattle.nest_model.specs.Part.{Validity}
use Rattle.nest_model.specs.Fits.{Fits, ValidityFits}
use Rattle.nest_model.specs.Layout as layouts
use Rattle.nest_model.specs.Layout.{Layout, layout_type}
use Rattle.nest_model.specs.Meaning.{len, slots_of}
use Rattle.nest_model.specs.Reads.{slots-length}
use Rattle.nest_model.specs.BuilderFreeze.{EncodesBits}
use Rattle.nest_model.specs.BuilderFreezeLaws.{fixed_size_list-frozen}
use Rattle.nest_build.proofs.Lists.{row_refused, fails-below, joined_type}

pub item_refused : {U T A : Type 0} (how : Reading U T A) (item : Option U) (u : U) (k : TypeTree) (bits : List Bool) (c : BuilderTree) (e : Error)
    → item ≡ Some u → RefusedSome how u c e → Refused (ReadsList how) item (fixed_size_list k bits c) e
item_refused how item u k bits c e h (inl m) = inl m
item_refused how item u k bits c e h (inr q) = rw h (inr (begun q.0 q.1, inr (q.0, q.1, q.2, refl), q.3))

-- the number of items of a row
pub counted : (c d : BuilderTree) (m n : ℕ) (xs : List Item) → AcceptedAll xs c d → m ≡ builder_len c → n ≡ builder_len d → n - m ≡ length xs
counted c d m n xs a e f = omega (arith, len-accepted_all xs c d a, e, f)

filled : (k : TypeTree) (bits : List Bool) (c d : BuilderTree) (xs : List Item) (n : ℕ) → AcceptedAll xs c d → length xs ≡ size_of k → n ≡ builder_len d → n ≤ largest_length → IsComplete (fixed_size_list k bits c)
    → (length bits + 1) * size_of k ≤ largest_length
filled k bits c d xs n a l e t v =
    let g = len-accepted_all xs c d a in
    let more = add-mul (length bits) 1 (size_of k) in
    omega (arith, more, g, v.2, e, t, l)

pub other_size : {U T A : Type 0} (how : Reading U T A) (item : Option U) (u : U) (k : TypeTree) (bits : List Bool) (c d : BuilderTree) (m n size : ℕ)
    → item ≡ Some u → ConsumedAll how u c d → m ≡ builder_len c → n ≡ builder_len d → size ≡ size_of k → (n - m ≢ size) → Refused (ReadsList how) item (fixed_size_list k bits c) (InvalidArgumentError ItemSize)
other_size how item u k bits c d m n size h q e f z w =
    row_refused how item u (fixed_size_list k bits c) c d (InvalidArgumentError ItemSize) h q (fixed_size k bits c q.0 q.3 (λ p. w (counted c d m n q.0 q.2 e f ∙ p ∙ sym z)))

pub row_took : {U T A : Type 0} (how : Reading U T A) (item : Option U) (u : U) (k : TypeTree) (bits new : List Bool) (c d : BuilderTree) (m n size : ℕ)
    → item ≡ Some u → ConsumedAll how u c d → m ≡ builder_len c → n ≡ builder_len d → size ≡ size_of k → n - m ≡ size → new ≡ bits ++ true ∷ [] → length bits + 1 ≤ largest_length → n ≤ largest_length → IsComplete (fixed_size_list k bits c)
    → Consumed (ReadsList how) item (fixed_size_list k bits c) (fixed_size_list k new d)
row_took how item u k bits new c d m n size h q e f z w x l t v =
    let count : length q.0 ≡ size_of k = sym (counted c d m n q.0 q.2 e f) ∙ w ∙ z in
    rw h (items.list_of (seal_items q.0), inl (q.0, q.1, refl), fixed_size_list_accepted k bits new c d q.0 count x v q.2, fixed_none k bits c q.0 q.3 count l (filled k bits c d q.0 n q.2 count f t v))

-- a number of rows is at most the number of their items, so it is a length
pub mul-above : (a b : ℕ) → 0 < b → a ≤ a * b
mul-above a zero g = absurd (omega arith)
mul-above a (suc b) g = omega (arith, mul-suc a b)

pub rows_below : (k : TypeTree) (bits : List Bool) (size n : ℕ) → size ≡ size_of k → 0 < size → (length bits + 1) * size_of k ≤ n → length bits + 1 ≤ n
rows_below k bits size n z s l = omega (arith, l, mul-above (length bits + 1) (size_of k) (omega (arith, z, s)))

pub memory_alone : (k : TypeTree) (bits : List Bool) (c d : BuilderTree) (xs : List Item) (n size : ℕ) (e : Error) → AcceptedAll xs c d → length xs ≡ size_of k → size ≡ size_of k → 0 < size → n ≡ builder_len d → n ≤ largest_length
    → IsComplete (fixed_size_list k bits c) → (e ≡ Memory alloc_error) ⊎ ((e ≡ Overflow) × (largest_length < length bits + 1)) → e ≡ Memory alloc_error
memory_alone k bits c d xs n size e a x z s l t v (inl m) = m
memory_alone k bits c d xs n size e a x z s l t v (inr p) = absurd (omega (arith, p.1, rows_below k bits size largest_length z s (filled k bits c d xs n a x l t v)))

-- a row whose items are pending is refused only if an allocation fails
pub told_memory : (k : TypeTree) (bits : List Bool) (n : ℕ) (e : Error) → 0 < size_of k → n ≤ largest_length → n ≡ (length bits + 1) * size_of k → (e ≡ Memory alloc_error) ⊎ ((e ≡ Overflow) × (largest_length < length bits + 1)) → e ≡ Memory alloc_error
told_memory k bits n e s t f (inl m) = m
told_memory k bits n e s t f (inr p) = absurd (let l = mul-above (length bits + 1) (size_of k) s in omega (arith, p.1, t, f, l))

-- a null row
pub null_took : (k : TypeTree) (bits new : List Bool) (c d : BuilderTree) (size : ℕ) → size ≡ size_of k → new ≡ bits ++ false ∷ [] → AcceptedAll (replicate size items.null) c d → IsComplete (fixed_size_list k bits c)
    → Accepted items.null (fixed_size_list k bits c) (fixed_size_list k new d)
null_took k bits new c d size z f a w = fixed_size_list_null_accepted k bits new c d f w (subst (λ m. AcceptedAll (replicate m items.null) c d) z a)

pub null_unrefused : (k : TypeTree) (bits : List Bool) (c d : BuilderTree) (n size : ℕ) → size ≡ size_of k → AcceptedAll (replicate size items.null) c d → nulls_pass size c ≡ false → n ≡ builder_len d → length bits + 1 ≤ largest_length → n ≤ largest_length
    → IsComplete (fixed_size_list k bits c) → item_refusal items.null (fixed_size_list k bits c) ≡ None
null_unrefused k bits c d n size z a p e l t w =
    let r : length (replicate size items.null) ≡ size_of k = length-replicate size items.null ∙ z in
    let m = filled k bits c d (replicate size items.null) n a r e t w in
    let x : nulls_pass (1 * size_of k) c ≡ false = ap (λ s. nulls_pass s c) (let o : 1 * size_of k ≡ size_of k = omega arith in o ∙ sym z) ∙ p in
    rw (within (length bits + 1) l, within ((length bits + 1) * size_of k) m, x) refl

or-true : (b : Bool) → (b || true) ≡ true
or-true true = refl
or-true false = refl

pub null_refused : (k : TypeTree) (bits : List Bool) (c : BuilderTree) (size : ℕ) (e : Error) → size ≡ size_of k → (e ≡ Memory alloc_error) ⊎ ((e ≡ Overflow) × (nulls_pass size c ≡ true))
    → (e ≡ Memory alloc_error) ⊎ (item_refusal items.null (fixed_size_list k bits c) ≡ Some e)
null_refused k bits c size e z (inl m) = inl m
null_refused k bits c size e z (inr p) =
    let x : nulls_pass (1 * size_of k) c ≡ true = ap (λ s. nulls_pass s c) (let o : 1 * size_of k ≡ size_of k = omega arith in o ∙ sym z) ∙ p.1 in
    let all : nulls_pass 1 (fixed_size_list k bits c) ≡ true = ap (λ b. (is_past (length bits + 1) || is_past ((length bits + 1) * size_of k)) || b) x ∙ or-true _ in
    inr (null_past (fixed_size_list k bits c) all ∙ ap Some (sym p.0))

-- an added row
pub row_told : (k : TypeTree) (bits new : List Bool) (c : BuilderTree) → new ≡ bits ++ true ∷ [] → IsComplete c → item_type k ≡ Some (builder_type c) → builder_len c ≡ (length bits + 1) * size_of k → RowAdded true (fixed_size_list k bits c) (fixed_size_list k new c)
row_told k bits new c f w t n = fixed_size_list_row_added true k bits new c f (w, t, n)

-- joined rows
or-below : (a b : Bool) → (a || b) ≡ false → b ≡ false
or-below true b h = absurd cc
or-below false b h = h

pub child_join_refused : (k m : TypeTree) (bits more : List Bool) (c d : BuilderTree) (e : Error) → k ≡ m → builder_type c ≡ builder_type d → (e ≡ Memory alloc_error) ⊎ FailFirst e (join_checks c d)
    → (e ≡ Memory alloc_error) ⊎ FailFirst e (join_checks (fixed_size_list k bits c) (fixed_size_list m more d))
child_join_refused k m bits more c d e h t (inl p) = inl p
child_join_refused k m bits more c d e h t (inr p) =
    inr (fails-below e (InvalidArgumentError ItemType) Overflow (builder_type c ≡ builder_type d) (k ≡ m) (join_passes c d ≡ false) (join_passes (fixed_size_list k bits c) (fixed_size_list m more d) ≡ false) t h
    (or-below _ (join_passes c d)) p)

pub rows_joined : (k m : TypeTree) (bits more new : List Bool) (c d e : BuilderTree) → k ≡ m → new ≡ bits ++ more → IsComplete (fixed_size_list k bits c) → IsComplete (fixed_size_list m more d)
    → Joined d c e → Joined (fixed_size_list m more d) (fixed_size_list k bits c) (fixed_size_list k new e)
rows_joined k m bits more new c d e h f w v j =
    rw (← h) (fixed_size_list_joined k bits more new c d e f w (rw h v) (joined_type c d e j) j)

-- the number of items is the sum
joined_size : (k m : TypeTree) (bits more : List Bool) (c d e : BuilderTree) (n : ℕ) → k ≡ m → Joined d c e → n ≡ builder_len e → n ≤ largest_length → IsComplete (fixed_size_list k bits c) → IsComplete (fixed_size_list m more d)
    → (length bits + length more) * size_of k ≤ largest_length
joined_size k m bits more c d e n h j f l w v =
    let g = len-grown (own_slots d) c e j.last in
    let z = ap (λ t. length more * size_of t) h in
    omega (arith, g, own-length d, w.2, v.2, f, l, z, add-mul (length bits) (length more) (size_of k))

pub join_alone : (k m : TypeTree) (bits more : List Bool) (c d e : BuilderTree) (n size : ℕ) (x : Error) → k ≡ m → size ≡ size_of k → 0 < size → Joined d c e → n ≡ builder_len e → n ≤ largest_length → IsComplete (fixed_size_list k bits c) → IsComplete (fixed_size_list m more d)
    → (x ≡ Memory alloc_error) ⊎ ((x ≡ Overflow) × (largest_length < length bits + length more)) → x ≡ Memory alloc_error
join_alone k m bits more c d e n size x h z s j f l w v (inl q) = q
join_alone k m bits more c d e n size x h z s j f l w v (inr p) =
    absurd (omega (arith, p.1, joined_size k m bits more c d e n h j f l w v, mul-above (length bits + length more) (size_of k) (omega (arith, z, s))))

pub join_unrefused : (k m : TypeTree) (bits more : List Bool) (c d e : BuilderTree) (n : ℕ) → k ≡ m → Joined d c e → n ≡ builder_len e → n ≤ largest_length → IsComplete (fixed_size_list k bits c) → IsComplete (fixed_size_list m more d)
    → length bits + length more ≤ largest_length → Pass (join_checks c d) → Pass (join_checks (fixed_size_list k bits c) (fixed_size_list m more d))
join_unrefused k m bits more c d e n h j f l w v r p =
    (h, (rw (within (length bits + length more) r, within ((length bits + length more) * size_of k) (joined_size k m bits more c d e n h j f l w v), p.1.0) refl, tt))

-- the array of the rows
pub rows-fit : (t : TypeTree) (bits : List Bool) (a : Layout) (va : Validity) (n : ℕ) → physical_type t ≡ physical.FixedSizeList → 0 < size_of t → item_type t ≡ Some (layout_type a) → len a ≡ length bits * size_of t → n ≡ length bits → ValidityFits va n
    → Fits (layouts.fixed_size_list t a va)
rows-fit t bits a va n p s i l e v =
    let count : len a / size_of t ≡ length bits = ap (λ m. m / size_of t) l ∙ mul-div_cancel (length bits) s in
    let rest : len a % size_of t ≡ 0 = ap (λ m. m % size_of t) l ∙ mul-mod_left (length bits) (size_of t) in
    (p, (s, (i, (rest, (subst (ValidityFits va) (e ∙ sym count) v, tt)))))

pub rows-frozen : (t : TypeTree) (bits : List Bool) (a : Layout) (va : Validity) → 0 < size_of t → item_type t ≡ Some (layout_type a) → len a ≡ length bits * size_of t → EncodesBits va bits
    → slots_of (layouts.fixed_size_list t a va) ≡ rows_of_size 0 (size_of t) bits (slots_of a)
rows-frozen t bits a va s i l v =
    fixed_size_list-frozen t bits (flat (layout_type a) (slots_of a)) a va s (tt, i, slots-length a ∙ l) refl v
