-- The array frozen from a builder's rows and its children's arrays represents the builder's own slots.
use Rattle.std.specs.Prelude.{Option, Some, None, if◌then◌else◌}
use Rattle.std.proofs.Common.{◌≡◌, ℕ, zero, suc, ◌+◌, ◌*◌, ◌/◌, ◌≤◌, ◌<◌, Bool, true, false, List, [], ◌∷◌, length, get_or, map, refl, sym, ap, ◌∙◌, arith}
use Rattle.std.proofs.Math.Nat.{mul-div_cancel, mul-le-mul_right, add-mul, suc-mul, zero-mul}
use Rattle.std.proofs.lemmas.List.{length-map}
use Rattle.nest_memory.specs.TypeTree.{TypeTree, size_of}
use Rattle.nest_memory.specs.Sublist.{sublist}
use Rattle.nest_memory.specs.declared.datatypes.IntegerType.{IntegerType}
use Rattle.nest_model.specs.Slot as slots
use Rattle.nest_model.specs.Slot.{Slot, Slots, seal}
use Rattle.nest_model.specs.Part.{Validity, valid_at, begin, extent, count_rows, to_index}
use Rattle.nest_model.specs.Layout as layouts
use Rattle.nest_model.specs.Layout.{Layout, Layouts, no_layouts, more_layouts}
use Rattle.nest_model.specs.Accessors.{validity_of, key_at}
use Rattle.nest_model.specs.Meaning.{run, len, first_len, slot, each, slots_of}
use Rattle.nest_model.specs.Reads.{slots-length, slot-place, items-cut}
use Rattle.nest_model.specs.BuilderRow.{Row, end_from, RisesFrom}
use Rattle.nest_model.specs.BuilderTree.{BuilderTree, BuilderTrees, list, fixed_size_list, dictionary, struct, no_builders, more_builders, builder_len}
use Rattle.nest_model.specs.BuilderLevels.{valid_or_null, rows_of_items, rows_of_size, value_at, record_at, rows_of_records, own_slots, own_slots_each}
use Rattle.nest_model.specs.BuilderComplete.{IsComplete, AreComplete}
use Rattle.nest_model.specs.BuilderFreeze.{offsets_from, row_bits, EncodesBits, EncodesKey, EncodesKeys, EachFrozen}
use Rattle.nest_model.specs.BuilderRowLaws.{end_from-le, values_needed-above}
use Rattle.nest_model.specs.BuilderLevelLaws.{own-length}

-- lists that are equal at each index are equal
same_places : (xs ys : List Slot) → length xs ≡ length ys → ((i : ℕ) → i < length xs → get_or xs i slots.null ≡ get_or ys i slots.null) → xs ≡ ys
same_places [] [] e h = refl
same_places [] (y ∷ ys) e h = absurd (omega (arith, e))
same_places (x ∷ xs) [] e h = absurd (omega (arith, e))
same_places (x ∷ xs) (y ∷ ys) e h =
    let first : x ≡ y = h zero (omega arith) in
    let rest : xs ≡ ys = same_places xs ys (omega (arith, e)) (λ i l. h (suc i) (omega (arith, l))) in
    cc

-- a layout whose slot at each index is the list's
pub frozen-by_place : (a : Layout) (xs : List Slot) → len a ≡ length xs → ((i : ℕ) → i < length xs → slot a i ≡ get_or xs i slots.null) → slots_of a ≡ xs
frozen-by_place a xs e h = same_places (slots_of a) xs (slots-length a ∙ e) (λ i l.
    let below : i < len a = omega (arith, l, slots-length a) in
    slot-place a i slots.null below ∙ h i (omega (arith, below, e)))

if-valid : (b : Bool) (s : Slot) → (if b then s else slots.null) ≡ valid_or_null b s
if-valid true s = refl
if-valid false s = refl

pub valid-bits : (va : Validity) (bits : List Bool) (i : ℕ) → EncodesBits va bits → i < length bits → valid_at va i ≡ get_or bits i true
valid-bits None bits i h l = sym (h i l)
valid-bits (Some vs) bits i h l = ap (λ bs. get_or bs i true) h

-- lists
first-offset : (s : ℕ) (rs : List Row) → get_or (offsets_from s rs) 0 0 ≡ s
first-offset s [] = refl
first-offset s (r ∷ rs) = refl

pub length-offsets : (s : ℕ) (rs : List Row) → length (offsets_from s rs) ≡ length rs + 1
length-offsets s [] = omega arith
length-offsets s (r ∷ rs) = omega (arith, length-offsets r.end rs)

offsets-fit : (s m i : ℕ) (rs : List Row) → RisesFrom s rs → end_from s rs ≤ m → i < length rs → begin (offsets_from s rs) i + extent (offsets_from s rs) i ≤ m
offsets-fit s m i [] h l k = absurd (omega (arith, k))
offsets-fit s m zero (r ∷ rs) h l k = omega (arith, h.0, end_from-le r.end rs h.1, l, first-offset r.end rs)
offsets-fit s m (suc i) (r ∷ rs) h l k =
    let e : suc i + 1 ≡ suc (i + 1) = omega arith in
    rw e (offsets-fit r.end m i rs h.1 l (omega (arith, k)))

items-place : (s i : ℕ) (rs : List Row) (xs : List Slot) → i < length rs
    → get_or (rows_of_items s rs xs) i slots.null ≡ valid_or_null (get_or (row_bits rs) i true) (slots.list (seal (sublist xs (begin (offsets_from s rs) i) (extent (offsets_from s rs) i))))
items-place s i [] xs k = absurd (omega (arith, k))
items-place s zero (r ∷ rs) xs k = rw (first-offset r.end rs) refl
items-place s (suc i) (r ∷ rs) xs k =
    let e : suc i + 1 ≡ suc (i + 1) = omega arith in
    rw e (items-place r.end i rs xs (omega (arith, k)))

frozen_len : (a : Layout) (c : BuilderTree) → slots_of a ≡ own_slots c → len a ≡ builder_len c
frozen_len a c e = sym (slots-length a) ∙ (ap length e ∙ own-length c)

-- a list over the array of its child
pub list-frozen : (large : Bool) (t : TypeTree) (rs : List Row) (c : BuilderTree) (a : Layout) (va : Validity) → IsComplete (list large t rs c) → slots_of a ≡ own_slots c → EncodesBits va (row_bits rs)
    → slots_of (layouts.list large t (offsets_from 0 rs) a va) ≡ own_slots (list large t rs c)
list-frozen large t rs c a va w f v =
    let own = own-length (list large t rs c) in
    let os = offsets_from 0 rs in
    let count : count_rows os ≡ length (own_slots (list large t rs c)) = omega (arith, length-offsets 0 rs, own) in
    frozen-by_place (layouts.list large t os a va) (own_slots (list large t rs c)) count (λ i l.
    let below : i < length rs = omega (arith, l, own) in
    let bit : valid_at va i ≡ get_or (row_bits rs) i true = valid-bits va (row_bits rs) i v (omega (arith, below, length-map rs (λ (r : Row). r.valid))) in
    let within : begin os i + extent os i ≤ len a = offsets-fit 0 (len a) i rs w.3 (omega (arith, w.2, frozen_len a c f)) below in
    let items : run (slot a) (begin os i) (extent os i) ≡ sublist (own_slots c) (begin os i) (extent os i) = items-cut a (begin os i) (extent os i) within ∙ ap (λ xs. sublist xs (begin os i) (extent os i)) f in
    if-valid (valid_at va i) (slots.list (seal (run (slot a) (begin os i) (extent os i))))
    ∙ (ap (λ b. valid_or_null b (slots.list (seal (run (slot a) (begin os i) (extent os i))))) bit
    ∙ (ap (λ ss. valid_or_null (get_or (row_bits rs) i true) (slots.list (seal ss))) items
    ∙ sym (items-place 0 i rs (own_slots c) below))))

-- fixed-size lists
size-place : (s n i : ℕ) (bits : List Bool) (xs : List Slot) → i < length bits
    → get_or (rows_of_size s n bits xs) i slots.null ≡ valid_or_null (get_or bits i true) (slots.list (seal (sublist xs (s + i * n) n)))
size-place s n i [] xs k = absurd (omega (arith, k))
size-place s n zero (b ∷ bs) xs k = let e : s ≡ s + zero * n = omega (arith, zero-mul n) in ap (λ o. valid_or_null b (slots.list (seal (sublist xs o n)))) e
size-place s n (suc i) (b ∷ bs) xs k =
    let e : (s + n) + i * n ≡ s + suc i * n = omega (arith, suc-mul i n) in
    size-place (s + n) n i bs xs (omega (arith, k)) ∙ ap (λ o. valid_or_null (get_or bs i true) (slots.list (seal (sublist xs o n)))) e

pub fixed_size_list-frozen : (t : TypeTree) (bits : List Bool) (c : BuilderTree) (a : Layout) (va : Validity) → 0 < size_of t → IsComplete (fixed_size_list t bits c) → slots_of a ≡ own_slots c → EncodesBits va bits
    → slots_of (layouts.fixed_size_list t a va) ≡ own_slots (fixed_size_list t bits c)
fixed_size_list-frozen t bits c a va z w f v =
    let s = size_of t in
    let own = own-length (fixed_size_list t bits c) in
    let full : len a ≡ length bits * s = frozen_len a c f ∙ w.2 in
    let count : len a / s ≡ length (own_slots (fixed_size_list t bits c)) = ap (λ n. n / s) full ∙ (mul-div_cancel (length bits) z ∙ sym own) in
    frozen-by_place (layouts.fixed_size_list t a va) (own_slots (fixed_size_list t bits c)) count (λ i l.
    let below : i < length bits = omega (arith, l, own) in
    let bit : valid_at va i ≡ get_or bits i true = valid-bits va bits i v below in
    let le : i + 1 ≤ length bits = omega (arith, below) in
    let within : i * s + s ≤ len a = omega (arith, full, mul-le-mul_right s le, add-mul i 1 s) in
    let from : i * s ≡ 0 + i * s = omega arith in
    let items : run (slot a) (i * s) s ≡ sublist (own_slots c) (0 + i * s) s = items-cut a (i * s) s within ∙ (ap (λ xs. sublist xs (i * s) s) f ∙ ap (λ o. sublist (own_slots c) o s) from) in
    if-valid (valid_at va i) (slots.list (seal (run (slot a) (i * s) s)))
    ∙ (ap (λ b. valid_or_null b (slots.list (seal (run (slot a) (i * s) s)))) bit
    ∙ (ap (λ ss. valid_or_null (get_or bits i true) (slots.list (seal ss))) items
    ∙ sym (size-place 0 s i bits (own_slots c) below))))

-- structs
records-place : (j i : ℕ) (bits : List Bool) (xss : List (List Slot)) → i < length bits → get_or (rows_of_records j bits xss) i slots.null ≡ valid_or_null (get_or bits i true) (slots.record_of (record_at (j + i) xss))
records-place j i [] xss k = absurd (omega (arith, k))
records-place j zero (b ∷ bs) xss k = let e : j ≡ j + zero = omega arith in ap (λ o. valid_or_null b (slots.record_of (record_at o xss))) e
records-place j (suc i) (b ∷ bs) xss k =
    let e : suc j + i ≡ j + suc i = omega arith in
    records-place (suc j) i bs xss (omega (arith, k)) ∙ ap (λ o. valid_or_null (get_or bs i true) (slots.record_of (record_at o xss))) e

each-place : (ls : Layouts) (cs : BuilderTrees) (n i : ℕ) → EachFrozen ls cs → AreComplete cs n → i < n → each ls i ≡ record_at i (own_slots_each cs)
each-place no_layouts no_builders n i f w k = refl
each-place no_layouts (more_builders c cs) n i f w k = absurd f
each-place (more_layouts a ls) no_builders n i f w k = absurd f
each-place (more_layouts a ls) (more_builders c cs) n i f w k =
    let here : slot a i ≡ get_or (own_slots c) i slots.null = sym (slot-place a i slots.null (omega (arith, frozen_len a c f.0, w.1, k))) ∙ ap (λ xs. get_or xs i slots.null) f.0 in
    let rest : each ls i ≡ record_at i (own_slots_each cs) = each-place ls cs n i f.1 w.2 k in
    cc

pub struct-frozen : (t : TypeTree) (bits : List Bool) (cs : BuilderTrees) (ls : Layouts) (va : Validity) → first_len ls ≡ length bits → IsComplete (struct t bits cs) → EachFrozen ls cs → EncodesBits va bits
    → slots_of (layouts.struct t ls va) ≡ own_slots (struct t bits cs)
struct-frozen t bits cs ls va n w f v =
    let own = own-length (struct t bits cs) in
    frozen-by_place (layouts.struct t ls va) (own_slots (struct t bits cs)) (n ∙ sym own) (λ i l.
    let below : i < length bits = omega (arith, l, own) in
    let bit : valid_at va i ≡ get_or bits i true = valid-bits va bits i v below in
    let from : i ≡ 0 + i = omega arith in
    let record_there : each ls i ≡ record_at (0 + i) (own_slots_each cs) = each-place ls cs (length bits) i f w.0 below ∙ ap (λ o. record_at o (own_slots_each cs)) from in
    if-valid (valid_at va i) (slots.record_of (each ls i))
    ∙ (ap (λ b. valid_or_null b (slots.record_of (each ls i))) bit
    ∙ (ap (λ ss. valid_or_null (get_or bits i true) (slots.record_of ss)) record_there
    ∙ sym (records-place 0 i bits (own_slots_each cs) below))))

-- dictionaries
keys-place : (keys : List (Option ℕ)) (xs : List Slot) (i : ℕ) → i < length keys → get_or (map (value_at xs) keys) i slots.null ≡ value_at xs (get_or keys i None)
keys-place [] xs i k = absurd (omega (arith, k))
keys-place (o ∷ keys) xs zero k = refl
keys-place (o ∷ keys) xs (suc i) k = keys-place keys xs i (omega (arith, k))

key-slot : (ks a : Layout) (i : ℕ) (o : Option ℕ) (xs : List Slot) → slots_of a ≡ xs → EncodesKey ks i o → ((k : ℕ) → o ≡ Some k → k < len a)
    → (if valid_at (validity_of ks) i then slot a (to_index (key_at ks i)) else slots.null) ≡ value_at xs o
key-slot ks a i None xs f h l = rw h refl
key-slot ks a i (Some k) xs f h l = rw (h.0, h.1) (sym (slot-place a k slots.null (l k refl)) ∙ ap (λ ys. get_or ys k slots.null) f)

pub dictionary-frozen : (i : IntegerType) (t : TypeTree) (keys : List (Option ℕ)) (c : BuilderTree) (a ks : Layout) → IsComplete (dictionary i t keys c) → slots_of a ≡ own_slots c → EncodesKeys ks keys
    → slots_of (layouts.dictionary t ks a) ≡ own_slots (dictionary i t keys c)
dictionary-frozen i t keys c a ks w f h =
    let own = own-length (dictionary i t keys c) in
    frozen-by_place (layouts.dictionary t ks a) (own_slots (dictionary i t keys c)) (h.0 ∙ sym own) (λ j l.
    let below : j < length keys = omega (arith, l, own) in
    key-slot ks a j (get_or keys j None) (own_slots c) f (h.1 j below) (λ k e. omega (arith, values_needed-above keys j k None below e, w.2, frozen_len a c f))
    ∙ sym (keys-place keys (own_slots c) j below))
