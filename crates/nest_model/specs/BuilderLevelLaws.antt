-- The slots of a builder's rows: their number, the first rows, one more row, and over a longer or a shorter child.
use Rattle.std.specs.Prelude.{Option, Some, None}
use Rattle.std.proofs.Common.{◌≡◌, ℕ, zero, suc, ◌+◌, ◌-◌, ◌*◌, ◌≤◌, ◌<◌, Bool, List, [], ◌∷◌, ◌++◌, length, take, drop, map, refl, sym, ap, ◌∙◌, arith, length-append}
use Rattle.std.proofs.Math.Seq.{drop-append_seam}
use Rattle.std.proofs.Math.Nat.{suc-mul, zero-mul, add-zero}
use Rattle.std.proofs.lemmas.List.{take_all, take-append-le, drop-append-le, length-drop, length-take, length-map, get_or-take, get_or_append_left}
use Rattle.nest_memory.specs.Sublist.{sublist}
use Rattle.nest_memory.specs.TypeTree.{size_of}
use Rattle.nest_model.specs.Slot as slots
use Rattle.nest_model.specs.Slot.{Slot, seal}
use Rattle.nest_model.specs.BuilderRow.{Row, end_from, RisesFrom, values_needed}
use Rattle.nest_model.specs.BuilderTree.{BuilderTree, flat, list, fixed_size_list, dictionary, struct, builder_len}
use Rattle.nest_model.specs.BuilderLevels.{valid_or_null, rows_of_items, rows_of_size, value_at, record_at, rows_of_records, own_slots, own_slots_each}
use Rattle.nest_model.specs.BuilderRowLaws.{end_from-le}

-- lists
pub halves : {A : Type 0} (n : ℕ) (xs : List A) → take n xs ++ drop n xs ≡ xs
halves zero [] = refl
halves zero (x ∷ xs) = refl
halves (suc n) [] = refl
halves (suc n) (x ∷ xs) = ap (λ ys. x ∷ ys) (halves n xs)

pub length-front : {A : Type 0} (n : ℕ) (xs : List A) → n ≤ length xs → length (take n xs) ≡ n
length-front n xs h = omega (arith, length-take n xs)

cut-append : (xs ys : List Slot) (o n : ℕ) → o + n ≤ length xs → sublist (xs ++ ys) o n ≡ sublist xs o n
cut-append xs ys o n h = rw (drop-append-le o xs ys (omega arith)) (take-append-le n (drop o xs) ys (omega (arith, length-drop o xs)))

pub cut-rest : (xs ys : List Slot) (n : ℕ) → n ≡ length xs → sublist (xs ++ ys) n (length (xs ++ ys) - n) ≡ ys
cut-rest xs ys n e = rw (e, drop-append_seam xs ys) (take_all _ ys (omega (arith, length-append xs ys)))

pub cut-last : (xs ys : List Slot) (n s : ℕ) → n ≡ length xs → length ys ≡ s → sublist (xs ++ ys) n s ≡ ys
cut-last xs ys n s e f = rw (e, drop-append_seam xs ys) (take_all s ys (omega arith))

pub cut-all_after : (xs : List Slot) (o n : ℕ) → o + n ≡ length xs → sublist xs o n ≡ drop o xs
cut-all_after xs o n e = take_all n (drop o xs) (omega (arith, length-drop o xs))

-- the number of slots
length-items : (s : ℕ) (rows : List Row) (xs : List Slot) → length (rows_of_items s rows xs) ≡ length rows
length-items s [] xs = refl
length-items s (r ∷ rs) xs = ap suc (length-items r.end rs xs)

length-size : (s n : ℕ) (bits : List Bool) (xs : List Slot) → length (rows_of_size s n bits xs) ≡ length bits
length-size s n [] xs = refl
length-size s n (b ∷ bs) xs = ap suc (length-size (s + n) n bs xs)

length-records : (i : ℕ) (bits : List Bool) (xss : List (List Slot)) → length (rows_of_records i bits xss) ≡ length bits
length-records i [] xss = refl
length-records i (b ∷ bs) xss = ap suc (length-records (suc i) bs xss)

-- a builder has as many own slots as rows
pub own-length : (t : BuilderTree) → length (own_slots t) ≡ builder_len t
own-length (flat t xs) = refl
own-length (list large t rows c) = length-items 0 rows (own_slots c)
own-length (fixed_size_list t bits c) = length-size 0 (size_of t) bits (own_slots c)
own-length (dictionary k t keys c) = length-map keys (value_at (own_slots c))
own-length (struct t bits cs) = length-records 0 bits (own_slots_each cs)

-- the length of a builder that gained slots
pub len-grown : (xs : List Slot) (a b : BuilderTree) → own_slots b ≡ own_slots a ++ xs → builder_len b ≡ builder_len a + length xs
len-grown xs a b e = omega (arith, own-length a, own-length b, ap length e, length-append (own_slots a) xs)

-- one more row
pub items-push : (s : ℕ) (rows : List Row) (r : Row) (xs : List Slot) → rows_of_items s (rows ++ r ∷ []) xs ≡ rows_of_items s rows xs ++ valid_or_null r.valid (slots.list (seal (sublist xs (end_from s rows) (r.end - end_from s rows)))) ∷ []
items-push s [] r xs = refl
items-push s (q ∷ rs) r xs = ap (λ ys. valid_or_null q.valid (slots.list (seal (sublist xs s (q.end - s)))) ∷ ys) (items-push q.end rs r xs)

pub items-append : (s : ℕ) (xs ys : List Row) (zs : List Slot) → rows_of_items s (xs ++ ys) zs ≡ rows_of_items s xs zs ++ rows_of_items (end_from s xs) ys zs
items-append s [] ys zs = refl
items-append s (x ∷ xs) ys zs = ap (λ us. valid_or_null x.valid (slots.list (seal (sublist zs s (x.end - s)))) ∷ us) (items-append x.end xs ys zs)

pub size-push : (s n : ℕ) (bits : List Bool) (b : Bool) (xs : List Slot) → rows_of_size s n (bits ++ b ∷ []) xs ≡ rows_of_size s n bits xs ++ valid_or_null b (slots.list (seal (sublist xs (s + length bits * n) n))) ∷ []
size-push s n [] b xs = rw (zero-mul n, add-zero s) refl
size-push s n (q ∷ bs) b xs =
    let e : (s + n) + length bs * n ≡ s + suc (length bs) * n = omega (arith, suc-mul (length bs) n) in
    ap (λ ys. valid_or_null q (slots.list (seal (sublist xs s n))) ∷ ys) (rw (size-push (s + n) n bs b xs, e) refl)

pub records-push : (i : ℕ) (bits : List Bool) (b : Bool) (xss : List (List Slot)) → rows_of_records i (bits ++ b ∷ []) xss ≡ rows_of_records i bits xss ++ valid_or_null b (slots.record_of (record_at (i + length bits) xss)) ∷ []
records-push i [] b xss = let e : i + 0 ≡ i = omega arith in rw e refl
records-push i (q ∷ bs) b xss =
    let e : suc i + length bs ≡ i + suc (length bs) = omega arith in
    ap (λ ys. valid_or_null q (slots.record_of (record_at i xss)) ∷ ys) (rw (records-push (suc i) bs b xss, e) refl)

-- over a longer list
pub items-longer : (s : ℕ) (rows : List Row) (xs ys : List Slot) → RisesFrom s rows → end_from s rows ≤ length xs → rows_of_items s rows (xs ++ ys) ≡ rows_of_items s rows xs
items-longer s [] xs ys h e = refl
items-longer s (r ∷ rs) xs ys h e =
    let le : r.end ≤ length xs = omega (arith, end_from-le r.end rs h.1, e) in
    rw (cut-append xs ys s (r.end - s) (omega (arith, h.0)), items-longer r.end rs xs ys h.1 e) refl

pub size-longer : (s n : ℕ) (bits : List Bool) (xs ys : List Slot) → s + length bits * n ≤ length xs → rows_of_size s n bits (xs ++ ys) ≡ rows_of_size s n bits xs
size-longer s n [] xs ys e = refl
size-longer s n (b ∷ bs) xs ys e =
    let le : (s + n) + length bs * n ≤ length xs = omega (arith, suc-mul (length bs) n) in
    rw (cut-append xs ys s n (omega arith), size-longer (s + n) n bs xs ys le) refl

pub values-longer : (keys : List (Option ℕ)) (xs ys : List Slot) → values_needed keys ≤ length xs → map (value_at (xs ++ ys)) keys ≡ map (value_at xs) keys
values-longer [] xs ys e = refl
values-longer (None ∷ ks) xs ys e = rw (values-longer ks xs ys e) refl
values-longer (Some k ∷ ks) xs ys e = rw (get_or_append_left xs ys slots.null k (omega arith), values-longer ks xs ys (omega arith)) refl

-- over a shorter list
items-shorter : (e s : ℕ) (rows : List Row) (xs : List Slot) → RisesFrom s rows → end_from s rows ≤ e → e ≤ length xs → rows_of_items s rows (take e xs) ≡ rows_of_items s rows xs
items-shorter e s rows xs r h l = sym (items-longer s rows (take e xs) (drop e xs) r (omega (arith, length-take e xs))) ∙ ap (rows_of_items s rows) (halves e xs)

size-shorter : (e n : ℕ) (bits : List Bool) (xs : List Slot) → length bits * n ≤ e → e ≤ length xs → rows_of_size 0 n bits (take e xs) ≡ rows_of_size 0 n bits xs
size-shorter e n bits xs h l = sym (size-longer 0 n bits (take e xs) (drop e xs) (omega (arith, length-take e xs))) ∙ ap (rows_of_size 0 n bits) (halves e xs)

values-shorter : (e : ℕ) (keys : List (Option ℕ)) (xs : List Slot) → values_needed keys ≤ e → e ≤ length xs → map (value_at (take e xs)) keys ≡ map (value_at xs) keys
values-shorter e keys xs h l = sym (values-longer keys (take e xs) (drop e xs) (omega (arith, length-take e xs))) ∙ ap (λ ys. map (value_at ys) keys) (halves e xs)

record-shorter : (i n : ℕ) (xss : List (List Slot)) → i < n → record_at i (map (take n) xss) ≡ record_at i xss
record-shorter i n [] h = refl
record-shorter i n (xs ∷ xss) h = rw (get_or-take n xs i slots.null h, record-shorter i n xss h) refl

-- the first rows, over the items that they need
take-items : (n s : ℕ) (rows : List Row) (xs : List Slot) → rows_of_items s (take n rows) xs ≡ take n (rows_of_items s rows xs)
take-items zero s [] xs = refl
take-items (suc n) s [] xs = refl
take-items zero s (r ∷ rs) xs = refl
take-items (suc n) s (r ∷ rs) xs = rw (take-items n r.end rs xs) refl

take-size : (m s n : ℕ) (bits : List Bool) (xs : List Slot) → rows_of_size s n (take m bits) xs ≡ take m (rows_of_size s n bits xs)
take-size zero s n [] xs = refl
take-size (suc m) s n [] xs = refl
take-size zero s n (b ∷ bs) xs = refl
take-size (suc m) s n (b ∷ bs) xs = rw (take-size m (s + n) n bs xs) refl

pub items-front : (n e : ℕ) (rows : List Row) (xs : List Slot) → RisesFrom 0 (take n rows) → e ≡ end_from 0 (take n rows) → e ≤ length xs → rows_of_items 0 (take n rows) (take e xs) ≡ take n (rows_of_items 0 rows xs)
items-front n e rows xs r q l = items-shorter e 0 (take n rows) xs r (omega arith) l ∙ take-items n 0 rows xs

pub size-front : (m n e : ℕ) (bits : List Bool) (xs : List Slot) → length (take m bits) * n ≤ e → e ≤ length xs → rows_of_size 0 n (take m bits) (take e xs) ≡ take m (rows_of_size 0 n bits xs)
size-front m n e bits xs h l = size-shorter e n (take m bits) xs h l ∙ take-size m 0 n bits xs

pub values-front : (e : ℕ) (keys : List (Option ℕ)) (xs : List Slot) → values_needed keys ≤ e → e ≤ length xs → map (value_at (take e xs)) keys ≡ map (value_at xs) keys
values-front = values-shorter

pub records-front : (i m n : ℕ) (bits : List Bool) (xss : List (List Slot)) → i + m ≤ n → rows_of_records i (take m bits) (map (take n) xss) ≡ take m (rows_of_records i bits xss)
records-front i zero n [] xss h = refl
records-front i (suc m) n [] xss h = refl
records-front i zero n (b ∷ bs) xss h = refl
records-front i (suc m) n (b ∷ bs) xss h = rw (record-shorter i n xss (omega arith), records-front (suc i) m n bs xss (omega arith)) refl
