-- The result of a join at each level.
use Rattle.std.proofs.Common.{◌≡◌, ℕ, zero, suc, ◌+◌, ◌-◌, ◌*◌, Bool, List, [], ◌∷◌, ◌++◌, length, drop, refl, sym, ap, subst, ◌∙◌, arith, length-append}
use Rattle.std.specs.Prelude.{Some}
use Rattle.std.proofs.Math.Seq.{take-append_seam}
use Rattle.std.proofs.Math.Nat.{add-mul}
use Rattle.nest_memory.specs.TypeTree.{TypeTree, size_of}
use Rattle.nest_memory.specs.Sublist.{sublist}
use Rattle.nest_model.specs.Slot as slots
use Rattle.nest_model.specs.Slot.{Slot, seal}
use Rattle.nest_model.specs.BuilderRow.{Row, end_from, RisesFrom}
use Rattle.nest_model.specs.BuilderTree.{BuilderTree, flat, list, fixed_size_list, dictionary, struct, builder_type, builder_len}
use Rattle.nest_model.specs.BuilderLevels.{valid_or_null, rows_of_items, rows_of_size, own_slots, levels}
use Rattle.nest_model.specs.BuilderComplete.{IsComplete}
use Rattle.nest_model.specs.BuilderJoin.{moved, CanJoin, joined_builder, Joined}
use Rattle.nest_model.specs.BuilderRowLaws.{end_from-append, RisesFrom-append}
use Rattle.nest_model.specs.BuilderLevelLaws.{own-length, items-append, items-longer, size-longer}

-- rows with moved offsets
pub end_from-moved : (e s : ℕ) (rs : List Row) → end_from (e + s) (moved e rs) ≡ e + end_from s rs
end_from-moved e s [] = refl
end_from-moved e s (r ∷ rs) = end_from-moved e r.end rs

RisesFrom-moved : (e s : ℕ) (rs : List Row) → RisesFrom s rs → RisesFrom (e + s) (moved e rs)
RisesFrom-moved e s [] h = tt
RisesFrom-moved e s (r ∷ rs) h = (omega (arith, h.0), RisesFrom-moved e r.end rs h.1)

drop-front : (xs ys : List Slot) (e s : ℕ) → length xs ≡ e → drop (e + s) (xs ++ ys) ≡ drop s ys
drop-front [] ys e s h = let q : e + s ≡ s = omega (arith, h) in ap (λ n. drop n ys) q
drop-front (x ∷ xs) ys zero s h = absurd (omega (arith, h))
drop-front (x ∷ xs) ys (suc e) s h = let q : suc e + s ≡ suc (e + s) = omega arith in rw q (drop-front xs ys e s (omega (arith, h)))

items-moved : (e s : ℕ) (rs : List Row) (xs ys : List Slot) → length xs ≡ e → rows_of_items (e + s) (moved e rs) (xs ++ ys) ≡ rows_of_items s rs ys
items-moved e s [] xs ys h = refl
items-moved e s (r ∷ rs) xs ys h =
    let n : e + r.end - (e + s) ≡ r.end - s = omega arith in
    rw (n, drop-front xs ys e s h, items-moved e r.end rs xs ys h) refl

size-moved : (e s n : ℕ) (bits : List Bool) (xs ys : List Slot) → length xs ≡ e → rows_of_size (e + s) n bits (xs ++ ys) ≡ rows_of_size s n bits ys
size-moved e s n [] xs ys h = refl
size-moved e s n (b ∷ bs) xs ys h =
    let q : e + s + n ≡ e + (s + n) = omega arith in
    rw (drop-front xs ys e s h, q, size-moved e (s + n) n bs xs ys h) refl

size-append : (s n : ℕ) (bits more : List Bool) (xs : List Slot) → rows_of_size s n (bits ++ more) xs ≡ rows_of_size s n bits xs ++ rows_of_size (length bits * n + s) n more xs
size-append s n [] more xs = let q : s ≡ 0 * n + s = omega arith in ap (λ o. rows_of_size o n more xs) q
size-append s n (b ∷ bs) more xs =
    let q : length bs * n + (s + n) ≡ suc (length bs) * n + s = omega (arith, add-mul (length bs) 1 n) in
    ap (λ ys. valid_or_null b (slots.list (seal (sublist xs s n))) ∷ ys) (size-append (s + n) n bs more xs ∙ ap (λ o. rows_of_size (s + n) n bs xs ++ rows_of_size o n more xs) q)

pub type-joined : (t u : BuilderTree) → CanJoin t u → builder_type (joined_builder t u) ≡ builder_type t
type-joined (flat k xs) (flat m ys) h = refl
type-joined (list large k rows c) (list wide m more d) h = refl
type-joined (fixed_size_list k bits c) (fixed_size_list m more d) h = refl
type-joined (flat k xs) (list wide m more d) h = absurd h
type-joined (flat k xs) (fixed_size_list m more d) h = absurd h
type-joined (flat k xs) (dictionary i m more d) h = absurd h
type-joined (flat k xs) (struct m more ds) h = absurd h
type-joined (list large k rows c) (flat m ys) h = absurd h
type-joined (list large k rows c) (fixed_size_list m more d) h = absurd h
type-joined (list large k rows c) (dictionary i m more d) h = absurd h
type-joined (list large k rows c) (struct m more ds) h = absurd h
type-joined (fixed_size_list k bits c) (flat m ys) h = absurd h
type-joined (fixed_size_list k bits c) (list wide m more d) h = absurd h
type-joined (fixed_size_list k bits c) (dictionary i m more d) h = absurd h
type-joined (fixed_size_list k bits c) (struct m more ds) h = absurd h
type-joined (dictionary i k keys c) u h = absurd h
type-joined (struct k bits cs) u h = absurd h

levels-first : (t : BuilderTree) → (xss : List (List Slot)) × (levels t ≡ own_slots t ∷ xss)
levels-first (flat k xs) = ([], refl)
levels-first (list large k rows c) = (levels c, refl)
levels-first (fixed_size_list k bits c) = (levels c, refl)
levels-first (dictionary i k keys c) = (levels c, refl)
levels-first (struct k bits cs) = (_, refl)

both : (xs ys : List Slot) (xss yss : List (List Slot)) → xs ≡ ys → xss ≡ yss → xs ∷ xss ≡ ys ∷ yss
both xs ys xss yss e f = cc

-- lists over joined children
pub list_joined : (large : Bool) (k : TypeTree) (rows more new : List Row) (c d e : BuilderTree) → new ≡ rows ++ moved (end_from 0 rows) more → IsComplete (list large k rows c) → IsComplete (list large k more d) → builder_type e ≡ builder_type c
    → Joined d c e → Joined (list large k more d) (list large k rows c) (list large k new e)
list_joined large k rows more new c d e f w v t h =
    let n = end_from 0 rows in
    let at_end : length (own_slots c) ≡ n = own-length c ∙ w.2 in
    let zero_more : n + 0 ≡ n = omega arith in
    let grown : builder_len e ≡ builder_len c + builder_len d = omega (arith, own-length c, own-length d, own-length e, ap length h.last, length-append (own_slots c) (own_slots d)) in
    let ends : end_from n (moved n more) ≡ n + end_from 0 more = ap (λ o. end_from o (moved n more)) (sym zero_more) ∙ end_from-moved n 0 more in
    let behind : rows_of_items n (moved n more) (own_slots c ++ own_slots d) ≡ rows_of_items 0 more (own_slots d)
    = ap (λ o. rows_of_items o (moved n more) (own_slots c ++ own_slots d)) (sym zero_more) ∙ items-moved n 0 more (own_slots c) (own_slots d) at_end in
    let own : rows_of_items 0 (rows ++ moved n more) (own_slots e) ≡ rows_of_items 0 rows (own_slots c) ++ rows_of_items 0 more (own_slots d)
    = rw (h.last, items-append 0 rows (moved n more) (own_slots c ++ own_slots d), items-longer 0 rows (own_slots c) (own_slots d) w.3 (omega (arith, at_end)), behind) refl in
    let rises : RisesFrom n (moved n more) = subst (λ o. RisesFrom o (moved n more)) zero_more (RisesFrom-moved n 0 more v.3) in
    rw f (record {
      exact = rw h.exact refl;
      every = both _ _ _ _ own h.every;
      last = own;
      complete = (h.complete, w.1 ∙ ap Some (sym t), omega (arith, grown, w.2, v.2, end_from-append 0 rows (moved n more), ends), RisesFrom-append 0 rows (moved n more) w.3 rises);
      undo = rw (take-append_seam rows (moved n more), ← w.2, h.undo) refl;
      differ = h.differ;
    })

pub fixed_size_list_joined : (k : TypeTree) (bits more new : List Bool) (c d e : BuilderTree) → new ≡ bits ++ more → IsComplete (fixed_size_list k bits c) → IsComplete (fixed_size_list k more d) → builder_type e ≡ builder_type c
    → Joined d c e → Joined (fixed_size_list k more d) (fixed_size_list k bits c) (fixed_size_list k new e)
fixed_size_list_joined k bits more new c d e f w v t h =
    let s = size_of k in
    let at_end : length (own_slots c) ≡ length bits * s = own-length c ∙ w.2 in
    let grown : builder_len e ≡ builder_len c + builder_len d = omega (arith, own-length c, own-length d, own-length e, ap length h.last, length-append (own_slots c) (own_slots d)) in
    let own : rows_of_size 0 s (bits ++ more) (own_slots e) ≡ rows_of_size 0 s bits (own_slots c) ++ rows_of_size 0 s more (own_slots d)
    = rw (h.last, size-append 0 s bits more (own_slots c ++ own_slots d), size-longer 0 s bits (own_slots c) (own_slots d) (omega (arith, at_end)), size-moved (length bits * s) 0 s more (own_slots c) (own_slots d) at_end) refl in
    rw f (record {
      exact = rw h.exact refl;
      every = both _ _ _ _ own h.every;
      last = own;
      complete = (h.complete, w.1 ∙ ap Some (sym t), rw (length-append bits more) (omega (arith, grown, w.2, v.2, add-mul (length bits) (length more) s)));
      undo = rw (take-append_seam bits more, ← w.2, h.undo) refl;
      differ = h.differ;
    })

pub flat_joined : (k : TypeTree) (xs ys new : List Slot) → new ≡ xs ++ ys → Joined (flat k ys) (flat k xs) (flat k new)
flat_joined k xs ys new e = rw e (record { exact = refl; every = refl; last = refl; complete = tt; undo = ap (flat k) (take-append_seam xs ys); differ = λ d. tt })

-- complete builders of the same kinds can be joined
pub joined-alike : (t u : BuilderTree) → CanJoin t u → IsComplete t → IsComplete u → Joined u t (joined_builder t u)
joined-alike (flat k xs) (flat m ys) h w v = rw (sym h) (flat_joined k xs ys (xs ++ ys) refl)
joined-alike (list large k rows c) (list wide m more d) h w v =
    let v' : IsComplete (list large k more d) = rw h.1 v in
    rw (sym h.0, sym h.1) (list_joined large k rows more (rows ++ moved (end_from 0 rows) more) c d (joined_builder c d) refl w v' (type-joined c d h.2) (joined-alike c d h.2 w.0 v.0))
joined-alike (fixed_size_list k bits c) (fixed_size_list m more d) h w v =
    let v' : IsComplete (fixed_size_list k more d) = rw h.0 v in
    rw (sym h.0) (fixed_size_list_joined k bits more (bits ++ more) c d (joined_builder c d) refl w v' (type-joined c d h.1) (joined-alike c d h.1 w.0 v.0))
joined-alike (flat k xs) (list wide m more d) h w v = absurd h
joined-alike (flat k xs) (fixed_size_list m more d) h w v = absurd h
joined-alike (flat k xs) (dictionary i m more d) h w v = absurd h
joined-alike (flat k xs) (struct m more ds) h w v = absurd h
joined-alike (list large k rows c) (flat m ys) h w v = absurd h
joined-alike (list large k rows c) (fixed_size_list m more d) h w v = absurd h
joined-alike (list large k rows c) (dictionary i m more d) h w v = absurd h
joined-alike (list large k rows c) (struct m more ds) h w v = absurd h
joined-alike (fixed_size_list k bits c) (flat m ys) h w v = absurd h
joined-alike (fixed_size_list k bits c) (list wide m more d) h w v = absurd h
joined-alike (fixed_size_list k bits c) (dictionary i m more d) h w v = absurd h
joined-alike (fixed_size_list k bits c) (struct m more ds) h w v = absurd h
joined-alike (dictionary i k keys c) u h w v = absurd h
joined-alike (struct k bits cs) u h w v = absurd h
