-- The hash table of dictionary values: entries of indices.
use Rattle.std.proofs.Common.{◌≡◌, ◌≢◌, ℕ, zero, suc, ◌+◌, ◌-◌, ◌*◌, ◌<◌, ◌≤◌, ◌⊎◌, inl, inr, Bool, true, false, cond, ltb, List, [], ◌∷◌, ◌++◌, length, get_or, set, take, replicate, refl, sym, ap, ◌∙◌, arith, rules, Some, slice_get}
use Rattle.std.specs.Int.Bits.{bit_and}
use Rattle.std.proofs.lemmas.Bool.Decides.{nat_tests}
use Rattle.std.proofs.lemmas.Bool.{cases_eq, cases_lt}
use Rattle.std.proofs.lemmas.Nat.{and_le_r}
use Rattle.std.proofs.lemmas.Option.{slice_get_within, get_or_from_slice_get}
use Rattle.std.proofs.lemmas.List.{length-set, length-replicate, get_or-replicate, get_or-set_same, get_or-set_other, get_or_append_left, get_or_push, length_push, length-take-le, take_more, take_all}
use borrow.Author.Count.{below_more}
use Rattle.nest_build.specs.Seats.{around, place_on, seat_at, free_places, IsFree, IsSeated, AreSeats}

pub home_below : (hash n : ℕ) → 0 < n → bit_and hash (n - 1) < n
home_below hash n h = omega (arith, and_le_r hash (n - 1))

-- each position is on the probe sequence
pub record Reach (hash p n : ℕ) : Type 0 where
  pub step : ℕ
  pub within : step < n
  pub there : place_on hash step n ≡ p

around_on : (home p n : ℕ) → p < n → home ≤ p → around home (p - home) n ≡ p
unfolding around
around_on home p n s l = grind (arith, nat_tests)

around_end : (home p n : ℕ) → home < n → p < home → around home (p + n - home) n ≡ p
unfolding around
around_end home p n h l = grind (arith, nat_tests)

reach_from : (hash p n : ℕ) → p < n → (bit_and hash (n - 1) < n) → (p < bit_and hash (n - 1)) ⊎ (bit_and hash (n - 1) ≤ p) → Reach hash p n
unfolding place_on
reach_from hash p n s h (inl l) = record { step = p + n - bit_and hash (n - 1); within = omega arith; there = around_end (bit_and hash (n - 1)) p n h l }
reach_from hash p n s h (inr l) = record { step = p - bit_and hash (n - 1); within = omega arith; there = around_on (bit_and hash (n - 1)) p n s l }

pub reached : (hash p n : ℕ) → p < n → Reach hash p n
reached hash p n s = reach_from hash p n s (home_below hash n (omega arith)) (cases_lt p (bit_and hash (n - 1)))

pub place_below : (hash step n : ℕ) → step < n → place_on hash step n < n
unfolding place_on around
place_below hash step n s = let h = home_below hash n (omega arith) in grind (arith, nat_tests)

near : (home step n : ℕ) → home + step < n → home + step ≡ around home step n
unfolding around
near home step n l = grind (arith, nat_tests)

far : (home step n : ℕ) → home < n → n - home ≤ step → step - (n - home) ≡ around home step n
unfolding around
far home step n h l = grind (arith, nat_tests)

pub place_near : (hash step n : ℕ) → bit_and hash (n - 1) + step < n → bit_and hash (n - 1) + step ≡ place_on hash step n
unfolding place_on
place_near hash step n l = near (bit_and hash (n - 1)) step n l

pub place_far : (hash step n : ℕ) → step < n → n - bit_and hash (n - 1) ≤ step → step - (n - bit_and hash (n - 1)) ≡ place_on hash step n
unfolding place_on
place_far hash step n s l = far (bit_and hash (n - 1)) step n (home_below hash n (omega arith)) l

-- the number of free entries
pub free_taken : (xs : List ℕ) (p v : ℕ) → p < length xs → get_or xs p 0 ≡ 0 → free_places (set xs p (suc v)) + 1 ≡ free_places xs
free_taken [] p v l e = absurd (omega arith)
free_taken (zero ∷ xs) zero v l e = omega arith
free_taken (suc k ∷ xs) zero v l e = absurd cc
free_taken (zero ∷ xs) (suc p) v l e = omega (arith, free_taken xs p v (omega arith) e)
free_taken (suc k ∷ xs) (suc p) v l e = free_taken xs p v (omega arith) e

pub free_freed : (xs : List ℕ) (p v : ℕ) → p < length xs → get_or xs p 0 ≡ suc v → free_places (set xs p 0) ≡ free_places xs + 1
free_freed [] p v l e = absurd (omega arith)
free_freed (zero ∷ xs) zero v l e = absurd cc
free_freed (suc k ∷ xs) zero v l e = omega arith
free_freed (zero ∷ xs) (suc p) v l e = omega (arith, free_freed xs p v (omega arith) e)
free_freed (suc k ∷ xs) (suc p) v l e = free_freed xs p v (omega arith) e

pub free_none : (xs : List ℕ) → ((p : ℕ) → p < length xs → 0 < get_or xs p 0) → free_places xs ≡ 0
free_none [] h = refl
free_none (zero ∷ xs) h = absurd (omega (arith, h 0 (omega arith)))
free_none (suc k ∷ xs) h = free_none xs (λ p l. h (suc p) (omega arith))

pub free_all : (n : ℕ) → free_places (replicate n 0) ≡ n
free_all zero = refl
free_all (suc n) = omega (arith, free_all n)

pub free_within : (xs : List ℕ) → free_places xs ≤ length xs
free_within [] = omega arith
free_within (zero ∷ xs) = omega (arith, free_within xs)
free_within (suc k ∷ xs) = omega (arith, free_within xs)

-- A probe that met no free entry continues inside the table.
all_taken : (places : List ℕ) (hash : ℕ) → ((d : ℕ) → d < length places → 0 < seat_at places hash d) → free_places places ≡ 0
all_taken places hash h = free_none places (λ p l. taken_at p (reached hash p (length places) l))
  where
    taken_at : (p : ℕ) → Reach hash p (length places) → 0 < get_or places p 0
    taken_at p r = rw r.there at (h r.step r.within)

pub step_within : (places : List ℕ) (hash step : ℕ) → 0 < free_places places → step < length places → ((d : ℕ) → d < step + 1 → 0 < seat_at places hash d) → step + 1 < length places
step_within places hash step f l h = by_end (cases_lt (step + 1) (length places))
  where
    by_end : (step + 1 < length places) ⊎ (length places ≤ step + 1) → step + 1 < length places
    by_end (inl a) = a
    by_end (inr b) = absurd (omega (arith, f, all_taken places hash (λ d m. h d (omega arith))))

-- the invariant of a search for a free entry
pub record Probing (places : List ℕ) (hash step : ℕ) : Type 0 where
  pub within : step < length places
  pub free : 0 < free_places places
  pub taken : (d : ℕ) → d < step → 0 < seat_at places hash d

pub probing_first : (places : List ℕ) (hash : ℕ) → 0 < free_places places → Probing places hash 0
probing_first places hash f = record { within = omega (arith, f, free_within places); free = f; taken = λ d l. absurd (omega arith) }

pub probing_next : (places : List ℕ) (hash step : ℕ) → Probing places hash step → seat_at places hash step ≢ 0 → Probing places hash (step + 1)
probing_next places hash step p n =
    let here : 0 < seat_at places hash step = omega (arith, n) in
    let taken : (d : ℕ) → d < step + 1 → 0 < seat_at places hash d = below_more (λ d. 0 < seat_at places hash d) step p.taken here in
    record { within = step_within places hash step p.free p.within taken; free = p.free; taken = taken }

pub probing_last : (places : List ℕ) (hash step p : ℕ) → Probing places hash step → p ≡ place_on hash step (length places) → p < length places → seat_at places hash step ≡ 0 → IsFree places hash p
probing_last places hash step p h e l z = record { inside = l; free = rw (e, z) refl; step = step; within = h.within; there = sym e; taken = h.taken }

-- Writing one entry.
seat_other : (places : List ℕ) (p v hash d : ℕ) → seat_at places hash d ≢ get_or places p 0 → seat_at (set places p v) hash d ≡ seat_at places hash d
seat_other places p v hash d h =
    rw (length-set places p v) (get_or-set_other places p (place_on hash d (length places)) v 0 (λ e. h (ap (λ q. get_or places q 0) e)))

seat_same : (places : List ℕ) (p v hash d : ℕ) → p < length places → place_on hash d (length places) ≡ p → seat_at (set places p v) hash d ≡ v
seat_same places p v hash d l e = rw (length-set places p v, e) (get_or-set_same places p v 0 l)

-- an index stays on its probe sequence if another entry is written
seat_kept : (places : List ℕ) (p v hash k : ℕ) → ((x : ℕ) → 0 < x → x ≤ suc k → x ≢ get_or places p 0) → IsSeated places hash k → IsSeated (set places p v) hash k
seat_kept places p v hash k apart s =
    let same : (d : ℕ) → d < s.step → seat_at (set places p v) hash d ≡ seat_at places hash d = λ d l. seat_other places p v hash d (apart (seat_at places hash d) (s.taken d l) (omega (arith, s.older d l))) in
    record {
      step = s.step;
      within = rw (length-set places p v) s.within;
      there = seat_other places p v hash s.step (apart (seat_at places hash s.step) (omega (arith, s.there)) (omega (arith, s.there))) ∙ s.there;
      taken = λ d l. rw (same d l) (s.taken d l);
      older = λ d l. rw (same d l) (s.older d l);
    }

at_written : (places : List ℕ) (p q v : ℕ) (P : ℕ → Type 0) → p < length places → (q ≡ p → P v) → (q ≢ p → P (get_or places q 0)) → P (get_or (set places p v) q 0)
at_written places p q v P l a b = by_place (cases_eq q p)
  where
    by_place : (q ≡ p) ⊎ (q ≡ p → ⊥) → P (get_or (set places p v) q 0)
    by_place (inl e) = rw (e, get_or-set_same places p v 0 l) (a e)
    by_place (inr n) = rw (get_or-set_other places p q v 0 n) (b n)

-- one more index
pub seats_more : (hashes places : List ℕ) (hash p v : ℕ) → AreSeats hashes places → IsFree places hash p → v ≡ length hashes + 1 → AreSeats (hashes ++ hash ∷ []) (set places p v)
seats_more hashes places hash p v s f e =
    let len : length (hashes ++ hash ∷ []) ≡ length hashes + 1 = length_push hashes hash in
    let wide : length (set places p v) ≡ length places = length-set places p v in
    let successor : v ≡ suc (length hashes) = omega arith in
    let free : free_places (set places p v) + 1 ≡ free_places places = rw successor (free_taken places p (length hashes) f.inside f.free) in
    record {
      room = omega (arith, s.room, free, len, wide);
      below = λ q l. at_written places p q v (λ x. x ≤ length (hashes ++ hash ∷ [])) f.inside (λ _. omega (arith, len, e)) (λ _. omega (arith, len, s.below q (omega (arith, wide, l))));
      single = one_place wide;
      seated = λ k l. seated_at k (cases_lt k (length hashes)) (omega (arith, len, l)) successor;
    }
  where
    new_seat : v ≡ suc (length hashes) → IsSeated (set places p v) hash (length hashes)
    new_seat successor =
        let same : (d : ℕ) → d < f.step → seat_at (set places p v) hash d ≡ seat_at places hash d = λ d l. seat_other places p v hash d (λ q. absurd (omega (arith, q, f.taken d l, f.free))) in
        record {
          step = f.step;
          within = rw (length-set places p v) f.within;
          there = seat_same places p v hash f.step f.inside f.there ∙ successor;
          taken = λ d l. rw (same d l) (f.taken d l);
          older = λ d l. rw (same d l) (at_most d (place_inside d (omega (arith, l, f.within))));
        }
      where
        at_most : (d : ℕ) → place_on hash d (length places) < length places → seat_at places hash d ≤ length hashes
        at_most d l = s.below (place_on hash d (length places)) l

        place_inside : (d : ℕ) → d < length places → place_on hash d (length places) < length places
        place_inside d l = place_below hash d (length places) l

    seated_at : (k : ℕ) → (k < length hashes) ⊎ (length hashes ≤ k) → k < length hashes + 1 → v ≡ suc (length hashes) → IsSeated (set places p v) (get_or (hashes ++ hash ∷ []) k 0) k
    seated_at k (inl l) m successor = rw (get_or_append_left hashes (hash ∷ []) 0 k l) (seat_kept places p v (get_or hashes k 0) k (λ x a b c. absurd (omega (arith, a, c, f.free))) (s.seated k l))
    seated_at k (inr l) m successor =
        let last : k ≡ length hashes = omega arith in
        rw (last, get_or_push hashes hash 0 (length hashes) refl) (new_seat successor)

    one_place : length (set places p v) ≡ length places → (a b : ℕ) → a < length (set places p v) → b < length (set places p v) → 0 < get_or (set places p v) a 0 → get_or (set places p v) a 0 ≡ get_or (set places p v) b 0 → a ≡ b
    one_place wide a b la lb =
        at_written places p a v (λ x. 0 < x → x ≡ get_or (set places p v) b 0 → a ≡ b) f.inside
        (λ ea. at_written places p b v (λ y. 0 < v → v ≡ y → a ≡ b) f.inside (λ eb _ _. ea ∙ sym eb) (λ nb _ q. absurd (omega (arith, q, e, s.below b (omega (arith, wide, lb))))))
        (λ na. at_written places p b v (λ y. 0 < get_or places a 0 → get_or places a 0 ≡ y → a ≡ b) f.inside (λ eb _ q. absurd (omega (arith, q, e, s.below a (omega (arith, wide, la))))) (λ nb z q. s.single a b (omega (arith, wide, la)) (omega (arith, wide, lb)) z q))

-- the last index removed
pub seats_less : (hashes places : List ℕ) (hash p : ℕ) → AreSeats (hashes ++ hash ∷ []) places → p < length places → get_or places p 0 ≡ length hashes + 1 → AreSeats hashes (set places p 0)
seats_less hashes places hash p s l e =
    let len : length (hashes ++ hash ∷ []) ≡ length hashes + 1 = length_push hashes hash in
    let wide : length (set places p 0) ≡ length places = length-set places p 0 in
    let successor : get_or places p 0 ≡ suc (length hashes) = omega arith in
    let free : free_places (set places p 0) ≡ free_places places + 1 = free_freed places p (length hashes) l successor in
    record {
      room = omega (arith, s.room, free, len, wide);
      below = λ q m. at_written places p q 0 (λ x. x ≤ length hashes) l (λ _. omega arith) (λ n. rest q (omega (arith, wide, m)) n len);
      single = one_place wide;
      seated = λ k m. let old : IsSeated places (get_or hashes k 0) k = rw (get_or_append_left hashes (hash ∷ []) 0 k m) at (s.seated k (omega (arith, len, m))) in
          seat_kept places p 0 (get_or hashes k 0) k (λ x a b c. absurd (omega (arith, a, b, c, e, m))) old;
    }
  where
    rest : (q : ℕ) → q < length places → q ≢ p → length (hashes ++ hash ∷ []) ≡ length hashes + 1 → get_or places q 0 ≤ length hashes
    rest q m n len = by_last (cases_lt (length hashes) (get_or places q 0))
      where
        by_last : (length hashes < get_or places q 0) ⊎ (get_or places q 0 ≤ length hashes) → get_or places q 0 ≤ length hashes
        by_last (inr b) = b
        by_last (inl a) = absurd (n (s.single q p m l (omega (arith, a)) (omega (arith, a, e, len, s.below q m))))

    one_place : length (set places p 0) ≡ length places → (a b : ℕ) → a < length (set places p 0) → b < length (set places p 0) → 0 < get_or (set places p 0) a 0 → get_or (set places p 0) a 0 ≡ get_or (set places p 0) b 0 → a ≡ b
    one_place wide a b la lb =
        at_written places p a 0 (λ x. 0 < x → x ≡ get_or (set places p 0) b 0 → a ≡ b) l
        (λ ea z _. absurd (omega (arith, z)))
        (λ na. at_written places p b 0 (λ y. 0 < get_or places a 0 → get_or places a 0 ≡ y → a ≡ b) l (λ eb z q. absurd (omega (arith, z, q))) (λ nb z q. s.single a b (omega (arith, wide, la)) (omega (arith, wide, lb)) z q))

-- no indices, in a table of zeros
pub seats_none : (n : ℕ) → AreSeats [] (replicate n 0)
seats_none n =
    let wide : length (replicate n (zero)) ≡ n = length-replicate {A = ℕ} n 0 in
    record {
      room = omega (arith, free_all n, wide);
      below = λ p l. rw (get_or-replicate {A = ℕ} n p 0 0 (omega (arith, l, wide))) (omega arith);
      single = λ p q lp lq z e. absurd (omega (arith, z, get_or-replicate {A = ℕ} n p 0 0 (omega (arith, lp, wide))));
      seated = λ k l. absurd (omega arith);
    }

pub table_new : (old new : List ℕ) (n m : ℕ) → old ≡ [] → m ≡ 0 → new ≡ take n old ++ replicate (n - m) 0 → AreSeats [] new × (length new ≡ n)
table_new old new n m e z h =
    let a : take n old ≡ [] = rw e (take_all {A = ℕ} n [] (omega arith)) in
    let b : n - m ≡ n = omega arith in
    let c : new ≡ replicate n 0 = h ∙ rw (a, b) refl in
    rw c (seats_none n, length-replicate {A = ℕ} n 0)

-- A probe up to a free entry or to the end that met no index that passes: there is none.
pub none_found : (hashes places : List ℕ) (hash n : ℕ) (No : ℕ → Type 0) → AreSeats hashes places → ((d j : ℕ) → d < n → seat_at places hash d ≡ suc j → slice_get hashes j ≡ Some hash → No j) → (length places ≤ n) ⊎ (seat_at places hash n ≡ 0)
    → (k : ℕ) → slice_get hashes k ≡ Some hash → No k
none_found hashes places hash n No s f stop k h = at_seat (rw (get_or_from_slice_get hashes k hash 0 h) at (s.seated k (slice_get_within hashes k hash h)))
  where
    behind : (t : IsSeated places hash k) → n ≤ t.step → (length places ≤ n) ⊎ (seat_at places hash n ≡ 0) → ⊥
    behind t l (inl a) = omega (arith, a, l, t.within)
    behind t l (inr z) = by_step (cases_eq n t.step)
      where
        by_step : (n ≡ t.step) ⊎ (n ≡ t.step → ⊥) → ⊥
        by_step (inl e) = let here : seat_at places hash n ≡ suc k = rw e t.there in omega (arith, here, z)
        by_step (inr e) = omega (arith, z, t.taken n (omega (arith, l, e)))

    at_seat : IsSeated places hash k → No k
    at_seat t = by_step (cases_lt t.step n)
      where
        by_step : (t.step < n) ⊎ (n ≤ t.step) → No k
        by_step (inl l) = f t.step k l t.there h
        by_step (inr l) = absurd (behind t l stop)

-- the invariant of a search for an index
pub record Seeking (places : List ℕ) (hash k step : ℕ) : Type 0 where
  pub seated : IsSeated places hash k
  pub before : step ≤ seated.step

pub seeking_next : (places : List ℕ) (hash k step : ℕ) → Seeking places hash k step → seat_at places hash step ≢ suc k → Seeking places hash k (step + 1)
seeking_next places hash k step s n = record { seated = s.seated; before = by_step (cases_eq step s.seated.step) }
  where
    by_step : (step ≡ s.seated.step) ⊎ (step ≡ s.seated.step → ⊥) → step + 1 ≤ s.seated.step
    by_step (inl e) = absurd (n (rw e s.seated.there))
    by_step (inr e) = omega (arith, s.before, e)

pub probed : (places : List ℕ) (hash step p : ℕ) → Probing places hash step → p ≡ place_on hash step (length places) → get_or places p 0 ≢ 0 → Probing places hash (step + 1)
probed places hash step p h e n = probing_next places hash step h (rw e at n)

pub sought : (places : List ℕ) (hash k step p : ℕ) → Seeking places hash k step → p ≡ place_on hash step (length places) → get_or places p 0 ≢ k + 1 → Seeking places hash k (step + 1)
sought places hash k step p h e n =
    let apart : seat_at places hash step ≢ k + 1 = rw e at n in
    seeking_next places hash k step h (λ q. apart (omega (arith, q)))

-- the steps of the functions
pub seats_step : (hashes places : List ℕ) (i p : ℕ) → AreSeats (take i hashes) places → i < length hashes → IsFree places (get_or hashes i 0) p → AreSeats (take (i + 1) hashes) (set places p (i + 1))
seats_step hashes places i p s l f = rw (take_more hashes i 0 l) (seats_more (take i hashes) places (get_or hashes i 0) p (i + 1) s f (omega (arith, length-take-le i hashes (omega arith))))

pub free_left : (hashes places : List ℕ) (i : ℕ) → AreSeats (take i hashes) places → i < length hashes → length hashes < length places → 0 < free_places places
free_left hashes places i s l m = omega (arith, s.room, length-take-le i hashes (omega arith))

pub seated_last : (old hashes places : List ℕ) (hash n : ℕ) → AreSeats old places → old ≡ hashes ++ hash ∷ [] → n ≡ length hashes → IsSeated places hash n
seated_last old hashes places hash n s e z =
    let len : length (hashes ++ hash ∷ []) ≡ length hashes + 1 = length_push hashes hash in
    let t : AreSeats (hashes ++ hash ∷ []) places = rw e at s in
    let u : IsSeated places (get_or (hashes ++ hash ∷ []) n 0) n = t.seated n (omega (arith, len, z)) in
    rw (get_or_push hashes hash 0 n (sym z)) at u

pub popped : (old hashes places : List ℕ) (hash p n : ℕ) → AreSeats old places × (2 * length old ≤ length places) → old ≡ hashes ++ hash ∷ [] → n ≡ length hashes → p < length places → get_or places p 0 ≡ n + 1
    → AreSeats hashes (set places p 0) × (2 * length hashes ≤ length (set places p 0))
popped old hashes places hash p n s e z l t =
    let len : length old ≡ length hashes + 1 = ap length e ∙ length_push hashes hash in
    (seats_less hashes places hash p (rw e at s.0) l (t ∙ ap (λ m. m + 1) z), rw (length-set places p 0) (omega (arith, s.1, len)))

pub pushed : (hashes new places : List ℕ) (hash p n : ℕ) → AreSeats hashes places → IsFree places hash p → new ≡ hashes ++ hash ∷ [] → n ≡ length new → 2 * (length hashes + 1) ≤ length places
    → AreSeats new (set places p n) × (2 * length new ≤ length (set places p n))
pushed hashes new places hash p n s f e z h =
    let len : length new ≡ length hashes + 1 = ap length e ∙ length_push hashes hash in
    (rw e (seats_more hashes places hash p n s f (z ∙ len)), rw (length-set places p n) (omega (arith, h, len)))

pub searched : (hashes places : List ℕ) (hash step n : ℕ) (No : ℕ → Type 0) → ((d j : ℕ) → d < step → seat_at places hash d ≡ suc j → slice_get hashes j ≡ Some hash → No j) → seat_at places hash step ≡ n + 1 → (slice_get hashes n ≡ Some hash → No n)
    → (d j : ℕ) → d < step + 1 → seat_at places hash d ≡ suc j → slice_get hashes j ≡ Some hash → No j
searched hashes places hash step n No h e f d j l q g = by_step (cases_lt d step)
  where
    by_step : (d < step) ⊎ (step ≤ d) → No j
    by_step (inl a) = h d j a q g
    by_step (inr a) =
        let here : d ≡ step = omega arith in
        let there : seat_at places hash step ≡ suc j = rw here at q in
        let same : j ≡ n = omega (arith, there, e) in
        rw same (f (rw same at g))
