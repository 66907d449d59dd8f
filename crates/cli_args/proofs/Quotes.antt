-- Texts in quotes.
use Rattle.std.proofs.Common.{◌≡◌, ℕ, zero, suc, ◌+◌, ◌≤◌, ◌<◌, ◌&&◌, Bool, true, false, cond, eqb, List, [], ◌∷◌, ◌++◌, length, get_or, take, drop, Option, Some, None, Bor, refl, sym, ap, ◌∙◌, inl, inr, subst, eq-eqb, drop-cons, add-one, arith}
use Rattle.std.specs.Option.{option_map}
use Rattle.std.specs.Str.Pattern.{FindsText, LacksTextAt}
use Rattle.std.specs.Str.Replace.{ReplacesMatches}
use Rattle.std.proofs.lemmas.Bool.{and_parts, and_from, cases_lt, eqb-true, false_from_ne_true, ne_eqb}
use Rattle.std.proofs.lemmas.List.{drop_all}
use Rattle.cli_args.specs.ConditionTokens.{quoted_length, undoubled}

-- ---- the closing quote

other : (q b : ℕ) (bs : List ℕ) → (b ≡ q → ⊥) → quoted_length q (b ∷ bs) ≡ option_map (λ n. 1 + n) (quoted_length q bs)
unfolding quoted_length
other q b [] ne = rw (ne_eqb b q ne) refl
other q b (c ∷ bs) ne = rw (ne_eqb b q ne) refl

double : (q b c : ℕ) (bs : List ℕ) → b ≡ q → c ≡ q → quoted_length q (b ∷ c ∷ bs) ≡ option_map (λ n. 2 + n) (quoted_length q bs)
unfolding quoted_length
double q b c bs e f = rw (eq-eqb b q e, eq-eqb c q f) refl

last : (q b : ℕ) → b ≡ q → quoted_length q (b ∷ []) ≡ Some 0
unfolding quoted_length
last q b e = rw (eq-eqb b q e) refl

single : (q b c : ℕ) (bs : List ℕ) → b ≡ q → (c ≡ q → ⊥) → quoted_length q (b ∷ c ∷ bs) ≡ Some 0
unfolding quoted_length
single q b c bs e ne = rw (eq-eqb b q e, ne_eqb c q ne) refl

-- what is found i bytes later
abbrev pub later : ℕ → Option ℕ → Option ℕ
later i = option_map (λ n. i + n)

later-later : (i k : ℕ) (o : Option ℕ) → later i (later k o) ≡ later (i + k) o
later-later i k None = refl
later-later i k (Some n) = let e : i + (k + n) ≡ i + k + n = omega arith in ap (λ m. Some m) e

pub later-zero : (o : Option ℕ) → later 0 o ≡ o
later-zero None = refl
later-zero (Some n) = let e : 0 + n ≡ n = omega arith in ap (λ m. Some m) e

pub past-other : (q : ℕ) (s : List ℕ) (i : ℕ) (total : Option ℕ) → i < length s → (get_or s i 0 ≡ q → ⊥) → later i (quoted_length q (drop i s)) ≡ total → later (i + 1) (quoted_length q (drop (i + 1) s)) ≡ total
past-other q s i total lt ne so_far =
    let here : drop i s ≡ get_or s i 0 ∷ drop (i + 1) s = rw add-one (drop-cons s i 0 lt) in
    let one : quoted_length q (drop i s) ≡ later 1 (quoted_length q (drop (i + 1) s)) = ap (quoted_length q) here ∙ other q (get_or s i 0) (drop (i + 1) s) ne in
    sym (later-later i 1 (quoted_length q (drop (i + 1) s))) ∙ ap (later i) (sym one) ∙ so_far

pub past-double : (q : ℕ) (s : List ℕ) (i : ℕ) (total : Option ℕ) → i + 1 < length s → get_or s i 0 ≡ q → get_or s (i + 1) 0 ≡ q → later i (quoted_length q (drop i s)) ≡ total → later (i + 2) (quoted_length q (drop (i + 2) s)) ≡ total
past-double q s i total lt e f so_far =
    let lt0 : i < length s = omega arith in
    let k : suc (i + 1) ≡ i + 2 = omega arith in
    let here : drop i s ≡ get_or s i 0 ∷ drop (i + 1) s = rw add-one (drop-cons s i 0 lt0) in
    let next : drop (i + 1) s ≡ get_or s (i + 1) 0 ∷ drop (i + 2) s = drop-cons s (i + 1) 0 lt ∙ ap (λ n. get_or s (i + 1) 0 ∷ drop n s) k in
    let one : quoted_length q (drop i s) ≡ later 2 (quoted_length q (drop (i + 2) s)) = ap (quoted_length q) (here ∙ ap (λ r. get_or s i 0 ∷ r) next) ∙ double q (get_or s i 0) (get_or s (i + 1) 0) (drop (i + 2) s) e f in
    sym (later-later i 2 (quoted_length q (drop (i + 2) s))) ∙ ap (later i) (sym one) ∙ so_far

pub at-last : (q : ℕ) (s : List ℕ) (i : ℕ) (total : Option ℕ) → i < length s → get_or s i 0 ≡ q → (i + 1 < length s → get_or s (i + 1) 0 ≡ q → ⊥) → later i (quoted_length q (drop i s)) ≡ total → Some i ≡ total
at-last q s i total lt e ne so_far =
    let here : drop i s ≡ get_or s i 0 ∷ drop (i + 1) s = rw add-one (drop-cons s i 0 lt) in
    let k : suc (i + 1) ≡ i + 2 = omega arith in
    let z : i + 0 ≡ i = omega arith in
    let found : quoted_length q (drop i s) ≡ Some 0 = elim (cases_lt (i + 1) (length s)) [
      | inl more ↦ ap (quoted_length q) (here ∙ ap (λ r. get_or s i 0 ∷ r) (drop-cons s (i + 1) 0 more)) ∙ single q (get_or s i 0) (get_or s (i + 1) 0) (drop (suc (i + 1)) s) e (ne more)
      | inr all ↦ ap (quoted_length q) (here ∙ ap (λ r. get_or s i 0 ∷ r) (drop_all (i + 1) s all)) ∙ last q (get_or s i 0) e
    ] in
    ap (λ n. Some n) (sym z) ∙ sym (ap (later i) found) ∙ so_far

pub none-left : (q : ℕ) (s : List ℕ) (i : ℕ) (total : Option ℕ) → length s ≤ i → later i (quoted_length q (drop i s)) ≡ total → None ≡ total
unfolding quoted_length
none-left q s i total le so_far =
    let e : later i (quoted_length q (drop i s)) ≡ None = rw (drop_all i s le) refl in
    sym e ∙ so_far

mapped : (k : ℕ) (o : Option ℕ) (n : ℕ) → later k o ≡ Some n → (m : ℕ) × (o ≡ Some m) × (k + m ≡ n)
mapped k None n e = absurd cc
mapped k (Some m) n e = (m, refl, cc)

-- the closing quote is at the length
pub quote-at : (q : ℕ) (bs : List ℕ) (n : ℕ) → quoted_length q bs ≡ Some n → (n < length bs) × (get_or bs n 0 ≡ q)
unfolding quoted_length
quote-at q [] n e = absurd cc
quote-at q (b ∷ []) n e =
    let P : Bool → Type 0 = λ v. eqb b q ≡ v → cond v (Some 0) None ≡ Some n → (n < length (b ∷ [])) × (get_or (b ∷ []) n 0 ≡ q) in
    (elim (eqb b q) as P [
      | true ↦ λ t f. let z : n ≡ 0 = cc in rw z (omega arith, eqb-true b q t)
      | false ↦ λ t f. absurd cc
    ]) refl e
quote-at q (b ∷ c ∷ bs) n e =
    let P : Bool → Type 0 = λ v. eqb b q ≡ v → cond v (cond (eqb c q) (later 2 (quoted_length q bs)) (Some 0)) (later 1 (quoted_length q (c ∷ bs))) ≡ Some n → (n < length (b ∷ c ∷ bs)) × (get_or (b ∷ c ∷ bs) n 0 ≡ q) in
    let Q : Bool → Type 0 = λ v. eqb b q ≡ true → cond v (later 2 (quoted_length q bs)) (Some 0) ≡ Some n → (n < length (b ∷ c ∷ bs)) × (get_or (b ∷ c ∷ bs) n 0 ≡ q) in
    (elim (eqb b q) as P [
      | true ↦ (elim (eqb c q) as Q [
        | true ↦ λ t f.
            let m = mapped 2 (quoted_length q bs) n f in
            let r = quote-at q bs m.0 m.1 in
            let k : n ≡ suc (suc m.0) = omega (arith, m.2) in
            rw k (omega (arith, r.0), r.1)
        | false ↦ λ t f. let z : n ≡ 0 = cc in rw z (omega arith, eqb-true b q t)
      ])
      | false ↦ λ t f.
          let m = mapped 1 (quoted_length q (c ∷ bs)) n f in
          let r = quote-at q (c ∷ bs) m.0 m.1 in
          let k : n ≡ suc m.0 = omega (arith, m.2) in
          rw k (omega (arith, r.0), r.1)
    ]) refl e

-- ---- doubled quotes

not-double : (q x y : ℕ) (s : List ℕ) → LacksTextAt (q ∷ q ∷ []) (x ∷ y ∷ s) 0 → (eqb x q && eqb y q) ≡ false
not-double q x y s lacks = false_from_ne_true _ (λ t.
    let p = and_parts (eqb x q) (eqb y q) t in
    let e : x ≡ q = eqb-true x q p.0 in
    let f : y ≡ q = eqb-true y q p.1 in
    lacks s cc)

none-doubled : (q : ℕ) (s : List ℕ) → ((i : ℕ) → i ≤ length s → LacksTextAt (q ∷ q ∷ []) s i) → undoubled q s ≡ s
unfolding undoubled
none-doubled q [] lacks = refl
none-doubled q (x ∷ []) lacks = refl
none-doubled q (x ∷ y ∷ s) lacks = rw (not-double q x y s (lacks 0 (omega arith)), none-doubled q (y ∷ s) (λ i le. lacks (suc i) (omega arith))) refl

first-doubled : (q : ℕ) (s : List ℕ) (a : ℕ) (rest : List ℕ) → ((i : ℕ) → i < a → LacksTextAt (q ∷ q ∷ []) s i) → drop a s ≡ q ∷ q ∷ rest → undoubled q s ≡ take a s ++ (q ∷ undoubled q rest)
unfolding undoubled
first-doubled q [] zero rest lacks e = absurd cc
first-doubled q [] (suc a) rest lacks e = absurd cc
first-doubled q (x ∷ []) zero rest lacks e = absurd cc
first-doubled q (x ∷ []) (suc zero) rest lacks e = absurd cc
first-doubled q (x ∷ []) (suc (suc a)) rest lacks e = absurd cc
first-doubled q (x ∷ y ∷ s) zero rest lacks e =
    let f : x ≡ q = cc in
    let g : y ≡ q = cc in
    let h : s ≡ rest = cc in
    rw (and_from (eqb x q) (eqb y q) (eq-eqb x q f) (eq-eqb y q g)) (ap (λ r. q ∷ undoubled q r) h)
first-doubled q (x ∷ y ∷ s) (suc a) rest lacks e =
    rw (not-double q x y s (lacks 0 (omega arith)), first-doubled q (y ∷ s) a rest (λ i lt. lacks (suc i) (omega arith)) e) refl

-- what `replace` gives
pub replaced : (q n : ℕ) (p : Bor (List ℕ)) (s out : List ℕ) → p.now ≡ q ∷ q ∷ [] → ReplacesMatches (λ m. FindsText m.now) (λ m k. k.now ≡ m.now) (q ∷ []) n p s out → out ≡ undoubled q s
replaced q zero p s out e h = h.1 ∙ sym (none-doubled q s (λ i le. subst (λ (m : List ℕ). LacksTextAt m s i) e (h.0 i le)))
replaced q (suc n) p s out e h =
    let a = h.0 in
    let b = h.1 in
    elim h.6 [
      | inl k ↦
          let first = first-doubled q s a (drop b s) (λ i lt. subst (λ (m : List ℕ). LacksTextAt m s i) e (h.4.0 i lt)) (h.4.1.split ∙ ap (λ m. m ++ drop b s) e) in
          h.7 ∙ ap (λ r. take a s ++ (q ∷ r)) (replaced q n h.2 (drop b s) h.3 (h.5 ∙ e) k.1) ∙ sym first
      | inr k ↦ absurd (omega (arith, k.0, h.4.1.ends, ap length e))
    ]
