-- Rows of lists as offsets and validity bits.
use Rattle.std.specs.Prelude.{Option, Some, None, slice_index, ◌⊎◌, Result, Err, IsErrOf, IsNone, alloc_error, option_map}
use Rattle.std.proofs.Common.{append_assoc, ◌≡◌, ℕ, zero, suc, ◌+◌, ◌<◌, Bool, true, false, List, [], ◌∷◌, ◌++◌, length, map, replicate, drop, take, get_or, refl, ap, sym, ◌∙◌, subst, arith, length-drop, inl, inr, ◌≤◌}
use Rattle.std.proofs.lemmas.List.{drop-append-le, length-map, length-append}
use Rattle.std.proofs.lemmas.Bool.{cases_lt}
use Rattle.std.proofs.Math.Seq.{take-append_seam}
use Rattle.nest_memory.specs.Rising.{IsNondecreasing, last_of, joined, largest_offset}
use Rattle.nest_model.specs.Part.{Validity, count_rows, sliced_validity}
use Rattle.nest_model.specs.Fits.{ValidityFits}
use Rattle.nest_model.specs.BuilderRow.{Row, row_ending, end_from, RisesFrom}
use Rattle.nest_memory.specs.declared.error.Error.{Error}
use Rattle.nest_memory.specs.declared.error.Error.TheVariants.{Memory, Overflow}
use Rattle.nest_model.specs.BuilderRowLaws.{end_from-append}
use Rattle.nest_model.specs.BuilderAddRowLaws.{end_from-lengths}
use Rattle.nest_model.specs.BuilderAddRow.{rows_of_lengths, items_of_lengths}
use Rattle.nest_model.specs.BuilderFreeze.{EncodesBits, offsets_from, row_bits}
use Rattle.nest_model.specs.BuilderJoin.{moved}
use Rattle.nest_flat.specs.FlatParts.{ValidityCovers}
use Rattle.nest_flat.specs.Growth.{pushed_validity, joined_validity}
use Rattle.nest_build.specs.Rows.{IsOfRows, zip_rows, rows_ending, encoded_rows, encoded_bits}

-- the ends of rows
abbrev ends : List Row → List ℕ
ends rs = map (λ (r : Row). r.end) rs

zip-ends : (bits : List Bool) (es : List ℕ) → length bits ≡ length es → ends (zip_rows bits es) ≡ es
zip-ends [] [] h = refl
zip-ends [] (e ∷ es) h = absurd (omega arith)
zip-ends (b ∷ bits) [] h = absurd (omega arith)
zip-ends (b ∷ bits) (e ∷ es) h = ap (λ xs. e ∷ xs) (zip-ends bits es (omega arith))

valid-ends : (es : List ℕ) → ends (map (row_ending true) es) ≡ es
valid-ends [] = refl
valid-ends (e ∷ es) = ap (λ xs. e ∷ xs) (valid-ends es)

ending-ends : (va : Validity) (es : List ℕ) → ValidityFits va (length es) → ends (rows_ending va es) ≡ es
ending-ends None es h = valid-ends es
ending-ends (Some bits) es h = zip-ends bits es h

pub tail-count : (os : List ℕ) → length (drop 1 os) ≡ count_rows os
tail-count os = length-drop 1 os

pub row_list-ends : (os : List ℕ) (va : Validity) → ValidityFits va (count_rows os) → ends (encoded_rows os va) ≡ drop 1 os
row_list-ends os va h = ending-ends va (drop 1 os) (subst (ValidityFits va) (sym (tail-count os)) h)

-- the number of rows, from the offsets
pub row_list-count : (os : List ℕ) (va : Validity) (rs : List Row) → encoded_rows os va ≡ rs → ValidityFits va (count_rows os) → length rs ≡ count_rows os
row_list-count os va rs e h = ap length (sym e) ∙ sym (length-map (encoded_rows os va) (λ (r : Row). r.end)) ∙ ap length (row_list-ends os va h) ∙ tail-count os

end-place : (s : ℕ) (rs : List Row) → end_from s rs ≡ get_or (s ∷ ends rs) (length rs) 0
end-place s [] = refl
end-place s (r ∷ rs) = end-place r.end rs

pub first-rest : (os : List ℕ) → 0 < length os → slice_index os 0 ≡ 0 → os ≡ 0 ∷ drop 1 os
first-rest [] h k = absurd (omega arith)
first-rest (o ∷ os) h k = ap (λ x. x ∷ os) k

-- the last row ends at the last offset
pub row_list-end : (os : List ℕ) (va : Validity) (rs : List Row) → encoded_rows os va ≡ rs → 0 < length os → slice_index os 0 ≡ 0 → ValidityFits va (count_rows os) → end_from 0 rs ≡ last_of os
row_list-end os va rs e h k v =
    let c = row_list-count os va rs e v in
    let f = first-rest os h k in
    end-place 0 rs
    ∙ ap (λ xs. get_or (0 ∷ xs) (length rs) 0) (ap ends (sym e) ∙ row_list-ends os va v)
    ∙ ap (λ n. get_or (0 ∷ drop 1 os) n 0) c
    ∙ ap (λ xs. get_or xs (count_rows os) 0) (sym f)

rising : (s : ℕ) (rs : List Row) → IsNondecreasing (s ∷ ends rs) → RisesFrom s rs
rising s [] h = tt
rising s (r ∷ rs) h = (h 0 1 (omega arith) (omega arith), rising r.end rs (λ i j k l. h (suc i) (suc j) (omega arith) (omega arith)))

-- the ends of rows never decrease
pub row_list-rises : (os : List ℕ) (va : Validity) (rs : List Row) → encoded_rows os va ≡ rs → 0 < length os → slice_index os 0 ≡ 0 → ValidityFits va (count_rows os) → IsNondecreasing os → RisesFrom 0 rs
row_list-rises os va rs e h k v n =
    rising 0 rs (subst IsNondecreasing (first-rest os h k ∙ ap (λ xs. 0 ∷ xs) (sym (row_list-ends os va v) ∙ ap ends e)) n)

zip-push : (bits : List Bool) (es : List ℕ) (b : Bool) (e : ℕ) → length bits ≡ length es → zip_rows (bits ++ b ∷ []) (es ++ e ∷ []) ≡ zip_rows bits es ++ row_ending b e ∷ []
zip-push [] [] b e h = refl
zip-push [] (x ∷ es) b e h = absurd (omega arith)
zip-push (a ∷ bits) [] b e h = absurd (omega arith)
zip-push (a ∷ bits) (x ∷ es) b e h = ap (λ rs. row_ending a x ∷ rs) (zip-push bits es b e (omega arith))

zip-valid : (es : List ℕ) → zip_rows (replicate (length es) true) es ≡ map (row_ending true) es
zip-valid [] = refl
zip-valid (e ∷ es) = ap (λ rs. row_ending true e ∷ rs) (zip-valid es)

valid-push : (es : List ℕ) (e : ℕ) → map (row_ending true) (es ++ e ∷ []) ≡ map (row_ending true) es ++ row_ending true e ∷ []
valid-push [] e = refl
valid-push (x ∷ es) e = ap (λ rs. row_ending true x ∷ rs) (valid-push es e)

replicated : (n : ℕ) → length (replicate n true) ≡ n
replicated zero = refl
replicated (suc n) = ap suc (replicated n)

ending-push : (va : Validity) (es : List ℕ) (b : Bool) (e : ℕ) → ValidityFits va (length es) → rows_ending (pushed_validity va (length es) b) (es ++ e ∷ []) ≡ rows_ending va es ++ row_ending b e ∷ []
ending-push None es true e h = valid-push es e
ending-push None es false e h =
    zip-push (replicate (length es) true) es false e (replicated (length es)) ∙ ap (λ rs. rs ++ row_ending false e ∷ []) (zip-valid es)
ending-push (Some bits) es b e h = zip-push bits es b e h

-- one more row
pub row_list-push : (os ps : List ℕ) (va wa : Validity) (rs : List Row) (n : ℕ) (b : Bool) (e end : ℕ) → encoded_rows os va ≡ rs → ps ≡ os ++ e ∷ [] → wa ≡ pushed_validity va n b → n ≡ count_rows os → e ≡ end → 0 < length os → ValidityFits va (count_rows os)
    → encoded_rows ps wa ≡ rs ++ row_ending b end ∷ []
row_list-push os ps va wa rs n b e end h p w k x l v =
    let c = tail-count os in
    ap (λ qs. encoded_rows qs wa) p
    ∙ ap (λ ws. encoded_rows (os ++ e ∷ []) ws) (w ∙ ap (λ m. pushed_validity va m b) (k ∙ sym c))
    ∙ ap (rows_ending (pushed_validity va (length (drop 1 os)) b)) (drop-append-le 1 os (e ∷ []) (omega arith))
    ∙ ending-push va (drop 1 os) b e (subst (ValidityFits va) (sym c) v)
    ∙ ap (λ ss. ss ++ row_ending b e ∷ []) h
    ∙ ap (λ y. rs ++ row_ending b y ∷ []) x

-- a removed row
pub row_list-back : (os ps qs : List ℕ) (va wa : Validity) (rs : List Row) (n e : ℕ) → encoded_rows os va ≡ rs → ps ≡ os ++ e ∷ [] → qs ≡ take (n + 1) ps → n + 1 ≡ length os → wa ≡ va → encoded_rows qs wa ≡ rs
row_list-back os ps qs va wa rs n e h p q k w =
    ap (λ xs. encoded_rows xs wa) (q ∙ ap (take (n + 1)) p ∙ ap (λ m. take m (os ++ e ∷ [])) k ∙ take-append_seam os (e ∷ [])) ∙ ap (encoded_rows os) w ∙ h

pub not_past : (a b : ℕ) → ((b < a) → ⊥) → a ≤ b
not_past a b h = elim (cases_lt b a) [
  | inl lt ↦ absurd (h lt)
  | inr ge ↦ ge
]

-- the first rows
drop-take : (os : List ℕ) (n : ℕ) → drop 1 (take (suc n) os) ≡ take n (drop 1 os)
drop-take [] zero = refl
drop-take [] (suc n) = refl
drop-take (o ∷ os) n = refl

zip-take : (n : ℕ) (bits : List Bool) (es : List ℕ) → zip_rows (take n bits) (take n es) ≡ take n (zip_rows bits es)
zip-take zero bits es = refl
zip-take (suc n) [] es = refl
zip-take (suc n) (b ∷ bits) [] = refl
zip-take (suc n) (b ∷ bits) (e ∷ es) = ap (λ rs. row_ending b e ∷ rs) (zip-take n bits es)

map-take : (n : ℕ) (es : List ℕ) → map (row_ending true) (take n es) ≡ take n (map (row_ending true) es)
map-take zero es = refl
map-take (suc n) [] = refl
map-take (suc n) (e ∷ es) = ap (λ rs. row_ending true e ∷ rs) (map-take n es)

ending-take : (va : Validity) (n : ℕ) (es : List ℕ) → rows_ending (sliced_validity va 0 n) (take n es) ≡ take n (rows_ending va es)
ending-take None n es = map-take n es
ending-take (Some bits) n es = zip-take n bits es

pub row_list-cut : (os ps : List ℕ) (va wa : Validity) (rs : List Row) (n : ℕ) → encoded_rows os va ≡ rs → ps ≡ take (n + 1) os → wa ≡ sliced_validity va 0 n → encoded_rows ps wa ≡ take n rs
row_list-cut os ps va wa rs n e p w =
    let m : n + 1 ≡ suc n = omega arith in
    ap (λ qs. encoded_rows qs wa) (p ∙ ap (λ k. take k os) m)
    ∙ ap (λ ws. encoded_rows (take (suc n) os) ws) w
    ∙ ap (rows_ending (sliced_validity va 0 n)) (drop-take os n)
    ∙ ending-take va n (drop 1 os)
    ∙ ap (take n) e

pub covers : (va : Validity) (m n : ℕ) → ValidityFits va m → n ≤ m → ValidityCovers va n
covers None m n h l = tt
covers (Some bits) m n h l = omega (arith, h, l)

-- no rows
pub row_list-none : (os ps : List ℕ) → 0 < length os → ps ≡ take (0 + 1) os → encoded_rows ps None ≡ []
row_list-none [] ps h e = absurd (omega arith)
row_list-none (o ∷ os) ps h e = ap (λ qs. encoded_rows qs None) e

-- the bits of rows
valid-all : (es : List ℕ) (i : ℕ) → get_or (row_bits (map (row_ending true) es)) i true ≡ true
valid-all [] i = refl
valid-all (e ∷ es) zero = refl
valid-all (e ∷ es) (suc i) = valid-all es i

zip-bits : (bits : List Bool) (es : List ℕ) → length bits ≡ length es → row_bits (zip_rows bits es) ≡ bits
zip-bits [] [] h = refl
zip-bits [] (e ∷ es) h = absurd (omega arith)
zip-bits (b ∷ bits) [] h = absurd (omega arith)
zip-bits (b ∷ bits) (e ∷ es) h = ap (λ bs. b ∷ bs) (zip-bits bits es (omega arith))

pub row_list-bits : (os : List ℕ) (va : Validity) (rs : List Row) → encoded_rows os va ≡ rs → ValidityFits va (count_rows os) → EncodesBits va (row_bits rs)
row_list-bits os None rs e h = λ i l. ap (λ qs. get_or (row_bits qs) i true) (sym e) ∙ valid-all (drop 1 os) i
row_list-bits os (Some bits) rs e h = sym (ap row_bits (sym e) ∙ zip-bits bits (drop 1 os) (h ∙ sym (tail-count os)))

-- the offsets of rows
offsets-ends : (s : ℕ) (rs : List Row) → offsets_from s rs ≡ s ∷ ends rs
offsets-ends s [] = refl
offsets-ends s (r ∷ rs) = ap (λ xs. s ∷ xs) (offsets-ends r.end rs)

pub row_list-offsets : (os : List ℕ) (va : Validity) (rs : List Row) → encoded_rows os va ≡ rs → 0 < length os → slice_index os 0 ≡ 0 → ValidityFits va (count_rows os) → offsets_from 0 rs ≡ os
row_list-offsets os va rs e h k v = offsets-ends 0 rs ∙ ap (λ xs. 0 ∷ xs) (ap ends (sym e) ∙ row_list-ends os va v) ∙ sym (first-rest os h k)

-- one more row of a length
pub lengths-more : (s : ℕ) (ns : List (Option ℕ)) (x : Option ℕ) → rows_of_lengths s (ns ++ x ∷ []) ≡ rows_of_lengths s ns ++ rows_of_lengths (s + items_of_lengths ns) (x ∷ [])
lengths-more s [] x = let z : s ≡ s + 0 = omega arith in ap (λ o. rows_of_lengths o (x ∷ [])) z
lengths-more s (None ∷ ns) x = ap (λ rs. row_ending false s ∷ rs) (lengths-more s ns x)
lengths-more s (Some n ∷ ns) x =
    let z : s + n + items_of_lengths ns ≡ s + (n + items_of_lengths ns) = omega arith in
    ap (λ rs. row_ending true (s + n) ∷ rs) (lengths-more (s + n) ns x ∙ ap (λ o. rows_of_lengths (s + n) ns ++ rows_of_lengths o (x ∷ [])) z)

pub lengths-count : (s : ℕ) (ns : List (Option ℕ)) → length (rows_of_lengths s ns) ≡ length ns
lengths-count s [] = refl
lengths-count s (None ∷ ns) = ap suc (lengths-count s ns)
lengths-count s (Some n ∷ ns) = ap suc (lengths-count (s + n) ns)

pub row_list-append : (ms ns : List (Option ℕ)) → items_of_lengths (ms ++ ns) ≡ items_of_lengths ms + items_of_lengths ns
row_list-append [] ns = omega arith
row_list-append (None ∷ ms) ns = row_list-append ms ns
row_list-append (Some m ∷ ms) ns = omega (arith, row_list-append ms ns)

pub row_list-first : (i : ℕ) (ns : List (Option ℕ)) → i < length ns → items_of_lengths (take i ns) + items_of_lengths (get_or ns i None ∷ []) ≤ items_of_lengths ns
row_list-first i [] l = absurd (omega arith)
row_list-first zero (None ∷ ns) l = omega arith
row_list-first zero (Some n ∷ ns) l = omega arith
row_list-first (suc i) (None ∷ ns) l = row_list-first i ns (omega arith)
row_list-first (suc i) (Some n ∷ ns) l = omega (arith, row_list-first i ns (omega arith))

-- appended rows
zip-append : (cs bs : List Bool) (es fs : List ℕ) → length cs ≡ length es → zip_rows (cs ++ bs) (es ++ fs) ≡ zip_rows cs es ++ zip_rows bs fs
zip-append [] bs [] fs h = refl
zip-append [] bs (e ∷ es) fs h = absurd (omega arith)
zip-append (a ∷ cs) bs [] fs h = absurd (omega arith)
zip-append (a ∷ cs) bs (e ∷ es) fs h = ap (λ rs. row_ending a e ∷ rs) (zip-append cs bs es fs (omega arith))

valid-append : (es fs : List ℕ) → map (row_ending true) (es ++ fs) ≡ map (row_ending true) es ++ map (row_ending true) fs
valid-append [] fs = refl
valid-append (e ∷ es) fs = ap (λ rs. row_ending true e ∷ rs) (valid-append es fs)

zip-moved : (s : ℕ) (bs : List Bool) (es : List ℕ) → zip_rows bs (map (λ n. s + n) es) ≡ moved s (zip_rows bs es)
zip-moved s [] es = refl
zip-moved s (b ∷ bs) [] = refl
zip-moved s (b ∷ bs) (e ∷ es) = ap (λ rs. row_ending b (s + e) ∷ rs) (zip-moved s bs es)

valid-moved : (s : ℕ) (es : List ℕ) → map (row_ending true) (map (λ n. s + n) es) ≡ moved s (map (row_ending true) es)
valid-moved s [] = refl
valid-moved s (e ∷ es) = ap (λ rs. row_ending true (s + e) ∷ rs) (valid-moved s es)

moved-count : (s : ℕ) (es : List ℕ) → length (map (λ n. s + n) es) ≡ length es
moved-count s es = length-map es (λ n. s + n)

ending-joined : (va vb : Validity) (es fs : List ℕ) (s : ℕ) → ValidityFits va (length es) → ValidityFits vb (length fs)
    → rows_ending (joined_validity va (length es) vb (length fs)) (es ++ map (λ n. s + n) fs) ≡ rows_ending va es ++ moved s (rows_ending vb fs)
ending-joined None None es fs s h k = valid-append es (map (λ n. s + n) fs) ∙ ap (λ rs. map (row_ending true) es ++ rs) (valid-moved s fs)
ending-joined None (Some bs) es fs s h k =
    zip-append (replicate (length es) true) bs es (map (λ n. s + n) fs) (replicated (length es))
    ∙ ap (λ rs. rs ++ zip_rows bs (map (λ n. s + n) fs)) (zip-valid es)
    ∙ ap (λ rs. map (row_ending true) es ++ rs) (zip-moved s bs fs)
ending-joined (Some cs) None es fs s h k =
    zip-append cs (replicate (length fs) true) es (map (λ n. s + n) fs) h
    ∙ ap (λ rs. zip_rows cs es ++ rs) (zip-moved s (replicate (length fs) true) fs ∙ ap (moved s) (zip-valid fs))
ending-joined (Some cs) (Some bs) es fs s h k =
    zip-append cs bs es (map (λ n. s + n) fs) h ∙ ap (λ rs. zip_rows cs es ++ rs) (zip-moved s bs fs)

pub row_list-joined : (os ps qs : List ℕ) (va vb wa : Validity) (rs more : List Row) (n m s : ℕ) → encoded_rows os va ≡ rs → encoded_rows ps vb ≡ more → qs ≡ joined os ps → wa ≡ joined_validity va n vb m
    → n ≡ count_rows os → m ≡ count_rows ps → s ≡ last_of os → 0 < length os → ValidityFits va (count_rows os) → ValidityFits vb (count_rows ps) → encoded_rows qs wa ≡ rs ++ moved s more
row_list-joined os ps qs va vb wa rs more n m s e f q w k j x l v u =
    let c = tail-count os in
    let d = tail-count ps in
    let p : n ≡ length (drop 1 os) = k ∙ sym c in
    let o : m ≡ length (drop 1 ps) = j ∙ sym d in
    let mine = map (λ y. last_of os + y) (drop 1 ps) in
    ap (λ z. encoded_rows z wa) q
    ∙ ap (λ z. encoded_rows (joined os ps) z) (w ∙ (λ i. joined_validity va (p i) vb (o i)))
    ∙ ap (rows_ending (joined_validity va (length (drop 1 os)) vb (length (drop 1 ps)))) (drop-append-le 1 os mine (omega arith))
    ∙ ending-joined va vb (drop 1 os) (drop 1 ps) (last_of os) (subst (ValidityFits va) (sym c) v) (subst (ValidityFits vb) (sym d) u)
    ∙ (λ i. e i ++ moved (sym x i) (f i))

-- fixed-size lists
pub bits-count : (n : ℕ) (va : Validity) → ValidityFits va n → length (encoded_bits n va) ≡ n
bits-count n None h = replicated n
bits-count n (Some bits) h = h

true-more : (n : ℕ) → replicate (n + 1) true ≡ replicate n true ++ true ∷ []
true-more n = let e : n + 1 ≡ suc n = omega arith in ap (λ m. replicate m true) e ∙ turn n
  where
    turn : (m : ℕ) → replicate (suc m) true ≡ replicate m true ++ true ∷ []
    turn zero = refl
    turn (suc m) = ap (λ bs. true ∷ bs) (turn m)

pub bits-push : (n : ℕ) (va : Validity) (b : Bool) → encoded_bits (n + 1) (pushed_validity va n b) ≡ encoded_bits n va ++ b ∷ []
bits-push n None true = true-more n
bits-push n None false = refl
bits-push n (Some bits) b = refl

true-take : (m n : ℕ) → m ≤ n → replicate m true ≡ take m (replicate n true)
true-take zero n h = refl
true-take (suc m) zero h = absurd (omega arith)
true-take (suc m) (suc n) h = ap (λ bs. true ∷ bs) (true-take m n (omega arith))

pub bits-take : (m n : ℕ) (va : Validity) → m ≤ n → encoded_bits m (sliced_validity va 0 m) ≡ take m (encoded_bits n va)
bits-take m n None h = true-take m n h
bits-take m n (Some bits) h = refl

true-both : (m n : ℕ) → replicate (m + n) true ≡ replicate m true ++ replicate n true
true-both zero n = let e : zero + n ≡ n = omega arith in ap (λ k. replicate k true) e
true-both (suc m) n = let e : suc m + n ≡ suc (m + n) = omega arith in ap (λ k. replicate k true) e ∙ ap (λ bs. true ∷ bs) (true-both m n)

pub bits-joined : (n m : ℕ) (va vb : Validity) → encoded_bits (n + m) (joined_validity va n vb m) ≡ encoded_bits n va ++ encoded_bits m vb
bits-joined n m None None = true-both n m
bits-joined n m None (Some bs) = refl
bits-joined n m (Some cs) None = refl
bits-joined n m (Some cs) (Some bs) = refl

true-all : (n i : ℕ) → get_or (replicate n true) i true ≡ true
true-all zero i = refl
true-all (suc n) zero = refl
true-all (suc n) (suc i) = true-all n i

pub bits-spelled : (n : ℕ) (va : Validity) (bits : List Bool) → encoded_bits n va ≡ bits → EncodesBits va bits
bits-spelled n None bits e = λ i l. ap (λ bs. get_or bs i true) (sym e) ∙ true-all n i
bits-spelled n (Some vs) bits e = e

pub fixed-joined : (n m k : ℕ) (va vb wa : Validity) (xs ys : List Bool) → encoded_bits n va ≡ xs → encoded_bits m vb ≡ ys → k ≡ n + m → wa ≡ joined_validity va n vb m → encoded_bits k wa ≡ xs ++ ys
fixed-joined n m k va vb wa xs ys e f q w = (λ i. encoded_bits (q i) (w i)) ∙ bits-joined n m va vb ∙ (λ i. e i ++ f i)

pub fixed-cut : (m n : ℕ) (va wa : Validity) (xs : List Bool) → encoded_bits n va ≡ xs → ValidityFits va n → m ≤ length xs → wa ≡ sliced_validity va 0 m → encoded_bits m wa ≡ take m xs
fixed-cut m n va wa xs e v l w =
    let c = bits-count n va v in
    ap (encoded_bits m) w ∙ bits-take m n va (omega (arith, c, ap length e)) ∙ ap (take m) e

-- a bound by the largest offset of a width
pub by-width : (n largest : ℕ) (large : Bool) → largest ≡ largest_offset large → n ≤ largest → n ≤ largest_offset large
by-width n largest large e l = omega (arith, e, l)

pub by-width-past : (n largest : ℕ) (large : Bool) → largest ≡ largest_offset large → largest < n → largest_offset large < n
by-width-past n largest large e l = omega (arith, e, l)

-- joined rows
pub rows-joined : (os ps : List ℕ) → 0 < length os → count_rows (joined os ps) ≡ count_rows os + count_rows ps
rows-joined os ps h =
    let m = map (λ n. last_of os + n) (drop 1 ps) in
    omega (arith, length-append os m, length-map (drop 1 ps) (λ n. last_of os + n), tail-count ps)

pub joined-fits : (va vb : Validity) (n m k : ℕ) → ValidityFits va n → ValidityFits vb m → k ≡ n + m → ValidityFits (joined_validity va n vb m) k
joined-fits None None n m k h j e = tt
joined-fits None (Some bs) n m k h j e = omega (arith, length-append (replicate n true) bs, replicated n, j, e)
joined-fits (Some bits) None n m k h j e = omega (arith, length-append bits (replicate m true), replicated m, h, e)
joined-fits (Some bits) (Some bs) n m k h j e = omega (arith, length-append bits bs, h, j, e)

pub joined-rows : (va vb : Validity) (n m k : ℕ) → IsOfRows va n → IsOfRows vb m → k ≡ n + m → IsOfRows (joined_validity va n vb m) k
joined-rows va vb n m k h j e = record {
  fits = joined-fits va vb n m k h.fits j.fits e;
  bare = λ z. (λ i. joined_validity (h.bare (omega (arith, e, z)) i) n (j.bare (omega (arith, e, z)) i) m);
}

-- no rows, with any validity
no-row : {A : Type 0} (xs : List A) → length xs ≡ 0 → xs ≡ []
no-row [] e = refl
no-row (x ∷ xs) e = absurd (omega arith)

ending-none : (va : Validity) → rows_ending va [] ≡ []
ending-none None = refl
ending-none (Some []) = refl
ending-none (Some (b ∷ bs)) = refl

pub row_list-same : (os : List ℕ) (va wa : Validity) → (0 < count_rows os → wa ≡ va) → (count_rows os ≡ 0 → wa ≡ None) → encoded_rows os wa ≡ encoded_rows os va
row_list-same os va wa s n = elim (cases_lt 0 (count_rows os)) [
  | inl lt ↦ ap (encoded_rows os) (s lt)
  | inr le ↦ let d = no-row (drop 1 os) (omega (arith, tail-count os, le)) in ap (rows_ending wa) d ∙ ending-none wa ∙ sym (ap (rows_ending va) d ∙ ending-none va)
]

-- an absent validity is returned as None
pub none_shown : {A B : Type 0} (f : A → B) (r : Option A) (va : Option B) → option_map f r ≡ va → va ≡ None → IsNone r
none_shown f None va e h = refl
none_shown f (Some x) va e h = absurd (let p : Some (f x) ≡ None = e ∙ h in cc)

-- the rows added by their lengths so far
pub so-far-end : (rs now : List Row) (ns : List (Option ℕ)) → now ≡ rs ++ rows_of_lengths (end_from 0 rs) ns → end_from 0 now ≡ end_from 0 rs + items_of_lengths ns
so-far-end rs now ns e = ap (end_from 0) e ∙ end_from-append 0 rs (rows_of_lengths (end_from 0 rs) ns) ∙ end_from-lengths (end_from 0 rs) ns

pub so-far-more : (rs now new : List Row) (ns ms : List (Option ℕ)) (x : Option ℕ) → now ≡ rs ++ rows_of_lengths (end_from 0 rs) ns → new ≡ now ++ rows_of_lengths (end_from 0 now) (x ∷ []) → ms ≡ ns ++ x ∷ []
    → new ≡ rs ++ rows_of_lengths (end_from 0 rs) ms
so-far-more rs now new ns ms x e f g =
    f
    ∙ (λ i. e i ++ rows_of_lengths (so-far-end rs now ns e i) (x ∷ []))
    ∙ append_assoc rs (rows_of_lengths (end_from 0 rs) ns) (rows_of_lengths (end_from 0 rs + items_of_lengths ns) (x ∷ []))
    ∙ ap (λ qs. rs ++ qs) (sym (lengths-more (end_from 0 rs) ns x))
    ∙ ap (λ qs. rs ++ rows_of_lengths (end_from 0 rs) qs) (sym g)

pub so-far-back : (rs now new : List Row) (ns : List (Option ℕ)) (n : ℕ) → now ≡ rs ++ rows_of_lengths (end_from 0 rs) ns → n ≡ length rs → new ≡ take n now → new ≡ rs
so-far-back rs now new ns n e f g = g ∙ (λ i. take (f i) (e i)) ∙ take-append_seam rs (rows_of_lengths (end_from 0 rs) ns)

pub so-far-past : (rs now : List Row) (ns : List (Option ℕ)) (k largest : ℕ) (e : Error) → now ≡ rs ++ rows_of_lengths (end_from 0 rs) (take k ns) → k < length ns
    → (e ≡ Memory alloc_error) ⊎ ((e ≡ Overflow) × (largest < end_from 0 now + items_of_lengths (get_or ns k None ∷ [])))
    → (e ≡ Memory alloc_error) ⊎ ((e ≡ Overflow) × (largest < end_from 0 rs + items_of_lengths ns))
so-far-past rs now ns k largest e f l (inl m) = inl m
so-far-past rs now ns k largest e f l (inr p) = inr (p.0, omega (arith, p.1, so-far-end rs now (take k ns) f, row_list-first k ns l))

-- a call that returned this error
pub err-of : {T : Type 0} (r : Result T Error) (x e : Error) → r ≡ Err x → x ≡ e → IsErrOf r e
err-of r x e h k = rw h (ap Err k)
