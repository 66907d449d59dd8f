-- Differences of the first record batches and of all.
use Rattle.std.proofs.Common.{◌≡◌, ◌⊎◌, inl, inr, ℕ, ◌<◌, List, [], ◌∷◌, ◌++◌, length, take, drop, Option, Some, None, Result, Ok, refl, sym, ap, subst, ◌∙◌, arith, append_assoc, length-append, take-append-drop}
use Rattle.ipc_flatbuf.specs.declared.error.IpcReadError.{IpcReadError}
use Rattle.ipc_schema.specs.Projections.{ProjectionModel}
use Rattle.ipc_schema.specs.Schemas.{SchemaModel}
use Rattle.ipc.specs.Streams.{RecordBatchTree}
use Rattle.cli_read.specs.Decoded.{Decoded}
use Rattle.cli_read.proofs.FirstLaws.{AreFirstHeld, in-file, in-stream}
use Rattle.cli_rows.specs.Difference.{IsDifference}
use Rattle.cli_rows.specs.Rows.{RowSlot, rows_of}
use Rattle.cli_rows.specs.Compared.{IsTableDifference, batch_array, table_rows}
use Rattle.cli_rows.specs.Tables.{TableTree}
use Rattle.cli_rows.specs.Output.{HasTable}
use Rattle.cli_rows.specs.declared.difference.Difference.{Difference}
use Rattle.cli_rows.specs.declared.difference.Difference.TheVariants as differences
use Rattle.cli_read.proofs.Lists.{IsRest, differ-whole}
use Rattle.cli_read.specs.Inputs.{IsDecodedFrom}
use Rattle.cli_read.specs.RowBuffers.{table_of_batches}
use Rattle.cli_read.specs.Comparisons.{FindsDifference}

abbrev Read : Type 0
Read = Result TableTree IpcReadError

rows-both : (s : SchemaModel) (bs cs : List RecordBatchTree) → table_rows (table_of_batches s (bs ++ cs)) ≡ table_rows (table_of_batches s bs) ++ table_rows (table_of_batches s cs)
rows-both s [] cs = refl
rows-both s (b ∷ bs) cs =
    ap (λ rs. rows_of (batch_array s.fields b) ++ rs) (rows-both s bs cs)
    ∙ sym (append_assoc (rows_of (batch_array s.fields b)) (table_rows (table_of_batches s bs)) (table_rows (table_of_batches s cs)))

rows-split : (h : TableTree) (k : ℕ) → table_rows h ≡ table_rows (table_of_batches h.schema (take k h.batches)) ++ table_rows (table_of_batches h.schema (drop k h.batches))
rows-split h k = ap (λ (bs : List RecordBatchTree). table_rows (table_of_batches h.schema bs)) (sym (take-append-drop k h.batches)) ∙ rows-both h.schema (take k h.batches) (drop k h.batches)

first-held : (k : ℕ) (first whole : Read) (h : TableTree) (P : TableTree → Type 0) → AreFirstHeld k first whole → whole ≡ Ok h → HasTable first P → P (table_of_batches h.schema (take k h.batches))
first-held k first whole h P are is has = subst (λ (r : Read). HasTable r P) (are.some h is) has

all-first : (k : ℕ) (first whole : Read) (h : TableTree) → AreFirstHeld k first whole → whole ≡ Ok h → first ≡ whole → table_of_batches h.schema (take k h.batches) ≡ h
all-first k first whole h are is same = let e = sym (are.some h is) ∙ same ∙ is in grind (arith, e)

both-held : (i j : ℕ) (x xs y ys : Read) (h g : TableTree) (P : TableTree → TableTree → Type 0) → AreFirstHeld i x xs → AreFirstHeld j y ys → xs ≡ Ok h → ys ≡ Ok g → HasTable x (λ a. HasTable y (P a))
    → P (table_of_batches h.schema (take i h.batches)) (table_of_batches g.schema (take j g.batches))
both-held i j x xs y ys h g P ax ay ex ey has = first-held j y ys g (P (table_of_batches h.schema (take i h.batches))) ay ey (first-held i x xs h (λ a. HasTable y (P a)) ax ex has)

rest-of : (k row : ℕ) (first whole : Read) (h : TableTree) → AreFirstHeld k first whole → whole ≡ Ok h → (first ≡ whole) ⊎ HasTable first (λ a. row < length (table_rows a))
    → IsRest row (table_rows (table_of_batches h.schema (take k h.batches))) (table_rows (table_of_batches h.schema (drop k h.batches)))
rest-of k row first whole h are is (inr has) = inl (first-held k first whole h (λ a. row < length (table_rows a)) are is has)
rest-of k row first whole h are is (inl same) = inr (by (ap (λ (x : TableTree). length (table_rows x)) (all-first k first whole h are is same)))
  where
    by : length (table_rows (table_of_batches h.schema (take k h.batches))) ≡ length (table_rows h) → table_rows (table_of_batches h.schema (drop k h.batches)) ≡ []
    by e =
        let a = ap length (rows-split h k) in
        let b = length-append (table_rows (table_of_batches h.schema (take k h.batches))) (table_rows (table_of_batches h.schema (drop k h.batches))) in
        none (table_rows (table_of_batches h.schema (drop k h.batches))) (omega (arith, a, b, e))
      where
        none : (l : List RowSlot) → length l ≡ 0 → l ≡ []
        none [] z = refl
        none (x ∷ l) z = absurd (omega (arith, z))

pub told-of-all : (s t : Decoded) (h g : TableTree) → ((k : ℕ) → AreFirstHeld k (s.first k) s.whole) → ((k : ℕ) → AreFirstHeld k (t.first k) t.whole) → s.whole ≡ Ok h → t.whole ≡ Ok g → (d : Option Difference) → FindsDifference s t d → IsTableDifference h g d
told-of-all s t h g fs ft eh eg None (i, j, same, all, others) =
    let a = all-first i (s.first i) s.whole h (fs i) eh all in
    let b = all-first j (t.first j) t.whole g (ft j) eg others in
    let is = both-held i j (s.first i) s.whole (t.first j) t.whole h g (λ x y. (x.schema ≡ y.schema) × (table_rows x ≡ table_rows y)) (fs i) (ft j) eh eg same in
    (is.0, ap table_rows (sym a) ∙ is.1 ∙ ap table_rows b)
told-of-all s t h g fs ft eh eg (Some differences.Schema) (i, j, other, x, y) =
    both-held i j (s.first i) s.whole (t.first j) t.whole h g (λ x y. x.schema ≡ y.schema → ⊥) (fs i) (ft j) eh eg other
told-of-all s t h g fs ft eh eg (Some (differences.Row k)) (i, j, differs, some, others) =
    let is = both-held i j (s.first i) s.whole (t.first j) t.whole h g (λ x y. (x.schema ≡ y.schema) × IsDifference (table_rows x) (table_rows y) (Some k)) (fs i) (ft j) eh eg differs in
    let d =
    differ-whole k (table_rows (table_of_batches h.schema (take i h.batches))) (table_rows (table_of_batches g.schema (take j g.batches))) (table_rows (table_of_batches h.schema (drop i h.batches))) (table_rows (table_of_batches g.schema (drop j g.batches)))
    (rest-of i k (s.first i) s.whole h (fs i) eh some) (rest-of j k (t.first j) t.whole g (ft j) eg others) is.1 in
    (is.0, subst (λ rs. IsDifference rs (table_rows g) (Some k)) (sym (rows-split h i)) (subst (λ rs. IsDifference (table_rows (table_of_batches h.schema (take i h.batches)) ++ table_rows (table_of_batches h.schema (drop i h.batches))) rs (Some k)) (sym (rows-split g j)) d))

pub are-first : (picks : ProjectionModel) (bytes : List ℕ) (s : Decoded) → IsDecodedFrom picks bytes s → (k : ℕ) → AreFirstHeld k (s.first k) s.whole
are-first picks bytes s (inl e) k = subst (λ (x : Decoded). AreFirstHeld k (x.first k) x.whole) (sym e) (in-stream picks bytes k)
are-first picks bytes s (inr e) k = subst (λ (x : Decoded). AreFirstHeld k (x.first k) x.whole) (sym e) (in-file picks bytes k)
