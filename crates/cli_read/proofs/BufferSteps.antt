-- Steps of comparing two inputs.
use Rattle.std.proofs.Common.{◌≡◌, ◌⊎◌, inl, inr, Bool, true, false, ℕ, ◌+◌, ◌^◌, ◌<◌, ◌≤◌, List, [], ◌∷◌, ◌++◌, length, take, drop, map, Option, Some, None, Result, Ok, Err, refl, sym, ap, subst, ◌∙◌, arith, append_assoc, append-nil, length-append, take-append-drop}
use Rattle.std.specs.Option.{option_map}
use Rattle.std.specs.List.{AllByRecursion}
use Rattle.std.proofs.lemmas.List.{drop-drop}
use Rattle.ipc_flatbuf.specs.declared.error.IpcReadError as formats
use Rattle.ipc_schema.specs.Schemas.{SchemaModel}
use Rattle.ipc.specs.Streams.{RecordBatchTree}
use Rattle.ipc.specs.SliceStreamReaders.{before}
use Rattle.nest_memory.specs.TypeTree.{FieldTree}
use Rattle.nest_model.specs.Fits.{Fits}
use Rattle.nest_model.specs.Layout.{Layout}
use Rattle.nest_array.specs.Seen.{layout_of}
use Rattle.cli_read.specs.Decoded.{Decoded, table_with}
use Rattle.cli_rows.specs.Difference.{AreEqualUpTo, IsDifference}
use Rattle.cli_rows.specs.Rows.{RowSlot, rows_of}
use Rattle.cli_rows.specs.Compared.{IsRowsError, batch_array, batch_arrays, table_rows}
use Rattle.cli_rows.specs.Tables.{TableTree}
use Rattle.cli_rows.specs.Output.{HasTable}
use Rattle.cli_rows.specs.declared.difference.Difference.TheVariants as differences
use Rattle.cli_rows.specs.declared.error.CliError.{CliError}
use Rattle.cli_rows.specs.declared.error.CliError.TheVariants.{Input, Read, Write, MismatchedColumns, IndexOutOfRange, Condition, UnknownName, Output, Memory}
use Rattle.cli_rows.specs.declared.error.BatchError.{BatchError}
use Rattle.cli_read.specs.Remaining.{FailsToOpen, ReturnsNext, StartsEmpty, IsOpened, IsReadErrorOf, Remaining, Advances, with_schema}
use Rattle.cli_read.specs.RowBuffers.{FailsRows, ReturnsRows, IsPosition, IsAfter, IsBufferState, HasBuffered, IsDifferenceAt, IsReached, IsRowBufferError, ComparesBuffers, BufferState, FailsAfterRows, IsStep, table_of_batches, advanced, prepended, buffered_rows}
use Rattle.cli_read.specs.declared.comparison.inputs.Comparison.TheVariants as Look
use Rattle.cli_read.specs.declared.comparison.inputs.Step.{Step}
use Rattle.cli_read.specs.declared.comparison.inputs.CompareError.{CompareError}
use Rattle.cli_read.specs.declared.comparison.buffer.RowBuffer.{RowBuffer}
use Rattle.cli_read.specs.Comparisons.{ComparesInputs, HaveTooManyRows, RowsBegin, DecidesDifference, IsBatchReadError, FailsIn, FailsInSecond, FindsDifference}
use Rattle.cli_read.specs.declared.comparison.inputs.CompareError.TheVariants.{First, Second, TooManyRows}
use Rattle.cli_read.proofs.Lists.{differ-behind, equal-behind}

abbrev Some_ : Type 0
Some_ = Result (List RecordBatchTree) formats.IpcReadError

none-before : (others : Some_) → others ≡ prepended [] others
none-before (Ok more) = refl
none-before (Err error) = refl

one-before : (bs : List RecordBatchTree) (b : RecordBatchTree) (others : Some_) → prepended bs (before (Some b) others) ≡ prepended (bs ++ b ∷ []) others
one-before bs b (Ok more) = ap (λ (l : List RecordBatchTree). Ok l) (sym (append_assoc bs (b ∷ []) more))
one-before bs b (Err error) = refl

pub behind-none : (t : Remaining) → t.first 0 ≡ Ok [] → IsAfter t 0 [] t
behind-none t none = record {
  first = λ m. let e : 0 + m ≡ m = omega arith in ap t.first e ∙ none-before (t.first m);
  whole = none-before t.whole;
  none = none;
}

pub behind-more : (t u v : Remaining) (k : ℕ) (bs : List RecordBatchTree) (b : RecordBatchTree) → IsAfter t k bs u → Advances u v (Some b) → IsAfter t (k + 1) (bs ++ b ∷ []) v
behind-more t u v k bs b h step = record {
  first = λ m.
      let e : k + 1 + m ≡ k + (m + 1) = omega arith in
      ap t.first e ∙ h.first (m + 1) ∙ ap (prepended bs) (step.1 m) ∙ one-before bs b (v.first m);
  whole = h.whole ∙ ap (prepended bs) step.2 ∙ one-before bs b v.whole;
  none = step.0;
}

pub behind-first : (t u : Remaining) (k : ℕ) (bs : List RecordBatchTree) → IsAfter t k bs u → t.first k ≡ Ok bs
behind-first t u k bs h =
    let e : k ≡ k + 0 = omega arith in
    ap t.first e ∙ h.first 0 ∙ ap (prepended bs) h.none ∙ ap (λ (l : List RecordBatchTree). Ok l) (append-nil bs)

pub behind-whole : (t u v : Remaining) (k : ℕ) (bs : List RecordBatchTree) → IsAfter t k bs u → Advances u v None → t.whole ≡ Ok bs
behind-whole t u v k bs h end = h.whole ∙ ap (prepended bs) end ∙ ap (λ (l : List RecordBatchTree). Ok l) (append-nil bs)

rows-more : (s : SchemaModel) (bs : List RecordBatchTree) (b : RecordBatchTree) → table_rows (table_of_batches s (bs ++ b ∷ [])) ≡ table_rows (table_of_batches s bs) ++ rows_of (batch_array s.fields b)
rows-more s [] b = append-nil (rows_of (batch_array s.fields b))
rows-more s (a ∷ bs) b =
    ap (λ rs. rows_of (batch_array s.fields a) ++ rs) (rows-more s bs b)
    ∙ sym (append_assoc (rows_of (batch_array s.fields a)) (table_rows (table_of_batches s bs)) (rows_of (batch_array s.fields b)))

pub fits-last : (fs : List FieldTree) (bs cs : List RecordBatchTree) → AllByRecursion Fits (map (batch_array fs) (bs ++ cs)) → AllByRecursion Fits (map (batch_array fs) cs)
fits-last fs [] cs h = h
fits-last fs (b ∷ bs) cs h = fits-last fs bs cs h.1

of-held : (s : SchemaModel) (error : formats.IpcReadError) (read : Some_) → table_with s read ≡ Err error → read ≡ Err error
of-held s error (Ok bs) e = absurd cc
of-held s error (Err other) e = grind (arith, e)

pub unfit : (s : SchemaModel) (bs : List RecordBatchTree) (read : Some_) → HasTable (table_with s read) (λ h. AllByRecursion Fits (batch_arrays h) → ⊥) → HasTable (table_with s (prepended bs read)) (λ h. AllByRecursion Fits (batch_arrays h) → ⊥)
unfit s bs (Ok cs) h = λ all. h (fits-last s.fields bs cs all)
unfit s bs (Err error) h = absurd h

failed : (error : CliError) (s : SchemaModel) (bs : List RecordBatchTree) (read : Some_) → IsBatchReadError error (table_with s read) → IsBatchReadError error (table_with s (prepended bs read))
failed Input s bs read h = tt
failed (Read error) s bs read h = λ real. ap (λ (r : Some_). table_with s (prepended bs r)) (of-held s error read (h real))
failed (Write why) s bs read h = h
failed MismatchedColumns s bs read h = unfit s bs read h
failed IndexOutOfRange s bs read h = h
failed (Condition why) s bs read h = h
failed (UnknownName i) s bs read h = h
failed Output s bs read h = h
failed Memory s bs read h = tt

pub behind-error : (error : CliError) (s : SchemaModel) (t u : Remaining) (k : ℕ) (bs : List RecordBatchTree) → IsAfter t k bs u → IsBatchReadError error (table_with s (u.first 1)) → IsBatchReadError error (table_with s (t.first (k + 1)))
behind-error error s t u k bs h f = subst (λ (r : Some_). IsBatchReadError error (table_with s r)) (sym (h.first 1)) (failed error s bs (u.first 1) f)

is-error : (error : CliError) (read : Result TableTree formats.IpcReadError) → IsRowsError error read → IsBatchReadError error read
is-error Input read h = tt
is-error (Read error) read h = h
is-error (Write why) read h = h
is-error MismatchedColumns read h = h
is-error IndexOutOfRange read h = h
is-error (Condition why) read h = h
is-error (UnknownName i) read h = h
is-error Output read h = h
is-error Memory read h = h

pub fails-alone : (error : CliError) (s : SchemaModel) (u v : Option Remaining) (b : RecordBatchTree) → ReturnsNext u v (Some b) → IsRowsError error (Ok (table_of_batches s (b ∷ []))) → FailsRows s error u
fails-alone error s None v b g h = tt
fails-alone error s (Some u) None b g h = absurd g
fails-alone error s (Some u) (Some v) b g h =
    let one : u.first 1 ≡ Ok (b ∷ []) = g.1 0 ∙ ap (before (Some b)) g.0 in
    is-error error (table_with s (u.first 1)) (subst (λ (r : Some_). IsRowsError error (table_with s r)) (sym one) h)

pub begun : (t : Option Remaining) (s : SchemaModel) → StartsEmpty t → BufferState t s [] false 0 [] t
begun None s fresh = tt
begun (Some t) s fresh = record { batches = []; at = behind-none t fresh; are_rows = refl }

pub begun-as : (t u : Option Remaining) (s : SchemaModel) (over : Bool) (k : ℕ) (rows : List RowSlot) → over ≡ false → k ≡ 0 → rows ≡ [] → u ≡ t → StartsEmpty t → BufferState t s [] over k rows u
begun-as t u s over k rows is first none same fresh =
    subst (λ (b : Bool). BufferState t s [] b k rows u) (sym is)
    (subst (λ (n : ℕ). BufferState t s [] false n rows u) (sym first)
    (subst (λ (l : List RowSlot). BufferState t s [] false 0 l u) (sym none) (subst (λ (v : Option Remaining). BufferState t s [] false 0 [] v) (sym same) (begun t s fresh))))

pub ended : (t : Option Remaining) (s : SchemaModel) (done : List RowSlot) (k : ℕ) (rows : List RowSlot) (u v : Option Remaining) → BufferState t s done false k rows u → ReturnsRows s u v None → BufferState t s done true k rows v
ended None s done k rows u v p g = tt
ended (Some t) s done k rows None v p g = absurd p.at
ended (Some t) s done k rows (Some u) None p g = absurd g
ended (Some t) s done k rows (Some u) (Some v) p g = record {
  batches = p.batches;
  at = (behind-first t u k p.batches p.at, behind-whole t u v k p.batches p.at g);
  are_rows = p.are_rows;
}

pub came : (t : Option Remaining) (s : SchemaModel) (done : List RowSlot) (k : ℕ) (rows : List RowSlot) (u v : Option Remaining) (a : Layout) → BufferState t s done false k rows u → rows ≡ [] → ReturnsRows s u v (Some a) → BufferState t s done false (k + 1) (rows_of a) v
came None s done k rows u v a p e g = tt
came (Some t) s done k rows None v a p e g = absurd p.at
came (Some t) s done k rows (Some u) None a p e g = absurd g
came (Some t) s done k rows (Some u) (Some v) a p e g = record {
  batches = p.batches ++ g.0 ∷ [];
  at = behind-more t u v k p.batches g.0 p.at g.2;
  are_rows =
      rows-more s p.batches g.0
      ∙ ap (λ rs. rs ++ rows_of (batch_array s.fields g.0)) (p.are_rows ∙ ap (λ rs. done ++ rs) e ∙ append-nil done)
      ∙ ap (λ (l : Layout). done ++ rows_of l) (sym g.1);
}

pub held-at : (s : SchemaModel) (bs : List RecordBatchTree) (read : Some_) (P : TableTree → Type 0) → read ≡ Ok bs → P (table_of_batches s bs) → HasTable (table_with s read) P
held-at s bs read P e p = subst (λ (r : Some_). HasTable (table_with s r) P) (sym e) p

pub stopped : (t : Option Remaining) (s : SchemaModel) (done : List RowSlot) (k : ℕ) (rows : List RowSlot) (u : Option Remaining) (error : CliError) → BufferState t s done false k rows u → rows ≡ [] → FailsRows s error u
    → IsRowBufferError t s done (record { batch = Some k; error = error })
stopped None s done k rows u error p e f = tt
stopped (Some t) s done k rows None error p e f = absurd p.at
stopped (Some t) s done k rows (Some u) error p e f = (
  behind-error error s t u k p.batches p.at f,
  held-at s p.batches (t.first k) (λ h. (h.schema ≡ s) × (table_rows h ≡ done)) (behind-first t u k p.batches p.at) (refl, p.are_rows ∙ ap (λ rs. done ++ rs) e ∙ append-nil done),
)

fails-so : (s : SchemaModel) (u : Option Remaining) → FailsRows s Input u
fails-so s None = tt
fails-so s (Some u) = tt

pub uncounted : (t : Option Remaining) (s : SchemaModel) (done : List RowSlot) (k : ℕ) (rows : List RowSlot) (u : Option Remaining) → BufferState t s done false k rows u → rows ≡ [] → IsRowBufferError t s done (record { batch = Some k; error = Input })
uncounted t s done k rows u p e = stopped t s done k rows u Input p e (fails-so s u)

pub passed-by : (t : Option Remaining) (s : SchemaModel) (done : List RowSlot) (over : Bool) (k : ℕ) (rows more : List RowSlot) (n : ℕ) (u : Option Remaining) → more ≡ take n rows → BufferState t s done over k rows u → BufferState t s (done ++ more) over k (drop n rows) u
passed-by None s done over k rows more n u e p = tt
passed-by (Some t) s done over k rows more n u e p = record {
  batches = p.batches;
  at = p.at;
  are_rows = p.are_rows ∙ ap (λ rs. done ++ rs) (sym (take-append-drop n rows)) ∙ sym (append_assoc done (take n rows) (drop n rows)) ∙ ap (λ rs. (done ++ rs) ++ drop n rows) (sym e);
}

pub side-first : (t : Remaining) (over : Bool) (k : ℕ) (bs : List RecordBatchTree) (u : Option Remaining) → IsPosition t over k bs u → t.first k ≡ Ok bs
side-first t true k bs u at = at.0
side-first t false k bs None at = absurd at
side-first t false k bs (Some u) at = behind-first t u k bs at

pub side-whole : (t : Remaining) (over : Bool) (k : ℕ) (bs : List RecordBatchTree) (u : Option Remaining) → over ≡ true → IsPosition t over k bs u → t.first k ≡ t.whole
side-whole t true k bs u e at = at.0 ∙ sym at.1
side-whole t false k bs u e at = absurd cc

both-held : (P : TableTree → TableTree → Type 0) (s : SchemaModel) (x y : Some_) (bs cs : List RecordBatchTree) → x ≡ Ok bs → y ≡ Ok cs → P (table_of_batches s bs) (table_of_batches s cs) → HasTable (table_with s x) (λ h. HasTable (table_with s y) (P h))
both-held P s x y bs cs e f p = held-at s bs x (λ h. HasTable (table_with s y) (P h)) e (held-at s cs y (P (table_of_batches s bs)) f p)

abbrev pub Settled : Bool → List RowSlot → Type 0
Settled over rows = (0 < length rows) ⊎ (over ≡ true)

over-where-none : (over : Bool) (rows : List RowSlot) → rows ≡ [] → Settled over rows → over ≡ true
over-where-none over rows e (inl some) = let none = ap length e in absurd (omega (arith, some, none))
over-where-none over rows e (inr is) = is

module _ (t u : Remaining) (s : SchemaModel) (done : List RowSlot) (over more : Bool) (i j : ℕ) (xs ys : List RowSlot) (v w : Option Remaining)
    (p : IsBufferState t s done over i xs v) (q : IsBufferState u s done more j ys w) where
  both : (P : TableTree → TableTree → Type 0) → P (table_of_batches s p.batches) (table_of_batches s q.batches) → HasTable ((with_schema s t).first i) (λ h. HasTable ((with_schema s u).first j) (P h))
  both P = both-held P s (t.first i) (u.first j) p.batches q.batches (side-first t over i p.batches v p.at) (side-first u more j q.batches w q.at)

  equal-at : xs ≡ [] → ys ≡ [] → Settled over xs → Settled more ys → FindsDifference (with_schema s t) (with_schema s u) None
  equal-at ex ey sx sy = (
    i,
    j,
    both (λ h g. (h.schema ≡ g.schema) × (table_rows h ≡ table_rows g)) (refl, p.are_rows ∙ ap (λ rs. done ++ rs) (ex ∙ sym ey) ∙ sym q.are_rows),
    ap (table_with s) (side-whole t over i p.batches v (over-where-none over xs ex sx) p.at),
    ap (table_with s) (side-whole u more j q.batches w (over-where-none more ys ey sy) q.at),
  )

  differ-at : (k : ℕ) → IsDifference xs ys (Some k) → HasTable ((with_schema s t).first i) (λ h. HasTable ((with_schema s u).first j) (λ g. (h.schema ≡ g.schema) × IsDifference (table_rows h) (table_rows g) (Some (length done + k))))
  differ-at k d =
      both (λ h g. (h.schema ≡ g.schema) × IsDifference (table_rows h) (table_rows g) (Some (length done + k)))
      (refl, subst (λ rs. IsDifference rs (table_rows (table_of_batches s q.batches)) (Some (length done + k))) (sym p.are_rows) (subst (λ rs. IsDifference (done ++ xs) rs (Some (length done + k))) (sym q.are_rows) (differ-behind done xs ys k d)))

  uncounted-at : (k : ℕ) → 2 ^ 64 ≤ length done + k → k ≤ length xs → k ≤ length ys → take k xs ≡ take k ys → HaveTooManyRows (with_schema s t) (with_schema s u)
  uncounted-at k many hx hy e = (
    i,
    j,
    both (λ h g. (h.schema ≡ g.schema) × AreEqualUpTo (2 ^ 64) (table_rows h) (table_rows g))
        (refl, subst (λ rs. AreEqualUpTo (2 ^ 64) rs (table_rows (table_of_batches s q.batches))) (sym p.are_rows) (subst (λ rs. AreEqualUpTo (2 ^ 64) (done ++ xs) rs) (sym q.are_rows) (equal-behind (2 ^ 64) k done xs ys many hx hy e))),
  )

enough-at : (t : Remaining) (s : SchemaModel) (done : List RowSlot) (over : Bool) (i : ℕ) (xs : List RowSlot) (v : Option Remaining) (p : IsBufferState t s done over i xs v) (k : ℕ) → IsReached k xs → Settled over xs → DecidesDifference (Some (differences.Row (length done + k))) (with_schema s t) i
enough-at t s done over i xs v p k (inl lt) settled =
    let a = ap length p.are_rows ∙ length-append done xs in
    inr (held-at s p.batches (t.first i) (λ h. length done + k < length (table_rows h)) (side-first t over i p.batches v p.at) (omega (arith, a, lt)))
enough-at t s done over i xs v p k (inr none) settled = inl (ap (table_with s) (side-whole t over i p.batches v (over-where-none over xs none.1 settled) p.at))

reached : (k : ℕ) (xs : List RowSlot) → IsReached k xs → k ≤ length xs
reached k xs (inl lt) = omega (arith, lt)
reached k xs (inr none) = omega (arith, none.0)

module _ (s : SchemaModel) (done : List RowSlot) (over more : Bool) (i j : ℕ) (xs ys : List RowSlot) where
  pub tell-none : (t u v w : Option Remaining) → BufferState t s done over i xs v → BufferState u s done more j ys w → xs ≡ [] → ys ≡ [] → Settled over xs → Settled more ys → ComparesInputs (option_map (with_schema s) t) (option_map (with_schema s) u) (Ok None)
  tell-none None u v w p q ex ey sx sy = tt
  tell-none (Some t) None v w p q ex ey sx sy = tt
  tell-none (Some t) (Some u) v w p q ex ey sx sy = equal-at t u s done over more i j xs ys v w p q ex ey sx sy

  pub tell-row : (t u v w : Option Remaining) (k place : ℕ) → BufferState t s done over i xs v → BufferState u s done more j ys w → length done + k ≡ place → IsDifference xs ys (Some k) → IsReached k xs → IsReached k ys → Settled over xs → Settled more ys
      → ComparesInputs (option_map (with_schema s) t) (option_map (with_schema s) u) (Ok (Some (differences.Row place)))
  tell-row None u v w k place p q e d rx ry sx sy = tt
  tell-row (Some t) None v w k place p q e d rx ry sx sy = tt
  tell-row (Some t) (Some u) v w k place p q e d rx ry sx sy =
      subst (λ (n : ℕ). FindsDifference (with_schema s t) (with_schema s u) (Some (differences.Row n))) e (
        i,
        j,
        differ-at t u s done over more i j xs ys v w p q k d,
        enough-at t s done over i xs v p k rx sx,
        enough-at u s done more j ys w q k ry sy,
      )

  pub tell-many : (t u v w : Option Remaining) (k : ℕ) → BufferState t s done over i xs v → BufferState u s done more j ys w → 2 ^ 64 ≤ length done + k → take k xs ≡ take k ys → k ≤ length xs → k ≤ length ys
      → ComparesInputs (option_map (with_schema s) t) (option_map (with_schema s) u) (Err TooManyRows)
  tell-many None u v w k p q many e hx hy = tt
  tell-many (Some t) None v w k p q many e hx hy = tt
  tell-many (Some t) (Some u) v w k p q many e hx hy = uncounted-at t u s done over more i j xs ys v w p q k many hx hy e

begins-at : (t u : Remaining) (s : SchemaModel) (done : List RowSlot) (more : Bool) (k j : ℕ) (ys : List RowSlot) (w : Option Remaining) → HasTable ((with_schema s t).first k) (λ h. (h.schema ≡ s) × (table_rows h ≡ done)) → IsBufferState u s done more j ys w
    → RowsBegin ((with_schema s t).first k) ((with_schema s u).first j)
begins-at t u s done more k j ys w h q = by ((with_schema s t).first k) h
  where
    by : (read : Result TableTree formats.IpcReadError) → HasTable read (λ h. (h.schema ≡ s) × (table_rows h ≡ done)) → RowsBegin read ((with_schema s u).first j)
    by (Ok h) is = held-at s q.batches (u.first j) (λ g. (h.schema ≡ g.schema) × ((rest : List RowSlot) × (table_rows g ≡ table_rows h ++ rest))) (side-first u more j q.batches w q.at) (is.0, (ys, q.are_rows ∙ ap (λ rs. rs ++ ys) (sym is.1)))
    by (Err error) is = absurd is

stops-at : (t u : Remaining) (s : SchemaModel) (done : List RowSlot) (more : Bool) (j : ℕ) (ys : List RowSlot) (w : Option Remaining) (batch : Option ℕ) (error : CliError) → FailsAfterRows t s done batch error → IsBufferState u s done more j ys w → FailsIn batch error (with_schema s t) (with_schema s u)
stops-at t u s done more j ys w None error h q = absurd h
stops-at t u s done more j ys w (Some k) error h q = (h.0, inr (j, begins-at t u s done more k j ys w h.1 q))

pub stop-first : (t u : Option Remaining) (s : SchemaModel) (done : List RowSlot) (more : Bool) (j : ℕ) (ys : List RowSlot) (w : Option Remaining) (stop : BatchError) → IsRowBufferError t s done stop → BufferState u s done more j ys w → ComparesInputs (option_map (with_schema s) t) (option_map (with_schema s) u) (Err (First stop))
stop-first None u s done more j ys w stop h q = tt
stop-first (Some t) None s done more j ys w stop h q = tt
stop-first (Some t) (Some u) s done more j ys w stop h q = stops-at t u s done more j ys w stop.batch stop.error h q

stops-second : (t u : Remaining) (s : SchemaModel) (done : List RowSlot) (over : Bool) (i : ℕ) (xs : List RowSlot) (v : Option Remaining) (batch : Option ℕ) (error : CliError) → FailsAfterRows u s done batch error → IsBufferState t s done over i xs v → FailsInSecond batch error (with_schema s t) (with_schema s u)
stops-second t u s done over i xs v None error h p = absurd h
stops-second t u s done over i xs v (Some k) error h p = stops-at u t s done over i xs v (Some k) error h p

pub stop-second : (t u : Option Remaining) (s : SchemaModel) (done : List RowSlot) (over : Bool) (i : ℕ) (xs : List RowSlot) (v : Option Remaining) (stop : BatchError) → BufferState t s done over i xs v → IsRowBufferError u s done stop → ComparesInputs (option_map (with_schema s) t) (option_map (with_schema s) u) (Err (Second stop))
stop-second None u s done over i xs v stop p h = tt
stop-second (Some t) None s done over i xs v stop p h = tt
stop-second (Some t) (Some u) s done over i xs v stop p h = stops-second t u s done over i xs v stop.batch stop.error h p

pub tell-schema : (t u : Option Remaining) (s r : SchemaModel) → StartsEmpty t → StartsEmpty u → (s ≡ r → ⊥) → ComparesInputs (option_map (with_schema s) t) (option_map (with_schema r) u) (Ok (Some differences.Schema))
tell-schema None u s r ft fu other = tt
tell-schema (Some t) None s r ft fu other = tt
tell-schema (Some t) (Some u) s r ft fu other = (
  0,
  0,
  held-at s [] (t.first 0) (λ h. HasTable ((with_schema r u).first 0) (λ g. h.schema ≡ g.schema → ⊥)) ft (held-at r [] (u.first 0) (λ g. s ≡ g.schema → ⊥) fu other),
  tt,
  tt,
)

pub not-over : (t : Option Remaining) (s : SchemaModel) (done : List RowSlot) (over : Bool) (k : ℕ) (rows : List RowSlot) (u : Option Remaining) → over ≡ false → BufferState t s done over k rows u → BufferState t s done false k rows u
not-over t s done over k rows u e p = subst (λ (b : Bool). BufferState t s done b k rows u) e p

pub under-it : (t : Option Remaining) (r s : SchemaModel) (done : List RowSlot) (over more : Bool) (k j : ℕ) (rows others : List RowSlot) (u v : Option Remaining) → r ≡ s
    → ((t : Option Remaining) (done : List RowSlot) → BufferState t r done over k rows u → BufferState t r done more j others v) → BufferState t s done over k rows u → BufferState t s done more j others v
under-it t r s done over more k j rows others u v e f p = subst (λ (z : SchemaModel). BufferState t z done over k rows u → BufferState t z done more j others v) e (f t done) p

pub stops-it : (t : Option Remaining) (r s : SchemaModel) (done : List RowSlot) (over : Bool) (k : ℕ) (rows : List RowSlot) (u : Option Remaining) (stop : BatchError) → r ≡ s
    → ((t : Option Remaining) (done : List RowSlot) → BufferState t r done over k rows u → IsRowBufferError t r done stop) → BufferState t s done over k rows u → IsRowBufferError t s done stop
stops-it t r s done over k rows u stop e f p = subst (λ (z : SchemaModel). BufferState t z done over k rows u → IsRowBufferError t z done stop) e (f t done) p

pub passed-so : {R : Type 0} (t : Option Remaining) (s : SchemaModel) (done more : List RowSlot) (n : ℕ) (u : RowBuffer R → Option Remaining) (p q : RowBuffer R) → u (advanced p n) ≡ u p → q ≡ advanced p n → more ≡ take n (buffered_rows p) → HasBuffered t s done (u p) p
    → HasBuffered t s (done ++ more) (u q) q
passed-so t s done more n u p q same is e h =
    subst (λ (z : RowBuffer _). HasBuffered t s (done ++ more) (u z) z) (sym is)
    (subst (λ (v : Option Remaining). HasBuffered t s (done ++ more) v (advanced p n)) (sym same)
    (subst (λ (rows : List RowSlot). BufferState t s (done ++ more) p.is_over p.read rows (u p)) (drop-drop n p.from (rows_of (layout_of p.rows))) (passed-by t s done p.is_over p.read (buffered_rows p) more n (u p) e h)))

pub tell : (s : SchemaModel) (done : List RowSlot) (over more : Bool) (i j : ℕ) (xs ys : List RowSlot) (t u v w : Option Remaining) (Next : Type 0) (k : Option ℕ) (rows : ℕ) (result : Result Step CompareError) → length done ≡ rows → ComparesBuffers xs ys (Look.Decided k) → IsDifferenceAt rows k result
    → Settled over xs → Settled more ys → BufferState t s done over i xs v → BufferState u s done more j ys w → IsStep t u s result Next
tell s done over more i j xs ys t u v w Next None rows result e looks place sx sy p q =
    subst (λ (r : Result Step CompareError). IsStep t u s r Next) (sym place) (tell-none s done over more i j xs ys t u v w p q looks.0 looks.1 sx sy)
tell s done over more i j xs ys t u v w Next (Some k) rows result e looks (inl place) sx sy p q =
    subst (λ (r : Result Step CompareError). IsStep t u s r Next) (sym place.1) (tell-row s done over more i j xs ys t u v w k (rows + k) p q (ap (λ n. n + k) e) looks.0 looks.1 looks.2 sx sy)
tell s done over more i j xs ys t u v w Next (Some k) rows result e looks (inr place) sx sy p q =
    subst (λ (r : Result Step CompareError). IsStep t u s r Next) (sym place.1)
    (tell-many s done over more i j xs ys t u v w k p q (subst (λ n. 2 ^ 64 ≤ n + k) (sym e) place.0) looks.0.0 (reached k xs looks.1) (reached k ys looks.2))

pub came-as : (t : Option Remaining) (s : SchemaModel) (done : List RowSlot) (over : Bool) (k j : ℕ) (rows : List RowSlot) (u v : Option Remaining) (a b : Layout) → over ≡ false → j ≡ k + 1 → b ≡ a → BufferState t s done over k rows u → rows ≡ [] → ReturnsRows s u v (Some a)
    → BufferState t s done over j (rows_of b) v
came-as t s done over k j rows u v a b is next same p none gave =
    subst (λ (x : Bool). BufferState t s done x j (rows_of b) v) (sym is)
    (subst (λ (n : ℕ). BufferState t s done false n (rows_of b) v) (sym next) (subst (λ (l : Layout). BufferState t s done false (k + 1) (rows_of l) v) (sym same) (came t s done k rows u v a (not-over t s done over k rows u is p) none gave)))

pub why-error : (error : CliError) (read : Result TableTree formats.IpcReadError) → IsReadErrorOf error read → IsBatchReadError error read
why-error Input read h = tt
why-error (Read error) read h = h
why-error (Write why) read h = h
why-error MismatchedColumns read h = absurd h
why-error IndexOutOfRange read h = h
why-error (Condition why) read h = h
why-error (UnknownName i) read h = h
why-error Output read h = h
why-error Memory read h = tt

pub second-unopened : (x y : Option Decoded) (s : SchemaModel) (l : Option Remaining) (error : CliError) → IsOpened x s l → StartsEmpty l → FailsToOpen error y → ComparesInputs x y (Err (Second (record { batch = None; error = error })))
second-unopened None y s l error o f e = tt
second-unopened (Some x) None s l error o f e = tt
second-unopened (Some x) (Some y) s None error o f e = absurd o
second-unopened (Some x) (Some y) s (Some l) error o f e = (
  subst (λ (z : Decoded). HasTable (z.first 0) (λ h. Unit {0})) (sym o) (held-at s [] (l.first 0) (λ h. Unit {0}) f tt),
  why-error error (y.first 0) e,
)
