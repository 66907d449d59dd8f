-- Steps of taking rows by index.
use Rattle.std.proofs.Common.{◌≡◌, ◌⊎◌, inl, inr, ℕ, ◌+◌, ◌-◌, ◌^◌, ◌<◌, ◌≤◌, true, false, List, [], ◌++◌, length, take, drop, get_or, map, Option, Some, None, Result, Ok, Err, refl, sym, ap, ◌∙◌, subst, arith, append-nil, length-append, length-drop}
use Rattle.std.specs.Prelude.{IfOk}
use Rattle.std.specs.List.{flat_map}
use Rattle.std.specs.List.Sorted.{IsNonDecreasing, IsPermutation}
use Rattle.std.specs.Option.{option_map}
use Rattle.std.proofs.lemmas.List.{drop_all, get_or-drop, map-append, take_all}
use Rattle.std.proofs.lemmas.List.Concat.{flat_map-append}
use Rattle.ipc_flatbuf.specs.declared.error.IpcReadError as formats
use Rattle.ipc_schema.specs.Schemas.{SchemaModel}
use Rattle.nest_memory.specs.TypeTree.{FieldTree}
use Rattle.nest_model.specs.Layout.{Layout}
use Rattle.nest_array.specs.Seen.{layout_of}
use Rattle.nest_array.specs.declared.any.AnyArray.{AnyArray}
use Rattle.cli_read.specs.Decoded.{Decoded, table_with}
use Rattle.cli_rows.specs.declared.error.BatchError.{BatchError}
use Rattle.cli_rows.specs.Selection.{selected_rows}
use Rattle.cli_rows.specs.Rows.{RowSlot, rows_of}
use Rattle.cli_read.specs.Remaining.{FailsToOpen, StartsEmpty, Remaining, with_schema}
use Rattle.cli_read.specs.RowBuffers.{FailsRows, ReturnsRows, BufferState, FailsAfterRows}
use Rattle.cli_read.proofs.BufferSteps.{begun, came, ended, held-at, passed-by, side-first, side-whole, stopped}
use Rattle.cli_rows.specs.Compared.{table_rows}
use Rattle.cli_rows.specs.Tables.{TableTree}
use Rattle.cli_rows.specs.Output.{HasTable}
use Rattle.cli_rows.specs.SelectedTables.{AreRowsOf, IsSelectedFrom, IsRowOf}
use Rattle.cli_rows.specs.declared.error.CliError.{CliError}
use Rattle.cli_rows.specs.declared.error.CliError.TheVariants as causes
use Rattle.cli_rows.proofs.SelectedBatches.{both-all, selected-each}
use Rattle.cli_args.specs.Requests.{indices}
use Rattle.cli_read.specs.Indices.{AreIndicesInBatch, AreSortedFrom}
use Rattle.cli_read.specs.Takes.{LacksRow, IsTakeError, Takes, FailsToTake}
use Rattle.cli_read.specs.TakeStates.{AreTaken, HasMoreIndices, IsTakeEnd, IsTakeState, IsFinishError, IsTakeStateError, HasTakenFrom}
use Rattle.cli_read.specs.declared.by_index.rows.TakeState.{TakeState}
use Rattle.cli_read.proofs.IndexedRows.{none-at, none-shuffled, one-more}

pub none-taken : (fs : List FieldTree) (wanted : List ℕ) → IsNonDecreasing wanted → AreTaken fs wanted [] 0 0 []
none-taken fs wanted up = record {
  rise = up;
  count = omega arith;
  within = tt;
  are = refl;
  each = tt;
  rest = λ h. (refl, omega arith);
}

rise-behind : (wanted : List ℕ) (next : ℕ) → IsNonDecreasing wanted → IsNonDecreasing (drop next wanted)
rise-behind wanted next up i j d le lt =
    let long = length-drop next wanted in
    let low = get_or-drop next wanted i d in
    let high = get_or-drop next wanted j d in
    let rises = up (next + i) (next + j) d (omega (arith, le)) (omega (arith, lt, long)) in
    omega (arith, low, high, rises)

pub all-behind : (n : ℕ) (wanted : List ℕ) → take (length wanted - n) (drop n wanted) ≡ drop n wanted
all-behind n wanted = let long = length-drop n wanted in take_all (length wanted - n) (drop n wanted) (omega (arith, long))

pub taken-more : (fs : List FieldTree) (wanted : List ℕ) (rows : List RowSlot) (next passed n : ℕ) (found : List ℕ) (more taken ws : List RowSlot) (later : ℕ) → AreTaken fs wanted rows next passed taken → next < length wanted → n ≡ length more
    → (AreSortedFrom passed (drop next wanted) → AreIndicesInBatch (drop next wanted) passed n found) → selected_rows (indices found) more ≡ Some ws → AreRowsOf fs more → ((i : ℕ) → get_or (drop next wanted) i 0 < 2 ^ 64)
    → (passed + n < 2 ^ 64 → later ≡ passed + n) → AreTaken fs wanted (rows ++ more) (next + length found) later (taken ++ ws)
taken-more fs wanted rows next passed n found more taken ws later p lt is w some each fits sum =
    let rest = p.rest lt in
    let zero : next + 0 ≡ next = omega arith in
    let first : get_or (drop next wanted) 0 0 ≡ get_or wanted next 0 = get_or-drop next wanted 0 0 ∙ ap (λ i. get_or wanted i 0) zero in
    let within = w (rise-behind wanted next p.rise, λ h. omega (arith, rest.0, rest.1, first)) in
    let m = one-more rows more wanted next passed n found ws p.count p.within rest.0 is within some in
    let both = length-append rows more in
    record {
      rise = p.rise;
      count = m.count;
      within = m.within;
      are = ap (λ zs. zs ++ ws) p.are ∙ m.are;
      each = both-all (IsRowOf fs) taken ws p.each (selected-each fs (indices found) more ws some each);
      rest = λ h.
          let behind = m.rest h in
          let bound = fits (length found) in
          let here = get_or-drop next wanted (length found) 0 in
          let same = sum (omega (arith, behind, bound, here, both, rest.0, is)) in
          (omega (arith, same, both, rest.0, is), behind);
    }

pub rows-behind : (old new more : List AnyArray) → new ≡ old ++ more → flat_map rows_of (map layout_of new) ≡ flat_map rows_of (map layout_of old) ++ flat_map rows_of (map layout_of more)
rows-behind old new more e = ap (λ as_. flat_map rows_of (map layout_of as_)) e ∙ ap (flat_map rows_of) (map-append layout_of old more) ∙ flat_map-append rows_of (map layout_of old) (map layout_of more)

pub if-ok : {A E : Type 0} (r : Result A E) (P Q : A → Type 0) → ((x : A) → P x → Q x) → IfOk r P → IfOk r Q
if-ok (Ok x) P Q f p = f x p
if-ok (Err e) P Q f p = p

pub no-memory : (s : SchemaModel) (u : Option Remaining) → FailsRows s causes.Memory u
no-memory s None = tt
no-memory s (Some u) = tt

pub no-input : (s : SchemaModel) (u : Option Remaining) → FailsRows s causes.Input u
no-input s None = tt
no-input s (Some u) = tt

came-more : (t : Option Remaining) (s : SchemaModel) (rows : List RowSlot) (k : ℕ) (u v : Option Remaining) (a : Layout) → BufferState t s rows false k [] u → ReturnsRows s u v (Some a) → BufferState t s (rows ++ rows_of a) false (k + 1) [] v
came-more t s rows k u v a p g =
    subst (λ (rs : List RowSlot). BufferState t s (rows ++ rows_of a) false (k + 1) rs v) (drop_all (length (rows_of a)) (rows_of a) (omega arith))
    (passed-by t s rows false (k + 1) (rows_of a) (rows_of a) (length (rows_of a)) v (sym (take_all (length (rows_of a)) (rows_of a) (omega arith))) (came t s rows k [] u v a p refl g))

pub turn-on : (t : Option Remaining) (s : SchemaModel) (k : ℕ) (u v : Option Remaining) (a : Layout) (old new : TakeState) → ReturnsRows s u v (Some a) → AreRowsOf s.fields (rows_of a)
    → ((fs : List FieldTree) (rows : List RowSlot) → AreRowsOf fs (rows_of a) → HasTakenFrom fs rows old → HasTakenFrom fs (rows ++ rows_of a) new) → IsTakeState t s false k u old → IsTakeState t s false (k + 1) v new
turn-on t s k u v a old new g each took p = (p.0 ++ rows_of a, came-more t s p.0 k u v a p.1 g, took s.fields p.0 each p.2)

pub turn-over : (t : Option Remaining) (s : SchemaModel) (k : ℕ) (u v : Option Remaining) (state : TakeState) → ReturnsRows s u v None → IsTakeState t s false k u state → IsTakeState t s true k v state
turn-over t s k u v state g p = (p.0, ended t s p.0 k [] u v p.1 g, p.2)

pub turn-fails : (t : Option Remaining) (s : SchemaModel) (k : ℕ) (u : Option Remaining) (state : TakeState) (error : CliError) → HasMoreIndices state → FailsRows s error u → IsTakeState t s false k u state
    → IsTakeStateError t s state.wanted.items (record { batch = Some k; error = error })
turn-fails t s k u state error more f p = (p.0, stopped t s p.0 k [] u error p.1 refl f, none-at p.0 state.wanted.items state.next more (p.2.rest more).1)

has-held : (read : Result TableTree formats.IpcReadError) (P Q : TableTree → Type 0) → ((h : TableTree) → P h → Q h) → HasTable read P → HasTable read Q
has-held (Ok h) P Q f p = f h p
has-held (Err error) P Q f p = p

pub takes : (wanted : List ℕ) (t : Option Remaining) (s : SchemaModel) (state : TakeState) (held : TableTree) → IsTakeEnd t s state → held.schema ≡ s → ((rows : List RowSlot) → HasTakenFrom s.fields rows state → selected_rows (indices wanted) rows ≡ Some (table_rows held))
    → Takes wanted (option_map (with_schema s) t) held
takes wanted None s state held has schema rows = tt
takes wanted (Some t) s state held has schema rows =
    let p = has.3 in
    let bs = p.1.batches in
    (has.1, held-at s bs (t.first has.1) (λ h. IsSelectedFrom (indices wanted) h held) (side-first t has.0 has.1 bs has.2 p.1.at) (schema, ap (selected_rows (indices wanted)) (p.1.are_rows ∙ append-nil p.0) ∙ rows p.0 p.2))

pub lacks-place : (wanted : List ℕ) (t : Option Remaining) (s : SchemaModel) (state : TakeState) → IsPermutation wanted state.wanted.items → IsTakeEnd t s state → HasMoreIndices state → FailsToTake wanted (option_map (with_schema s) t) (record { batch = None; error = causes.IndexOutOfRange })
lacks-place wanted None s state same has more = tt
lacks-place wanted (Some t) s state same has more = by has.4
  where
    by : (has.0 ≡ true) ⊎ (length state.wanted.items ≤ state.next) → LacksRow wanted (table_with s t.whole)
    by (inr le) = absurd (omega (arith, le, more))
    by (inl over) =
        let p = has.3 in
        let bs = p.1.batches in
        held-at s bs t.whole (λ h. selected_rows (indices wanted) (table_rows h) ≡ None) (sym (side-whole t has.0 has.1 bs has.2 over p.1.at) ∙ side-first t has.0 has.1 bs has.2 p.1.at)
        (ap (selected_rows (indices wanted)) (p.1.are_rows ∙ append-nil p.0) ∙ none-shuffled p.0 wanted state.wanted.items same (none-at p.0 state.wanted.items state.next more (p.2.rest more).1))

pub stops : (wanted risen : List ℕ) (t : Option Remaining) (s : SchemaModel) (stop : BatchError) → IsPermutation wanted risen → IsTakeStateError t s risen stop → FailsToTake wanted (option_map (with_schema s) t) stop
stops wanted risen None s stop same p = tt
stops wanted risen (Some t) s stop same p = by stop.batch p.1
  where
    by : (batch : Option ℕ) → FailsAfterRows t s p.0 batch stop.error → IsTakeError wanted (with_schema s t) batch stop.error
    by None h = absurd h
    by (Some k) h = (
      h.0,
      has-held (table_with s (t.first k)) (λ g. (g.schema ≡ s) × (table_rows g ≡ p.0)) (λ g. selected_rows (indices wanted) (table_rows g) ≡ None) (λ g e. ap (selected_rows (indices wanted)) e.1 ∙ none-shuffled p.0 wanted risen same p.2) h.1,
    )

pub out-of-memory : (wanted : List ℕ) (x : Option Decoded) → FailsToTake wanted x (record { batch = None; error = causes.Memory })
out-of-memory wanted None = tt
out-of-memory wanted (Some x) = tt

pub unplaced : (wanted : List ℕ) (t : Option Remaining) (s : SchemaModel) (state : TakeState) (error : CliError) → IsPermutation wanted state.wanted.items → IsTakeEnd t s state → IsFinishError error state → FailsToTake wanted (option_map (with_schema s) t) (record { batch = None; error = error })
unplaced wanted t s state causes.IndexOutOfRange same has h = lacks-place wanted t s state same has h
unplaced wanted t s state causes.Memory same has h = out-of-memory wanted (option_map (with_schema s) t)
unplaced wanted t s state (causes.Read error) same has h = absurd h
unplaced wanted t s state (causes.Write why) same has h = absurd h
unplaced wanted t s state causes.MismatchedColumns same has h = absurd h
unplaced wanted t s state (causes.Condition why) same has h = absurd h
unplaced wanted t s state (causes.UnknownName i) same has h = absurd h
unplaced wanted t s state causes.Input same has h = absurd h
unplaced wanted t s state causes.Output same has h = absurd h

pub started : (t : Option Remaining) (s : SchemaModel) (state : TakeState) → StartsEmpty t → ((fs : List FieldTree) → HasTakenFrom fs [] state) → IsTakeState t s false 0 t state
started t s state fresh took = ([], begun t s fresh, took s.fields)

pub unopened : (wanted : List ℕ) (x : Option Decoded) (error : CliError) → FailsToOpen error x → FailsToTake wanted x (record { batch = None; error = error })
unopened wanted None error h = tt
unopened wanted (Some x) (causes.Read error) h = h
unopened wanted (Some x) causes.Input h = tt
unopened wanted (Some x) causes.Memory h = tt
unopened wanted (Some x) causes.IndexOutOfRange h = absurd h
unopened wanted (Some x) (causes.Write why) h = absurd h
unopened wanted (Some x) causes.MismatchedColumns h = absurd h
unopened wanted (Some x) (causes.Condition why) h = absurd h
unopened wanted (Some x) (causes.UnknownName i) h = absurd h
unopened wanted (Some x) causes.Output h = absurd h
