-- Loop invariants of skipped fields, and their cost.
use Rattle.std.proofs.Common.{◌≡◌, ℕ, suc, ◌-◌, ◌+◌, ◌*◌, ◌≤◌, ◌<◌, Bool, true, false, List, Option, Some, None, Result, Ok, Err, refl, sym, ap, ◌∙◌, arith}
use Rattle.std.specs.Prelude.{IfOk, nat_le, ◌||◌, if◌then◌else◌}
use Rattle.std.proofs.lemmas.Bool.{leb-true}
use Rattle.std.specs.Int.{w32}
use Rattle.ipc_flatbuf.specs.declared.error.IpcReadError.{IpcReadError}
use Rattle.ipc_flatbuf.specs.declared.error.IpcReadError.TheVariants as errors
use Rattle.ipc_flatbuf.specs.declared.projection.SkippedField.{SkippedField}
use Rattle.ipc_flatbuf.specs.ReadResults.{◌>>=◌}
use Rattle.ipc_flatbuf.specs.Flatbuffers.{number_at, spec_charge_budget, spec_table_at, spec_offset_at, spec_read_table, spec_read_vector, spec_items_at}
use Rattle.ipc_schema.specs.SkippedFields.{spec_nothing_skipped, spec_plus, spec_skipped_fields_at, spec_skipped_over, spec_skipped_field_at}

-- ---- the budget

bind_if : {A B : Type 0} (Q : B → Type 0) (read : Result A IpcReadError) (f : A → Result B IpcReadError) → ((x : A) → IfOk (f x) Q) → IfOk (read >>= f) Q
bind_if Q (Ok x) f q = q x
bind_if Q (Err e) f q = tt

spent_by : {A : Type 0} (Q : A → Type 0) (b : Bool) (rest : ℕ) (f : ℕ → Result A IpcReadError) → (b ≡ true → IfOk (f rest) Q) → IfOk ((if b then Ok rest else Err errors.ApparentSize) >>= f) Q
spent_by Q true rest f q = q refl
spent_by Q false rest f q = tt

spent_if : {A : Type 0} (Q : A → Type 0) (left cost : ℕ) (f : ℕ → Result A IpcReadError) → (cost ≤ left → IfOk (f (left - cost)) Q) → IfOk (spec_charge_budget left cost >>= f) Q
unfolding spec_charge_budget
spent_if Q left cost f q = spent_by Q (nat_le cost left) (left - cost) f (λ e. q (leb-true _ _ e))

pub table_pays : (bytes : List ℕ) (position left : ℕ) → IfOk (spec_read_table bytes position left) (λ x. x.1 + 8 ≤ left)
unfolding spec_read_table
table_pays bytes position left = bind_if (λ x. x.1 + 8 ≤ left) (spec_table_at bytes position) _ (λ table. spent_if (λ x. x.1 + 8 ≤ left) left 8 _ (λ le. omega arith))

when_true : {A : Type 0} (Q : A → Type 0) (b : Bool) (x : Result A IpcReadError) → IfOk x Q → IfOk (if b then x else Err errors.Flatbuffer) Q
when_true Q true x q = q
when_true Q false x q = tt

pub items_pay : (bytes : List ℕ) (position : Option ℕ) (left : ℕ) → IfOk (spec_items_at 4 bytes position left) (λ x. x.1 ≤ left)
unfolding spec_items_at spec_read_vector
items_pay bytes None left = omega arith
items_pay bytes (Some position) left =
    bind_if (λ x. x.1 ≤ left) (number_at w32 bytes position) _
    (λ count. when_true (λ x. x.1 ≤ left) _ _ (spent_if (λ x. x.1 ≤ left) left (4 + count * 4) _ (λ le. omega arith)))

-- ---- loop invariants

-- the sum so far, followed by the rest
abbrev pub with_sum : SkippedField → Result (SkippedField × ℕ) IpcReadError → Result (SkippedField × ℕ) IpcReadError
with_sum so_far read = read >>= λ x. Ok (spec_plus so_far x.0, x.1)

-- the fields from index i
abbrev pub spans_left : (ℕ → ℕ → Result (SkippedField × ℕ) IpcReadError) → List ℕ → ℕ → ℕ → ℕ → ℕ → Result (SkippedField × ℕ) IpcReadError
spans_left read bytes count first i left = spec_skipped_fields_at read bytes (count - i) (first + 4 * i) left

or_assoc : (a b c : Bool) → (a || (b || c)) ≡ ((a || b) || c)
or_assoc true b c = refl
or_assoc false b c = refl

or_false : (a : Bool) → (a || false) ≡ a
or_false true = refl
or_false false = refl

abbrev span : ℕ → ℕ → ℕ → Bool → Bool → SkippedField
span nodes buffers views union dictionary = record { nodes = nodes; buffers = buffers; views = views; has_union = union; has_dictionary = dictionary }

span_is : (nodes nodes' buffers buffers' views views' : ℕ) (union union' dictionary dictionary' : Bool) → nodes ≡ nodes' → buffers ≡ buffers' → views ≡ views' → union ≡ union' → dictionary ≡ dictionary'
    → span nodes buffers views union dictionary ≡ span nodes' buffers' views' union' dictionary'
span_is nodes nodes' buffers buffers' views views' union union' dictionary dictionary' a b c d e = rw (a, b, c, d, e) refl

plus_assoc : (a b c : SkippedField) → spec_plus a (spec_plus b c) ≡ spec_plus (spec_plus a b) c
plus_assoc a b c =
    span_is (a.nodes + (b.nodes + c.nodes)) (a.nodes + b.nodes + c.nodes) (a.buffers + (b.buffers + c.buffers)) (a.buffers + b.buffers + c.buffers) (a.views + (b.views + c.views)) (a.views + b.views + c.views)
    (a.has_union || (b.has_union || c.has_union)) ((a.has_union || b.has_union) || c.has_union) (a.has_dictionary || (b.has_dictionary || c.has_dictionary)) ((a.has_dictionary || b.has_dictionary) || c.has_dictionary)
    (omega arith) (omega arith) (omega arith) (or_assoc a.has_union b.has_union c.has_union) (or_assoc a.has_dictionary b.has_dictionary c.has_dictionary)

none_more : (a : SkippedField) → spec_plus a spec_nothing_skipped ≡ a
none_more a =
    span_is (a.nodes + 0) a.nodes (a.buffers + 0) a.buffers (a.views + 0) a.views (a.has_union || false) a.has_union (a.has_dictionary || false) a.has_dictionary
    (omega arith) (omega arith) (omega arith) (or_false a.has_union) (or_false a.has_dictionary)

none_before : (a : SkippedField) → spec_plus spec_nothing_skipped a ≡ a
none_before a = span_is (0 + a.nodes) a.nodes (0 + a.buffers) a.buffers (0 + a.views) a.views a.has_union a.has_union a.has_dictionary a.has_dictionary (omega arith) (omega arith) (omega arith) refl refl

regroup : (so_far one : SkippedField) (read : Result (SkippedField × ℕ) IpcReadError) → with_sum so_far (read >>= λ x. Ok (spec_plus one x.0, x.1)) ≡ with_sum (spec_plus so_far one) read
regroup so_far one (Ok x) = ap (λ (s : SkippedField). Ok (s, x.1)) (plus_assoc so_far one x.0)
regroup so_far one (Err f) = refl

module _ (read : ℕ → ℕ → Result (SkippedField × ℕ) IpcReadError) (bytes : List ℕ) (so_far : SkippedField) (count first i left : ℕ) (total : Result (SkippedField × ℕ) IpcReadError) where
  pub span_goes_on : (to : ℕ) (one : SkippedField) (after : ℕ) → i < count → spec_offset_at bytes (first + 4 * i) ≡ Ok to → read to left ≡ Ok (one, after) → with_sum so_far (spans_left read bytes count first i left) ≡ total
      → with_sum (spec_plus so_far one) (spans_left read bytes count first (i + 1) after) ≡ total
  unfolding spec_skipped_fields_at
  span_goes_on to one after lt o h before =
      let k : count - i ≡ suc (count - (i + 1)) = omega arith in
      let p : first + 4 * i + 4 ≡ first + 4 * (i + 1) = omega arith in
      let step : with_sum so_far (spans_left read bytes count first i left) ≡ with_sum (spec_plus so_far one) (spans_left read bytes count first (i + 1) after) = rw (k, o, h, p) (regroup so_far one (spec_skipped_fields_at read bytes (count - (i + 1)) (first + 4 * (i + 1)) after)) in
      sym step ∙ before

  pub span_lacks_offset : (f : IpcReadError) → i < count → spec_offset_at bytes (first + 4 * i) ≡ Err f → with_sum so_far (spans_left read bytes count first i left) ≡ total → total ≡ Err f
  unfolding spec_skipped_fields_at
  span_lacks_offset f lt o before =
      let k : count - i ≡ suc (count - (i + 1)) = omega arith in
      let step : with_sum so_far (spans_left read bytes count first i left) ≡ Err f = rw (k, o) refl in
      sym before ∙ step

  pub span_ends : (f : IpcReadError) (to : ℕ) → i < count → spec_offset_at bytes (first + 4 * i) ≡ Ok to → read to left ≡ Err f → with_sum so_far (spans_left read bytes count first i left) ≡ total → total ≡ Err f
  unfolding spec_skipped_fields_at
  span_ends f to lt o h before =
      let k : count - i ≡ suc (count - (i + 1)) = omega arith in
      let step : with_sum so_far (spans_left read bytes count first i left) ≡ Err f = rw (k, o, h) refl in
      sym before ∙ step

  pub span_is_done : count ≤ i → with_sum so_far (spans_left read bytes count first i left) ≡ total → total ≡ Ok (so_far, left)
  unfolding spec_skipped_fields_at
  span_is_done le before =
      let k : count - i ≡ 0 = omega arith in
      let step : with_sum so_far (spans_left read bytes count first i left) ≡ Ok (so_far, left) = rw k (ap (λ (s : SkippedField). Ok (s, left)) (none_more so_far)) in
      sym before ∙ step

whole : (read : Result (SkippedField × ℕ) IpcReadError) → with_sum spec_nothing_skipped read ≡ read
whole (Ok x) = ap (λ (s : SkippedField). Ok (s, x.1)) (none_before x.0)
whole (Err f) = refl

pub span_starts : (read : ℕ → ℕ → Result (SkippedField × ℕ) IpcReadError) (bytes : List ℕ) (count first left : ℕ) → with_sum spec_nothing_skipped (spans_left read bytes count first 0 left) ≡ spec_skipped_fields_at read bytes count first left
span_starts read bytes count first left =
    let k : count - 0 ≡ count = omega arith in
    let p : first + 4 * 0 ≡ first = omega arith in
    rw (k, p) (whole (spec_skipped_fields_at read bytes count first left))

-- ---- levels

pub span_level : (depth : ℕ) (bytes : List ℕ) (position left : ℕ) → 0 < depth → spec_skipped_field_at depth bytes position left ≡ spec_skipped_over (spec_skipped_field_at (depth - 1) bytes) bytes position left
unfolding spec_skipped_field_at
span_level depth bytes position left deep = let k : depth ≡ suc (depth - 1) = omega arith in ap (λ (n : ℕ). spec_skipped_field_at n bytes position left) k

pub no_span_level : (depth : ℕ) (bytes : List ℕ) (position left : ℕ) → depth ≡ 0 → spec_skipped_field_at depth bytes position left ≡ Err errors.Depth
unfolding spec_skipped_field_at
no_span_level depth bytes position left none = ap (λ (n : ℕ). spec_skipped_field_at n bytes position left) none
