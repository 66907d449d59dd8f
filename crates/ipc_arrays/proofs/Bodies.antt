-- Buffers and arrays that loops append to a body.
use Rattle.std.proofs.Common.{◌≡◌, ℕ, zero, suc, ◌+◌, ◌*◌, ◌^◌, ◌<◌, ◌≤◌, ◌⊎◌, Bool, true, false, ltb, List, [], ◌∷◌, ◌++◌, length, get_or, take, drop, map, Some, None, refl, sym, ap, subst, ◌∙◌, append_assoc, inl, inr, arith}
use Rattle.std.specs.Prelude.{◌&&◌, ℤ, pos}
use Rattle.std.specs.Int.{div_ceil}
use Rattle.std.specs.List.{AllByRecursion, list_all}
use Rattle.std.proofs.lemmas.Bool.{le-ltb, lt-ltb}
use Rattle.std.proofs.lemmas.List.{append-nil, map-append, map_more, drop_more, take_more, take-append-drop, take_all, length-append, length-map}
use Rattle.std.proofs.lemmas.List.Concat.{flat_map-cons, flat_map-append}
use Rattle.ipc_flatbuf.specs.declared.error.IpcWriteError.{IpcWriteError}
use Rattle.ipc_flatbuf.specs.declared.error.IpcWriteError.TheVariants.{Size}
use Rattle.ipc_flatbuf.specs.declared.batch.parts.FieldNode.{FieldNode}
use Rattle.ipc_flatbuf.specs.declared.batch.parts.BufferSpec.{BufferSpec}
use Rattle.nest_model.specs.Layout.{Layout}
use Rattle.nest_model.specs.Meaning.{len}
use Rattle.ipc_arrays.specs.declared.layout.BodyLayout.{BodyLayout}
use Rattle.ipc_arrays.specs.FixedWidth.{ByteFormat, values_bytes}
use Rattle.ipc_arrays.specs.BodyBuffers.{padded, body_of, buffer_specs}
use Rattle.ipc_arrays.specs.BodyBufferLaws.{padded_long, body_more, body_append, body_none, buffer_specs_append, all_in_body}
use Rattle.ipc_arrays.specs.Encoding.{field_node_of, own_buffers, buffers_of, written_arrays, columns_body, is_countable, fits_in_i64, size_error, IsBufferError, IsArrayError, IsWriteError, AppendsBuffers, AppendsArrays, IsLayoutOf}
use Rattle.ipc_arrays.specs.NormalizedLaws.{pass_append}
use Rattle.ipc_arrays.specs.RoundTripLaws.{buffers_more, buffers_none, buffers_append}

and_false : (b : Bool) → (b && false) ≡ false
and_false true = refl
and_false false = refl

module _ {A B : Type 0} (f : A → B) where
  pub taken : (xs : List A) (i : ℕ) (x : A) → i < length xs → x ≡ get_or xs i x → map f (take (i + 1) xs) ≡ map f (take i xs) ++ f x ∷ []
  taken xs i x lt is = map_more f xs i x lt ∙ ap (λ (y : A). map f (take i xs) ++ f y ∷ []) (sym is)

  pub all_taken : (xs : List A) (i : ℕ) → length xs ≤ i → map f (take i xs) ≡ map f xs
  all_taken xs i le = ap (map f) (take_all i xs le)

  pub split : (xs : List A) (i : ℕ) (x : A) → i < length xs → x ≡ get_or xs i x → map f xs ≡ map f (take i xs) ++ f x ∷ map f (drop (i + 1) xs)
  split xs i x lt is =
      let rest : drop i xs ≡ x ∷ drop (i + 1) xs = drop_more xs i x lt ∙ ap (λ (y : A). y ∷ drop (i + 1) xs) (sym is) in
      ap (map f) (sym (take-append-drop i xs)) ∙ map-append f (take i xs) (drop i xs) ∙ ap (λ (ys : List A). map f (take i xs) ++ map f ys) rest

pub all_push : {A : Type 0} (P : A → Type 0) (xs : List A) (x : A) → AllByRecursion P xs → P x → AllByRecursion P (xs ++ x ∷ [])
all_push P [] x all p = (p, tt)
all_push P (y ∷ xs) x all p = (all.0, all_push P xs x all.1 p)

-- no buffers
pub longer_none : (layout : BodyLayout) → layout.length < 2 ^ 63 → AppendsBuffers layout layout []
longer_none layout small =
    let none : buffer_specs layout.length [] ≡ [] = unfold buffer_specs in refl in
    record {
      entries = sym (ap (λ (rs : List BufferSpec). layout.buffers.items ++ rs) none ∙ append-nil layout.buffers.items);
      length = omega (arith, ap length body_none);
      small = small;
    }

-- one more buffer
pub longer_more : (first old new : BodyLayout) (buffers : List (List ℕ)) (bytes : List ℕ) (size : ℕ) → AppendsBuffers first old buffers → length bytes ≡ size
    → new.buffers.items ≡ old.buffers.items ++ record { offset = pos old.length; length = pos size } ∷ [] → new.length ≡ old.length + 8 * div_ceil size 8 → new.length < 2 ^ 63 → AppendsBuffers first new (buffers ++ bytes ∷ [])
longer_more first old new buffers bytes size before e r l small =
    let one : buffer_specs old.length (bytes ∷ []) ≡ record { offset = pos old.length; length = pos size } ∷ [] = unfold buffer_specs in (λ w. record { offset = pos old.length; length = pos (e w) } ∷ []) in
    let more : buffer_specs first.length (buffers ++ bytes ∷ []) ≡ buffer_specs first.length buffers ++ buffer_specs old.length (bytes ∷ []) = buffer_specs_append first.length buffers (bytes ∷ []) ∙ ap (λ (n : ℕ). buffer_specs first.length buffers ++ buffer_specs n (bytes ∷ [])) (sym before.length) in
    let body : body_of (buffers ++ bytes ∷ []) ≡ body_of buffers ++ padded bytes = body_append buffers (bytes ∷ []) ∙ ap (λ (x : List ℕ). body_of buffers ++ x) (body_more bytes [] ∙ ap (λ (x : List ℕ). padded bytes ++ x) body_none ∙ append-nil (padded bytes)) in
    record {
      entries = r ∙ (λ w. before.entries w ++ sym one w) ∙ append_assoc first.buffers.items (buffer_specs first.length buffers) (buffer_specs old.length (bytes ∷ [])) ∙ ap (λ (rs : List BufferSpec). first.buffers.items ++ rs) (sym more);
      length = omega (arith, l, before.length, ap length body, length-append (body_of buffers) (padded bytes), padded_long bytes, e);
      small = small;
    }

sizes_short : (buffers : List (List ℕ)) (sizes : List ℕ) → map length buffers ≡ sizes → length buffers ≡ length sizes
sizes_short buffers sizes e = sym (length-map buffers length) ∙ ap length e

size_at : (buffers : List (List ℕ)) (i : ℕ) → i < length buffers → length (get_or buffers i []) ≡ get_or (map length buffers) i 0
size_at [] i lt = absurd (omega arith)
size_at (b ∷ buffers) zero lt = refl
size_at (b ∷ buffers) (suc i) lt = size_at buffers i (omega arith)

-- one step of a loop over the sizes of buffers
pub longer_step : (first old new : BodyLayout) (sizes : List ℕ) (i size : ℕ) → i < length sizes → size ≡ get_or sizes i 0
    → new.buffers.items ≡ old.buffers.items ++ record { offset = pos old.length; length = pos size } ∷ [] → new.length ≡ old.length + 8 * div_ceil size 8 → new.length < 2 ^ 63
    → ((buffers : List (List ℕ)) → map length buffers ≡ sizes → AppendsBuffers first old (take i buffers)) → (buffers : List (List ℕ)) → map length buffers ≡ sizes → AppendsBuffers first new (take (i + 1) buffers)
longer_step first old new sizes i size lt is r l small before buffers e =
    let within : i < length buffers = omega (arith, sizes_short buffers sizes e) in
    let same : length (get_or buffers i []) ≡ size = size_at buffers i within ∙ ap (λ (ns : List ℕ). get_or ns i 0) e ∙ sym is in
    subst (AppendsBuffers first new) (sym (take_more buffers i [] within)) (longer_more first old new (take i buffers) (get_or buffers i []) size (before buffers e) same r l small)

pub longer_all : (first new : BodyLayout) (sizes : List ℕ) (i : ℕ) → length sizes ≤ i → ((buffers : List (List ℕ)) → map length buffers ≡ sizes → AppendsBuffers first new (take i buffers)) → (buffers : List (List ℕ)) → map length buffers ≡ sizes → AppendsBuffers first new buffers
longer_all first new sizes i le before buffers e = subst (AppendsBuffers first new) (take_all i buffers (omega (arith, sizes_short buffers sizes e))) (before buffers e)

-- a prefix that is too long
pub past_more : (error : IpcWriteError) (part whole : ℕ) → part ≤ whole → IsBufferError error part → IsBufferError error whole
past_more error part whole le (inl memory) = inl memory
past_more error part whole le (inr (size, long)) = inr (size, omega arith)

pub past_step : (error : IpcWriteError) (first old : BodyLayout) (sizes : List ℕ) (i size : ℕ) → i < length sizes → size ≡ get_or sizes i 0 → IsBufferError error (old.length + 8 * div_ceil size 8)
    → ((buffers : List (List ℕ)) → map length buffers ≡ sizes → AppendsBuffers first old (take i buffers)) → (buffers : List (List ℕ)) → map length buffers ≡ sizes → IsBufferError error (first.length + length (body_of buffers))
past_step error first old sizes i size lt is past before buffers e =
    let within : i < length buffers = omega (arith, sizes_short buffers sizes e) in
    let same : length (get_or buffers i []) ≡ size = size_at buffers i within ∙ ap (λ (ns : List ℕ). get_or ns i 0) e ∙ sym is in
    let bytes : List ℕ = get_or buffers i [] in
    let parts : buffers ≡ take i buffers ++ (bytes ∷ drop (i + 1) buffers) = sym (take-append-drop i buffers) ∙ ap (λ (x : List (List ℕ)). take i buffers ++ x) (drop_more buffers i [] within) in
    let body : body_of buffers ≡ body_of (take i buffers) ++ (padded bytes ++ body_of (drop (i + 1) buffers)) = ap body_of parts ∙ body_append (take i buffers) (bytes ∷ drop (i + 1) buffers) ∙ ap (λ (x : List ℕ). body_of (take i buffers) ++ x) (body_more bytes (drop (i + 1) buffers)) in
    past_more error (old.length + 8 * div_ceil size 8) (first.length + length (body_of buffers))
    (omega (arith, (before buffers e).length, ap length body, length-append (body_of (take i buffers)) (padded bytes ++ body_of (drop (i + 1) buffers)), length-append (padded bytes) (body_of (drop (i + 1) buffers)), padded_long bytes, same)) past

-- buffers, then others
pub longer_append : (first old new : BodyLayout) (front rest : List (List ℕ)) → AppendsBuffers first old front → AppendsBuffers old new rest → AppendsBuffers first new (front ++ rest)
longer_append first old new front rest before after =
    record {
      entries =
          after.entries
          ∙ (λ w. before.entries w ++ buffer_specs (before.length w) rest)
          ∙ append_assoc first.buffers.items (buffer_specs first.length front) (buffer_specs (first.length + length (body_of front)) rest)
          ∙ ap (λ (rs : List BufferSpec). first.buffers.items ++ rs) (sym (buffer_specs_append first.length front rest));
      length = omega (arith, after.length, before.length, ap length (body_append front rest), length-append (body_of front) (body_of rest));
      small = after.small;
    }

-- arrays, then others
pub more_none : (layout : BodyLayout) → layout.length < 2 ^ 63 → AppendsArrays layout layout []
more_none layout small =
    record {
      nodes = sym (append-nil layout.nodes.items);
      buffers = subst (AppendsBuffers layout layout) (sym buffers_none) (longer_none layout small);
      slots = refl;
    }

pub more_append : (first old new : BodyLayout) (front rest : List Layout) → AppendsArrays first old front → AppendsArrays old new rest → AppendsArrays first new (front ++ rest)
more_append first old new front rest before after =
    record {
      nodes =
          after.nodes
          ∙ ap (λ (ns : List FieldNode). ns ++ map field_node_of rest) before.nodes
          ∙ append_assoc first.nodes.items (map field_node_of front) (map field_node_of rest)
          ∙ ap (λ (ns : List FieldNode). first.nodes.items ++ ns) (sym (map-append field_node_of front rest));
      buffers = subst (AppendsBuffers first new) (sym (buffers_append front rest)) (longer_append first old new (buffers_of front) (buffers_of rest) before.buffers after.buffers);
      slots = pass_append is_countable front rest ∙ both_true (list_all is_countable front) (list_all is_countable rest) before.slots after.slots;
    }
  where
    both_true : (a b : Bool) → a ≡ true → b ≡ true → (a && b) ≡ true
    both_true true b e f = f
    both_true false b e f = e

-- one more array: its field node, then its own buffers
pub more_one : (first old new : BodyLayout) (s : Layout) → old.nodes.items ≡ first.nodes.items ++ field_node_of s ∷ [] → old.buffers ≡ first.buffers → old.length ≡ first.length → new.nodes ≡ old.nodes → AppendsBuffers old new (own_buffers s) → len s < 2 ^ 63 → AppendsArrays first new (s ∷ [])
more_one first old new s node kept long nodes longer slots =
    let few : is_countable s ≡ true = lt-ltb _ _ slots in
    let one : own_buffers s ≡ buffers_of (s ∷ []) = sym (buffers_more s [] ∙ ap (λ (x : List (List ℕ)). own_buffers s ++ x) buffers_none ∙ append-nil (own_buffers s)) in
    record {
      nodes = (λ w. (nodes w).items) ∙ node;
      buffers =
          subst (AppendsBuffers first new) one
          (record {
            entries = longer.entries ∙ (λ w. (kept w).items ++ buffer_specs (long w) (own_buffers s));
            length = omega (arith, longer.length, long);
            small = longer.small;
          });
      slots = rw few refl;
    }

-- arrays that are too long
pub long_front : (error : IpcWriteError) (before : ℕ) (front rest : List Layout) → IsArrayError error before front → IsArrayError error before (front ++ rest)
long_front error before front rest (inl memory) = inl memory
long_front error before front rest (inr (size, inl slots)) = inr (size, inl (pass_append is_countable front rest ∙ ap (λ (b : Bool). b && list_all is_countable rest) slots))
long_front error before front rest (inr (size, inr long)) =
    inr (size, inr (omega (arith, long, ap (λ (x : List (List ℕ)). length (body_of x)) (buffers_append front rest), ap length (body_append (buffers_of front) (buffers_of rest)), length-append (body_of (buffers_of front)) (body_of (buffers_of rest)))))

pub long_behind : (error : IpcWriteError) (first old : BodyLayout) (front rest : List Layout) → AppendsArrays first old front → IsArrayError error old.length rest → IsArrayError error first.length (front ++ rest)
long_behind error first old front rest more (inl memory) = inl memory
long_behind error first old front rest more (inr (size, inl slots)) = inr (size, inl (pass_append is_countable front rest ∙ ap (λ (b : Bool). list_all is_countable front && b) slots ∙ and_false (list_all is_countable front)))
long_behind error first old front rest more (inr (size, inr long)) =
    inr (size, inr (omega (arith, long, more.buffers.length, ap (λ (x : List (List ℕ)). length (body_of x)) (buffers_append front rest), ap length (body_append (buffers_of front) (buffers_of rest)), length-append (body_of (buffers_of front)) (body_of (buffers_of rest)))))

-- an array with too many slots
pub long_slots : (error : IpcWriteError) (before : ℕ) (s : Layout) (rest : List Layout) → IsBufferError error (len s) → IsArrayError error before (s ∷ rest)
long_slots error before s rest (inl memory) = inl memory
long_slots error before s rest (inr (size, long)) =
    let few : is_countable s ≡ false = le-ltb _ _ long in
    inr (size, inl (rw few refl))

-- an array whose own buffers have too many bytes
pub long_buffers : (error : IpcWriteError) (before : ℕ) (s : Layout) (rest : List Layout) → IsBufferError error (before + length (body_of (own_buffers s))) → IsArrayError error before (s ∷ rest)
long_buffers error before s rest (inl memory) = inl memory
long_buffers error before s rest (inr (size, long)) =
    inr (size, inr (omega (arith, long, ap (λ (x : List (List ℕ)). length (body_of x)) (buffers_more s rest), ap length (body_append (own_buffers s) (buffers_of rest)), length-append (body_of (own_buffers s)) (body_of (buffers_of rest)))))

-- columns, from an empty layout on
pub placed_all : (columns : List Layout) (first new : BodyLayout) → first.nodes.items ≡ [] → first.buffers.items ≡ [] → first.length ≡ 0 → AppendsArrays first new (written_arrays columns) → IsLayoutOf columns new
placed_all columns first new nodes kept long more =
    let all : List (List ℕ) = buffers_of (written_arrays columns) in
    let are : new.buffers.items ≡ buffer_specs 0 all = more.buffers.entries ∙ (λ w. kept w ++ buffer_specs (long w) all) in
    let end : new.length ≡ length (columns_body columns) = omega (arith, more.buffers.length, long) in
    record {
      nodes = more.nodes ∙ ap (λ (ns : List FieldNode). ns ++ map field_node_of (written_arrays columns)) nodes;
      buffers = are;
      length = end;
      small = more.buffers.small;
      slots = more.slots;
      within = rw (are, end) (all_in_body all);
    }

no_room : (columns : List Layout) → (list_all is_countable (written_arrays columns) ≡ false) ⊎ (2 ^ 63 ≤ 0 + length (columns_body columns)) → fits_in_i64 columns ≡ false
unfolding fits_in_i64
no_room columns (inl slots) = rw slots refl
no_room columns (inr long) =
    let past : ltb (length (columns_body columns)) (2 ^ 63) ≡ false = le-ltb _ _ (omega (arith, long)) in
    rw past (and_false (list_all is_countable (written_arrays columns)))

size_refused : (columns : List Layout) → (list_all is_countable (written_arrays columns) ≡ false) ⊎ (2 ^ 63 ≤ 0 + length (columns_body columns)) → size_error columns ≡ Some Size
unfolding size_error
size_refused columns error = rw (no_room columns error) refl

pub past_unwritten : (error : IpcWriteError) (columns : List Layout) → IsArrayError error 0 (written_arrays columns) → IsWriteError columns error
past_unwritten error columns (inl memory) = inl memory
past_unwritten error columns (inr (size, long)) = inr (size_refused columns long ∙ ap (λ (f : IpcWriteError). Some f) (sym size))

values_push : (format : ByteFormat) (values : List (List ℤ)) (v : List ℤ) → values_bytes format (values ++ v ∷ []) ≡ values_bytes format values ++ format.bytes v
unfolding values_bytes
values_push format values v = flat_map-append format.bytes values (v ∷ []) ∙ ap (λ (x : List ℕ). values_bytes format values ++ x) (flat_map-cons format.bytes v [] ∙ append-nil (format.bytes v))

pub value_more : (format : ByteFormat) (old out new : List ℕ) (values more : List (List ℤ)) (v : List ℤ) → more ≡ values ++ v ∷ [] → out ≡ old ++ values_bytes format values → new ≡ out ++ format.bytes v → new ≡ old ++ values_bytes format more
value_more format old out new values more v e so_far is =
    is ∙ ap (λ (x : List ℕ). x ++ format.bytes v) so_far ∙ append_assoc old (values_bytes format values) (format.bytes v) ∙ ap (λ (x : List ℕ). old ++ x) (sym (ap (values_bytes format) e ∙ values_push format values v))

pub form_is : (columns : List Layout) (layout : BodyLayout) → IsLayoutOf columns layout → size_error columns ≡ None
unfolding size_error fits_in_i64
form_is columns layout is =
    let fits : ltb (length (columns_body columns)) (2 ^ 63) ≡ true = lt-ltb _ _ (omega (arith, is.small, is.length)) in
    rw (is.slots, fits) refl
