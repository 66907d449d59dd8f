-- A UTF-8 array is read with the slots of its buffers, whatever the bytes under nulls are.
use Rattle.std.proofs.Common.{◌≡◌, ℕ, ◌+◌, ◌<◌, ◌≤◌, Bool, true, false, List, [], ◌∷◌, length, get_or, Result, Ok, Err, refl, ap, sym, subst, ◌∙◌, arith}
use Rattle.std.specs.Prelude.{IfOk, IsOk, IfErr, if◌then◌else◌}
use Rattle.std.specs.Str.{IsUtf8, is_utf8}
use Rattle.std.proofs.lemmas.Str.{IsUtf8-from_is_utf8, is_utf8-from_IsUtf8, IsUtf8-nil}
use Rattle.ipc_flatbuf.specs.ReadResults.{◌>>=◌, check}
use Rattle.ipc_flatbuf.specs.declared.error.IpcReadError.{IpcReadError}
use Rattle.ipc_flatbuf.specs.declared.error.IpcReadError.TheVariants.{Utf8}
use Rattle.nest_memory.specs.Rising.{last_of}
use Rattle.nest_memory.specs.Sublist.{sublist}
use Rattle.nest_memory.specs.TypeTree.{TypeTree}
use Rattle.nest_model.specs.Array.{AreOffsets}
use Rattle.nest_model.specs.Fits.{EachUtf8}
use Rattle.nest_model.specs.Layout.{Layout, utf8}
use Rattle.nest_model.specs.Meaning.{slot, slots_of, run}
use Rattle.nest_model.specs.Part.{Validity, begin, extent, count_rows, valid_at}
use Rattle.nest_model.specs.Runs.{run-ext}
use Rattle.nest_model.specs.Slot as slots
use Rattle.ipc_arrays.specs.Decoding.{BinaryParts, are_utf8, bytes_of_slot, binary_parts, checked_string, string_of_slot, packed_slots, utf8_parts, checked_utf8}
use Rattle.ipc_arrays.specs.EachSlot.{each_slot}
use Rattle.ipc_arrays.specs.EachSlotLaws.{IsEach, IsErrorOf, each_is, each_error}
use Rattle.ipc_arrays.specs.PackedStrings.{packed_offsets, packed_bytes}
use Rattle.ipc_arrays.specs.PackedStringLaws.{string_packed, rows_long, packed_rise, packed_last}
use Rattle.ipc_arrays.specs.VariableSizeLaws.{texts_hold, are_texts}

-- the bytes of every valid slot are UTF-8
abbrev pub EachValidUtf8 : BinaryParts → Type 0
EachValidUtf8 s = (i : ℕ) → i < count_rows s.offsets → valid_at s.validity i ≡ true → IsUtf8 (bytes_of_slot s i)

-- ---- the string of a slot

module _ (s : BinaryParts) where
  valid_is : (i : ℕ) (x : List ℕ) → string_of_slot s i ≡ Ok x → valid_at s.validity i ≡ true → x ≡ bytes_of_slot s i
  valid_is i x e v = by (is_utf8 (bytes_of_slot s i)) ((rw v at e))
    where
      by : (b : Bool) → (check b Utf8 >>= λ text. Ok (bytes_of_slot s i)) ≡ Ok x → x ≡ bytes_of_slot s i
      by true e = cc
      by false e = cc

  string_utf8 : (i : ℕ) (x : List ℕ) → string_of_slot s i ≡ Ok x → IsUtf8 x
  string_utf8 i x e = by (valid_at s.validity i) (is_utf8 (bytes_of_slot s i)) refl e
    where
      by : (v b : Bool) → is_utf8 (bytes_of_slot s i) ≡ b → (if v then (check b Utf8 >>= λ text. Ok (bytes_of_slot s i)) else Ok []) ≡ Ok x → IsUtf8 x
      by true true w e = let same : bytes_of_slot s i ≡ x = cc in subst IsUtf8 same (IsUtf8-from_is_utf8 _ w)
      by true false w e = cc
      by false b w e = let same : [] ≡ x = cc in subst IsUtf8 same IsUtf8-nil

  error_is : (i : ℕ) (e : IpcReadError) → string_of_slot s i ≡ Err e → (e ≡ Utf8) × (valid_at s.validity i ≡ true) × (is_utf8 (bytes_of_slot s i) ≡ false)
  error_is i e h = by (valid_at s.validity i) (is_utf8 (bytes_of_slot s i)) refl refl h
    where
      by : (v b : Bool) → valid_at s.validity i ≡ v → is_utf8 (bytes_of_slot s i) ≡ b → (if v then (check b Utf8 >>= λ text. Ok (bytes_of_slot s i)) else Ok []) ≡ Err e → (e ≡ Utf8) × (valid_at s.validity i ≡ true) × (is_utf8 (bytes_of_slot s i) ≡ false)
      by true true u w h = cc
      by true false u w h = let same : e ≡ Utf8 = cc in (same, u, w)
      by false b u w h = cc

-- ---- the slots are those of the buffers

module _ (large : Bool) (t : TypeTree) (s : BinaryParts) where
  as_packed : (strings : List (List ℕ)) → IsEach (string_of_slot s) (count_rows s.offsets) strings → slots_of (utf8 large t (packed_offsets strings) (packed_bytes strings) s.validity) ≡ slots_of (utf8 large t s.offsets s.bytes s.validity)
  as_packed strings each =
      ap (λ (n : ℕ). run (slot (utf8 large t (packed_offsets strings) (packed_bytes strings) s.validity)) 0 n) (rows_long strings ∙ each.long)
      ∙ run-ext (slot (utf8 large t (packed_offsets strings) (packed_bytes strings) s.validity)) (slot (utf8 large t s.offsets s.bytes s.validity)) 0 0 (count_rows s.offsets) (λ i lt. at (0 + i) (omega arith))
    where
      at : (i : ℕ) → i < count_rows s.offsets → slot (utf8 large t (packed_offsets strings) (packed_bytes strings) s.validity) i ≡ slot (utf8 large t s.offsets s.bytes s.validity) i
      at i lt = by (valid_at s.validity i) refl
        where
          by : (v : Bool) → valid_at s.validity i ≡ v
              → (if v then slots.utf8 (sublist (packed_bytes strings) (begin (packed_offsets strings) i) (extent (packed_offsets strings) i)) else slots.null) ≡ (if v then slots.utf8 (bytes_of_slot s i) else slots.null)
          by true e = ap (λ (x : List ℕ). slots.utf8 x) (string_packed strings i (omega (arith, lt, each.long)) ∙ valid_is s i (get_or strings i []) (each.at i [] lt) e)
          by false e = refl

  pub slots_kept : IfOk (checked_utf8 large t s) (λ a. slots_of a ≡ slots_of (utf8 large t s.offsets s.bytes s.validity))
  slots_kept = by (are_utf8 s.offsets s.bytes)
    where
      rebuilt : (r : Result (List (List ℕ)) IpcReadError) → IfOk r (IsEach (string_of_slot s) (count_rows s.offsets))
          → IfOk ((r >>= λ strings. Ok (binary_parts (packed_offsets strings) (packed_bytes strings) s.validity)) >>= λ p. Ok (utf8 large t p.offsets p.bytes p.validity)) (λ a. slots_of a ≡ slots_of (utf8 large t s.offsets s.bytes s.validity))
      rebuilt (Ok strings) each = as_packed strings each
      rebuilt (Err e) each = tt

      by : (b : Bool)
          → IfOk ((if b then Ok s else packed_slots s) >>= λ p. Ok (utf8 large t p.offsets p.bytes p.validity)) (λ a. slots_of a ≡ slots_of (utf8 large t s.offsets s.bytes s.validity))
      by true = refl
      by false = rebuilt (each_slot (string_of_slot s) (count_rows s.offsets)) (each_is (string_of_slot s) (count_rows s.offsets))

-- ---- which are read

pub valid_utf8_read : (large : Bool) (t : TypeTree) (s : BinaryParts) → EachValidUtf8 s → IsOk (checked_utf8 large t s)
valid_utf8_read large t s each = by (are_utf8 s.offsets s.bytes)
  where
    rebuilt : (r : Result (List (List ℕ)) IpcReadError) → IfErr r (IsErrorOf (string_of_slot s) (count_rows s.offsets))
        → IsOk ((r >>= λ strings. Ok (binary_parts (packed_offsets strings) (packed_bytes strings) s.validity)) >>= λ p. Ok (utf8 large t p.offsets p.bytes p.validity))
    rebuilt (Ok strings) none = refl
    rebuilt (Err e) some =
        let is = error_is s some.slot e some.fails in
        let text : is_utf8 (bytes_of_slot s some.slot) ≡ true = is_utf8-from_IsUtf8 _ (each some.slot some.within is.1) in
        let not = is.2 in
        cc

    by : (b : Bool)
        → IsOk ((if b then Ok s else packed_slots s) >>= λ p. Ok (utf8 large t p.offsets p.bytes p.validity))
    by true = refl
    by false = rebuilt (each_slot (string_of_slot s) (count_rows s.offsets)) (each_error (string_of_slot s) (count_rows s.offsets))

pub other_bytes_rejected : (large : Bool) (t : TypeTree) (s : BinaryParts) (i : ℕ) → i < count_rows s.offsets → valid_at s.validity i ≡ true → is_utf8 (bytes_of_slot s i) ≡ false → checked_utf8 large t s ≡ Err Utf8
other_bytes_rejected large t s i lt v not = by (are_utf8 s.offsets s.bytes) refl
  where
    rebuilt : (r : Result (List (List ℕ)) IpcReadError) → IfOk r (IsEach (string_of_slot s) (count_rows s.offsets)) → IfErr r (IsErrorOf (string_of_slot s) (count_rows s.offsets))
        → ((r >>= λ strings. Ok (binary_parts (packed_offsets strings) (packed_bytes strings) s.validity)) >>= λ p. Ok (utf8 large t p.offsets p.bytes p.validity)) ≡ Err Utf8
    rebuilt (Ok strings) each none =
        let found : string_of_slot s i ≡ Ok (get_or strings i []) = each.at i [] lt in
        let fails : string_of_slot s i ≡ Err Utf8 = rw (v, not) refl in
        cc
    rebuilt (Err e) none some = ap (λ (x : IpcReadError). Err x) (error_is s some.slot e some.fails).0

    by : (b : Bool) → are_utf8 s.offsets s.bytes ≡ b
        → ((if b then Ok s else packed_slots s) >>= λ p. Ok (utf8 large t p.offsets p.bytes p.validity)) ≡ Err Utf8
    by true e = let text : is_utf8 (bytes_of_slot s i) ≡ true = is_utf8-from_IsUtf8 _ (are_texts s.offsets s.bytes e i lt) in cc
    by false e =
        rebuilt (each_slot (string_of_slot s) (count_rows s.offsets)) (each_is (string_of_slot s) (count_rows s.offsets)) (each_error (string_of_slot s) (count_rows s.offsets))

-- ---- the parts that are read

-- parts of a UTF-8 array of n slots with this validity
pub record AreUtf8Parts (n : ℕ) (va : Validity) (p : BinaryParts) : Type 0 where
  pub rising : AreOffsets p.offsets
  pub within : last_of p.offsets ≤ length p.bytes
  pub texts : EachUtf8 p.offsets p.bytes
  pub rows : count_rows p.offsets ≡ n
  pub validity : p.validity ≡ va

-- strings that are UTF-8 and are packed
pub texts_packed : (f : ℕ → Result (List ℕ) IpcReadError) (n : ℕ) (va : Validity) → ((i : ℕ) (x : List ℕ) → f i ≡ Ok x → IsUtf8 x)
    → IfOk (each_slot f n >>= λ strings. Ok (binary_parts (packed_offsets strings) (packed_bytes strings) va)) (AreUtf8Parts n va)
texts_packed f n va are_texts_of = by (each_slot f n) (each_is f n)
  where
    by : (r : Result (List (List ℕ)) IpcReadError) → IfOk r (IsEach f n) → IfOk (r >>= λ strings. Ok (binary_parts (packed_offsets strings) (packed_bytes strings) va)) (AreUtf8Parts n va)
    by (Err e) each = tt
    by (Ok strings) each = record {
      rising = packed_rise strings;
      within = omega (arith, packed_last strings);
      texts = λ i lt. let here : i < length strings = omega (arith, lt, rows_long strings) in subst IsUtf8 (sym (string_packed strings i here)) (are_texts_of i (get_or strings i []) (each.at i [] (omega (arith, here, each.long))));
      rows = rows_long strings ∙ each.long;
      validity = refl;
    }

pub packed_fit : (s : BinaryParts) → IfOk (packed_slots s) (AreUtf8Parts (count_rows s.offsets) s.validity)
packed_fit s = texts_packed (string_of_slot s) (count_rows s.offsets) s.validity (string_utf8 s)

pub utf8_parts_fit : (s : BinaryParts) → AreOffsets s.offsets → last_of s.offsets ≤ length s.bytes → IfOk (utf8_parts s) (AreUtf8Parts (count_rows s.offsets) s.validity)
utf8_parts_fit s rising within = by (are_utf8 s.offsets s.bytes) refl
  where
    by : (b : Bool) → are_utf8 s.offsets s.bytes ≡ b → IfOk (if b then Ok s else packed_slots s) (AreUtf8Parts (count_rows s.offsets) s.validity)
    by true e = record { rising = rising; within = within; texts = are_texts s.offsets s.bytes e; rows = refl; validity = refl }
    by false e = packed_fit s
