-- Strings that are packed one after the other.
use Rattle.std.proofs.Common.{◌≡◌, ℕ, zero, suc, ◌+◌, ◌-◌, ◌<◌, ◌≤◌, Bool, true, false, List, [], ◌∷◌, ◌++◌, length, get_or, map, Result, Ok, Err, refl, ap, sym, subst, ◌∙◌, arith}
use Rattle.std.specs.Prelude.{Option, Some, None, IfOk, if◌then◌else◌}
use Rattle.std.specs.Str.{IsUtf8, is_utf8}
use Rattle.std.proofs.lemmas.Str.{IsUtf8-from_is_utf8}
use Rattle.ipc_flatbuf.specs.ReadResults.{ReturnsOrRunsOut, ◌>>=◌}
use Rattle.ipc_flatbuf.specs.declared.error.IpcReadError.{IpcReadError}
use Rattle.nest_memory.specs.Physical.{physical_type, utf8_of_width}
use Rattle.nest_memory.specs.Rising.{last_of}
use Rattle.nest_memory.specs.TypeTree.{TypeTree}
use Rattle.nest_model.specs.Fits.{Fits, ValidityFits}
use Rattle.nest_model.specs.Layout.{Layout, utf8}
use Rattle.nest_model.specs.Part.{Validity, count_rows}
use Rattle.ipc_arrays.specs.Decoding.{BinaryParts, binary_parts, are_utf8, string_of_slot, packed_slots, checked_utf8}
use Rattle.ipc_arrays.specs.DecodingLaws.{found}
use Rattle.ipc_arrays.specs.EachSlot.{each_slot}
use Rattle.ipc_arrays.specs.EachSlotLaws.{each_more, each_fails}
use Rattle.ipc_arrays.specs.PackedStrings.{ArePacked, packed_offsets, packed_bytes}
use Rattle.ipc_arrays.specs.PackedStringLaws.{offsets_more, bytes_more}
use Rattle.ipc_arrays.specs.Utf8Laws.{AreUtf8Parts}

-- the strings of the first n slots are in these offsets and bytes
pub record IsPackedSoFar (f : ℕ → Result (List ℕ) IpcReadError) (n : ℕ) (os bs : List ℕ) : Type 0 where
  pub strings : List (List ℕ)
  pub packed : ArePacked os bs strings
  pub read : each_slot f n ≡ Ok strings

module _ (f : ℕ → Result (List ℕ) IpcReadError) where
  pub packed_none : (os bs : List ℕ) → ArePacked os bs [] → IsPackedSoFar f 0 os bs
  packed_none os bs packed = record { strings = []; packed = packed; read = refl }

  pub packed_more : (n : ℕ) (os bs ps cs s : List ℕ) → f n ≡ Ok s → ps ≡ os ++ (last_of os + length s) ∷ [] → cs ≡ bs ++ s → IsPackedSoFar f n os bs → IsPackedSoFar f (n + 1) ps cs
  packed_more n os bs ps cs s e a b h = record {
    strings = h.strings ++ s ∷ [];
    packed = (a ∙ (λ w. h.packed.0 w ++ (last_of (h.packed.0 w) + length s) ∷ []) ∙ sym (offsets_more h.strings s), b ∙ ap (λ (x : List ℕ). x ++ s) h.packed.1 ∙ sym (bytes_more h.strings s));
    read = each_more f n h.strings s h.read e;
  }

  pub packed_fails : (n rows : ℕ) (os bs : List ℕ) (e : IpcReadError) → n < rows → f n ≡ Err e → IsPackedSoFar f n os bs → each_slot f rows ≡ Err e
  packed_fails n rows os bs e lt w h =
      let k : rows ≡ n + 1 + (rows - (n + 1)) = omega arith in
      ap (each_slot f) k ∙ each_fails f n (rows - (n + 1)) h.strings e h.read w

  pub packed_done : (n rows : ℕ) (os bs : List ℕ) (va : Validity) → n ≡ rows → IsPackedSoFar f n os bs → (each_slot f rows >>= λ strings. Ok (binary_parts (packed_offsets strings) (packed_bytes strings) va)) ≡ Ok (binary_parts os bs va)
  packed_done n rows os bs va e h =
      (λ w. each_slot f (sym e w) >>= λ strings. Ok (binary_parts (packed_offsets strings) (packed_bytes strings) va))
      ∙ (λ w. h.read w >>= λ strings. Ok (binary_parts (packed_offsets strings) (packed_bytes strings) va))
      ∙ (λ w. Ok (binary_parts (sym h.packed.0 w) (sym h.packed.1 w) va))

  pub packed_errs : (n rows : ℕ) (os bs : List ℕ) (va : Validity) (e : IpcReadError) → n < rows → f n ≡ Err e → IsPackedSoFar f n os bs → (each_slot f rows >>= λ strings. Ok (binary_parts (packed_offsets strings) (packed_bytes strings) va)) ≡ Err e
  packed_errs n rows os bs va e lt w h = ap (λ (r : Result (List (List ℕ)) IpcReadError). r >>= λ strings. Ok (binary_parts (packed_offsets strings) (packed_bytes strings) va)) (packed_fails n rows os bs e lt w h)

-- ---- arrays of packed strings

-- packed strings are a UTF-8 array
pub packed_array : (large : Bool) (t : TypeTree) (n : ℕ) (va : Validity) (r : Result BinaryParts IpcReadError) (os bs : List ℕ) → IfOk r (AreUtf8Parts n va) → r ≡ Ok (binary_parts os bs va) → ValidityFits va n → physical_type t ≡ utf8_of_width large → Fits (utf8 large t os bs va)
packed_array large t n va r os bs holds e fits kind =
    let is = found (AreUtf8Parts n va) r (binary_parts os bs va) e holds in
    (is.within, (is.texts, (subst (ValidityFits va) (sym is.rows) fits, (kind, tt))))

abbrev pub frozen : List ℕ → List ℕ → Result (List ℕ × List ℕ) IpcReadError
frozen os bs = Ok (os, bs)

abbrev frozen_offsets : Result (List ℕ × List ℕ) IpcReadError → List ℕ
frozen_offsets (Ok parts) = parts.0
frozen_offsets (Err error) = []

abbrev frozen_bytes : Result (List ℕ × List ℕ) IpcReadError → List ℕ
frozen_bytes (Ok parts) = parts.1
frozen_bytes (Err error) = []

-- the frozen offsets and bytes are those of the packed strings
pub frozen_fit : (large : Bool) (t : TypeTree) (os bs ps cs : List ℕ) (va : Validity) → frozen os bs ≡ frozen ps cs → Fits (utf8 large t os bs va) → Fits (utf8 large t ps cs va)
frozen_fit large t os bs ps cs va e fits =
    let offsets : os ≡ ps = ap frozen_offsets e in
    let bytes : bs ≡ cs = ap frozen_bytes e in
    subst (λ (x : List ℕ). Fits (utf8 large t x cs va)) offsets (subst (λ (y : List ℕ). Fits (utf8 large t os y va)) bytes fits)

pub frozen_read : (large : Bool) (t : TypeTree) (os bs ps cs : List ℕ) (va : Validity) (r : Result Layout IpcReadError) → frozen os bs ≡ frozen ps cs → ReturnsOrRunsOut (λ a. a) r (Ok (utf8 large t ps cs va)) → ReturnsOrRunsOut (λ a. a) r (Ok (utf8 large t os bs va))
frozen_read large t os bs ps cs va r e read =
    let offsets : ps ≡ os = ap frozen_offsets (sym e) in
    let bytes : cs ≡ bs = ap frozen_bytes (sym e) in
    subst (λ (x : List ℕ). ReturnsOrRunsOut (λ a. a) r (Ok (utf8 large t x bs va))) offsets (subst (λ (y : List ℕ). ReturnsOrRunsOut (λ a. a) r (Ok (utf8 large t ps y va))) bytes read)

pub not_utf8 : (bs : List ℕ) → (IsUtf8 bs → ⊥) → is_utf8 bs ≡ false
not_utf8 bs none = by (is_utf8 bs) refl
  where
    by : (b : Bool) → is_utf8 bs ≡ b → b ≡ false
    by false e = refl
    by true e = absurd (none (IsUtf8-from_is_utf8 bs e))

-- the array of the parts is kept, or their slots are packed
pub kept_is : (large : Bool) (t : TypeTree) (s : BinaryParts) (k : Option Layout) (a : Layout) → k ≡ (if are_utf8 s.offsets s.bytes then Some (utf8 large t s.offsets s.bytes s.validity) else None) → k ≡ Some a → checked_utf8 large t s ≡ Ok a
kept_is large t s k a h e = by (are_utf8 s.offsets s.bytes) h
  where
    by : (b : Bool) → k ≡ (if b then Some (utf8 large t s.offsets s.bytes s.validity) else None) → ((if b then Ok s else packed_slots s) >>= λ p. Ok (utf8 large t p.offsets p.bytes p.validity)) ≡ Ok a
    by true h = let same : utf8 large t s.offsets s.bytes s.validity ≡ a = cc in ap (λ (x : Layout). Ok x) same
    by false h = cc

pub not_kept : (large : Bool) (t : TypeTree) (s : BinaryParts) (k : Option Layout) → k ≡ (if are_utf8 s.offsets s.bytes then Some (utf8 large t s.offsets s.bytes s.validity) else None) → k ≡ None
    → (packed_slots s >>= λ p. Ok (utf8 large t p.offsets p.bytes p.validity)) ≡ checked_utf8 large t s
not_kept large t s k h e = by (are_utf8 s.offsets s.bytes) h
  where
    by : (b : Bool) → k ≡ (if b then Some (utf8 large t s.offsets s.bytes s.validity) else None) → (packed_slots s >>= λ p. Ok (utf8 large t p.offsets p.bytes p.validity)) ≡ ((if b then Ok s else packed_slots s) >>= λ p. Ok (utf8 large t p.offsets p.bytes p.validity))
    by true h = cc
    by false h = refl
