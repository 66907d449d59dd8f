-- Offsets and data that are read and written.
use Rattle.std.proofs.Common.{◌≡◌, ℕ, ◌+◌, ◌-◌, ◌*◌, ◌^◌, ◌<◌, ◌≤◌, Bool, true, false, eqb, leb, List, [], ◌∷◌, length, get_or, take, map, ◌++◌, Ok, Err, refl, sym, ap, ◌∙◌, arith}
use Rattle.std.specs.Prelude.{ℤ, Some, None, if◌then◌else◌, slice_get}
use Rattle.std.proofs.Math.Nat.{mul-le-mul_left, mul-div_cancel}
use Rattle.std.proofs.lemmas.Bool.{le-leb, lt-leb}
use Rattle.std.proofs.lemmas.List.{length-map, map-append, take_more}
use Rattle.std.proofs.lemmas.Option.{get_or_from_slice_get}
use Rattle.ipc_flatbuf.specs.ReadResults.{◌>>=◌}
use Rattle.ipc_flatbuf.specs.declared.error.IpcReadError.TheVariants.{BufferTooShort, Offsets, OffsetPastChild}
use Rattle.nest_memory.specs.Native.{signed, unsigned}
use Rattle.nest_memory.specs.Physical.{physical_type, utf8_of_width}
use Rattle.nest_memory.specs.Rising.{are_offsets, numbers, to_nat, last_of, IsNondecreasing}
use Rattle.nest_memory.specs.TypeTree.{TypeTree, size_of}
use Rattle.nest_memory.specs.declared.datatypes.physical_type.PhysicalType.TheVariants as physical
use Rattle.nest_memory.specs.declared.error.Error.{Error}
use Rattle.nest_model.specs.Decide.{pass-no_error}
use Rattle.nest_model.specs.Fits.{ValidityFits, Fits, FirstError, checks, covered}
use Rattle.nest_model.specs.Layout.{utf8, fixed_size_binary}
use Rattle.nest_model.specs.Part.{Validity, begin, count_rows}
use Rattle.nest_model.specs.Runs.{product-exact, length-cut}
use Rattle.ipc_arrays.specs.Decoding.{decoded_values, decoded_bytes, checked_offsets, decoded_offsets, decoded_data, are_utf8}
use Rattle.ipc_arrays.specs.FixedWidth.{ByteFormat, offset_format, only}
use Rattle.ipc_arrays.specs.FixedWidthLaws.{offset_sized, values_long}
use Rattle.ipc_arrays.specs.VariableSizeLaws.{rebased_at, rebased_long, texts_hold, texts_fail}
use Rattle.ipc_arrays.specs.BodyBuffers.{body_of}
use Rattle.ipc_arrays.specs.Encoding.{rebased, normalized_validity_bytes, offset_bytes, string_buffers}
use Rattle.ipc_arrays.proofs.Arrays.{second_within}

-- ---- reading offsets

module _ {A : Type 0} (numbers_of : A → List ℤ) (value : A → ℤ) (one : (x : A) → numbers_of x ≡ signed (value x)) where
  values_are : (items : List A) → map only (map numbers_of items) ≡ map value items
  values_are [] = refl
  values_are (x ∷ items) = λ w. only (one x w) ∷ values_are items w

  numbers_are : (items : List A) → map to_nat (map value items) ≡ numbers value items
  unfolding numbers
  numbers_are [] = refl
  numbers_are (x ∷ items) = ap (λ (ns : List ℕ). to_nat (value x) ∷ ns) (numbers_are items)

  pub offsets_made : (items : List A) → are_offsets (map value items) ≡ true → checked_offsets (map numbers_of items) ≡ Ok (numbers value items)
  unfolding checked_offsets
  offsets_made items rising = rw (values_are items, rising, numbers_are items) refl

  pub offsets_refused : (items : List A) → are_offsets (map value items) ≡ false → checked_offsets (map numbers_of items) ≡ Err Offsets
  unfolding checked_offsets
  offsets_refused items falls = rw (values_are items, falls) refl

pub numbers_long : {A : Type 0} (value : A → ℤ) (items : List A) → length (numbers value items) ≡ length items
unfolding numbers
numbers_long value items = length-map items (λ x. to_nat (value x))

pub is_true : (b : Bool) → (b ≡ false → ⊥) → b ≡ true
is_true true unlike = refl
is_true false unlike = absurd (unlike refl)

not_zero : (n : ℕ) → 0 < n → eqb n 0 ≡ false
not_zero n some = grind arith

-- more offsets than any buffer holds
pub offsets_past : (large : Bool) (slots : ℕ) (bytes : List ℕ) → (slots + 1 < 2 ^ 64 → ⊥) → length bytes < 2 ^ 64 → decoded_offsets large slots bytes ≡ Err BufferTooShort
unfolding decoded_offsets decoded_values
offsets_past large slots bytes past few =
    let size : ℕ = (offset_format large).size in
    let many : (slots + 1) * 1 ≤ (slots + 1) * size = mul-le-mul_left (slots + 1) (offset_sized large).some in
    let at_least : 2 ^ 64 ≤ slots + 1 = omega (arith, past) in
    let short : leb ((slots + 1) * size) (length bytes) ≡ false = lt-leb _ _ (omega (arith, many, at_least, few)) in
    rw (not_zero slots (omega (arith, at_least)), short) refl

-- with slots, the offsets are read
pub offsets_of_some : (large : Bool) (format : ByteFormat) (slots : ℕ) (bytes : List ℕ) → format ≡ offset_format large → eqb slots 0 ≡ false → decoded_offsets large slots bytes ≡ (decoded_values format (slots + 1) bytes >>= λ values. checked_offsets values)
unfolding decoded_offsets
offsets_of_some large format slots bytes e some = rw (some, e) refl

-- ---- reading data

pub covered_past : (last : ℕ) (bytes : List ℕ) → length bytes < last → decoded_data last bytes ≡ Err OffsetPastChild
unfolding decoded_data
covered_past last bytes lt =
    let past : leb last (length bytes) ≡ false = lt-leb _ _ lt in
    rw past refl

pub covered_is : (last : ℕ) (bytes : List ℕ) → last ≤ length bytes → decoded_bytes last bytes ≡ decoded_data last bytes
unfolding decoded_data decoded_bytes
covered_is last bytes le =
    let within : leb last (length bytes) ≡ true = le-leb _ _ le in
    rw within refl

-- ---- invariants of arrays

pub sized_fits : (t : TypeTree) (bs : List ℕ) (va : Validity) (rows : ℕ) → physical_type t ≡ physical.FixedSizeBinary → 0 < size_of t → length bs ≡ rows * size_of t → ValidityFits va rows → Fits (fixed_size_binary t bs va)
sized_fits t bs va rows kind some long fits =
    let exact = product-exact rows (size_of t) in
    let back = mul-div_cancel rows some in
    (kind, (some, (rw long exact, (rw (long, back) fits, tt))))

pub texts_are : (large : Bool) (t : TypeTree) (os bs : List ℕ) (va : Validity) → Fits (utf8 large t os bs va) → (if are_utf8 os bs then Some (utf8 large t os bs va) else None) ≡ Some (utf8 large t os bs va)
texts_are large t os bs va fits = rw (texts_hold os bs fits.1.0) refl

pub texts_are_none : (large : Bool) (t : TypeTree) (os bs : List ℕ) (va : Validity) (e : Error) → last_of os ≤ length bs → ValidityFits va (count_rows os) → physical_type t ≡ utf8_of_width large → FirstError e (utf8 large t os bs va)
    → (if are_utf8 os bs then Some (utf8 large t os bs va) else None) ≡ None
texts_are_none large t os bs va e within slots kind error =
    rw (texts_fail os bs (λ each. pass-no_error (checks (utf8 large t os bs va)) e (within, (each, (slots, (kind, tt)))) error)) refl

-- ---- writing offsets

pub first_rebased : (os : List ℕ) → 0 < length os → take (0 + 1) (rebased os) ≡ 0 ∷ []
first_rebased [] some = absurd (omega arith)
first_rebased (x ∷ os) some = let e : x - x ≡ 0 = omega arith in ap (λ (n : ℕ). n ∷ []) e

pub next_rebased : (os : List ℕ) (i first end : ℕ) → i + 1 < length os → slice_get os 0 ≡ Some first → slice_get os (i + 1) ≡ Some end → map unsigned (take (i + 1 + 1) (rebased os)) ≡ map unsigned (take (i + 1) (rebased os)) ++ unsigned (end - first) ∷ []
next_rebased os i first end lt f e =
    let start : first ≡ begin os 0 = sym (get_or_from_slice_get os 0 first 0 f) in
    let stop : end ≡ get_or os (i + 1) 0 = sym (get_or_from_slice_get os (i + 1) end 0 e) in
    let at : get_or (rebased os) (i + 1) 0 ≡ end - first = rebased_at os (i + 1) lt ∙ sym (λ w. stop w - start w) in
    let more : take (i + 1 + 1) (rebased os) ≡ take (i + 1) (rebased os) ++ (end - first) ∷ [] = take_more (rebased os) (i + 1) 0 (omega (arith, rebased_long os)) ∙ ap (λ (n : ℕ). take (i + 1) (rebased os) ++ n ∷ []) at in
    ap (map unsigned) more ∙ map-append unsigned (take (i + 1) (rebased os)) ((end - first) ∷ [])

pub end_small : (os : List ℕ) (i end largest : ℕ) → IsNondecreasing os → i + 1 < length os → slice_get os (i + 1) ≡ Some end → last_of os ≤ largest → end ≤ largest
end_small os i end largest never lt e fits =
    let stop : end ≡ get_or os (i + 1) 0 = sym (get_or_from_slice_get os (i + 1) end 0 e) in
    omega (arith, stop, never (i + 1) (length os - 1) (omega arith) (omega arith), fits)

offsets_long : (large : Bool) (os : List ℕ) → length (offset_bytes large (rebased os)) ≡ length os * (offset_format large).size
offsets_long large os =
    values_long (offset_format large) (map unsigned (rebased os)) (offset_sized large).long ∙ ap (λ (n : ℕ). n * (offset_format large).size) (length-map (rebased os) unsigned ∙ rebased_long os)

-- the sizes of the buffers of a binary array
pub string_sizes : (large : Bool) (format : ByteFormat) (os bs : List ℕ) (va : Validity) (n m first last : ℕ) → format ≡ offset_format large → IsNondecreasing os → 0 < length os → last_of os ≤ length bs → n ≡ length (normalized_validity_bytes va) → m ≡ length os * format.size → slice_get os 0 ≡ Some first → last ≡ last_of os
    → map length (string_buffers large os bs va) ≡ n ∷ m ∷ (last - first) ∷ []
string_sizes large format os bs va n m first last is never some within e f g l =
    let start : first ≡ begin os 0 = sym (get_or_from_slice_get os 0 first 0 g) in
    let order = never 0 (length os - 1) (omega arith) (omega (arith, some)) in
    let offsets : length (offset_bytes large (rebased os)) ≡ m = offsets_long large os ∙ ap (λ (x : ByteFormat). length os * x.size) (sym is) ∙ sym f in
    let bytes : length (covered os bs) ≡ last - first = length-cut bs (begin os 0) (last_of os - begin os 0) (omega arith) ∙ (λ w. sym l w - sym start w) in
    λ w. sym e w ∷ offsets w ∷ bytes w ∷ []

pub string_past : (large : Bool) (format : ByteFormat) (os bs : List ℕ) (va : Validity) (p : ℕ) → format ≡ offset_format large → 2 ^ 63 ≤ length os * format.size → 2 ^ 63 ≤ p + length (body_of (string_buffers large os bs va))
string_past large format os bs va p is long =
    let offsets : length (offset_bytes large (rebased os)) ≡ length os * format.size = offsets_long large os ∙ ap (λ (x : ByteFormat). length os * x.size) (sym is) in
    omega (arith, long, offsets, second_within (normalized_validity_bytes va) (offset_bytes large (rebased os)) (covered os bs ∷ []))

pub first_small : (os : List ℕ) (i first end : ℕ) → IsNondecreasing os → i < length os → slice_get os 0 ≡ Some first → slice_get os i ≡ Some end → first ≤ end
first_small os i first end never lt f e =
    let start : first ≡ get_or os 0 0 = sym (get_or_from_slice_get os 0 first 0 f) in
    let stop : end ≡ get_or os i 0 = sym (get_or_from_slice_get os i end 0 e) in
    omega (arith, start, stop, never 0 i (omega arith) lt)

pub first_last : (os : List ℕ) (first last : ℕ) → IsNondecreasing os → 0 < length os → slice_get os 0 ≡ Some first → last ≡ last_of os → first ≤ last
first_last os first last never some f l =
    let start : first ≡ get_or os 0 0 = sym (get_or_from_slice_get os 0 first 0 f) in
    omega (arith, start, l, never 0 (length os - 1) (omega arith) (omega (arith, some)))
