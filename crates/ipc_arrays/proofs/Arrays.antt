-- The buffers of each type of array.
use Rattle.std.proofs.Common.{◌≡◌, ℕ, ◌+◌, ◌*◌, ◌^◌, ◌≤◌, Bool, true, false, eqb, List, [], ◌∷◌, ◌++◌, length, map, Some, refl, sym, ap, subst, ◌∙◌, append_assoc, arith}
use Rattle.std.specs.Prelude.{not, count_by, Option, Result, Ok, Err, OnOk, IfErr, is_ok, if◌then◌else◌}
use Rattle.std.specs.Int.{div_ceil}
use Rattle.std.specs.List.{AllByRecursion, range_with_len}
use Rattle.std.proofs.lemmas.List.{append-nil, length-append}
use Rattle.std.proofs.lemmas.List.FromFn.{length-range_with_len}
use Rattle.std.proofs.lemmas.List.Sums.{count_by-le-length}
use Rattle.nest_memory.specs.declared.datatypes.physical_type.PrimitiveType.{PrimitiveType}
use Rattle.nest_model.specs.Accessors.{bits_of, bytes_of, child_of, keys_of, natives_of, offsets_of, validity_of}
use Rattle.nest_model.specs.Array.{TopFits}
use Rattle.nest_model.specs.Fits.{ValidityFits}
use Rattle.nest_model.specs.Layout.{Layout, boolean, primitive, binary, utf8, fixed_size_binary, dictionary, layout_type}
use Rattle.nest_model.specs.Meaning.{len}
use Rattle.nest_model.specs.Nullness.{null_count, is_null_at}
use Rattle.ipc_arrays.specs.DictionaryKeys.{zero_at_nulls}
use Rattle.ipc_arrays.specs.DictionaryKeyLaws.{blanked_long}
use Rattle.ipc_arrays.specs.Bitmaps.{bitmap_bytes}
use Rattle.ipc_arrays.specs.BitmapLaws.{packed_long}
use Rattle.ipc_arrays.specs.BodyBuffers.{padded, body_of}
use Rattle.ipc_arrays.specs.BodyBufferLaws.{padded_long, body_more, body_none}
use Rattle.ipc_arrays.specs.FixedWidth.{ByteFormat, format_of, values_bytes}
use Rattle.ipc_arrays.specs.FixedWidthLaws.{ValueRoundTrips, form_sized, values_long}
use Rattle.ipc_arrays.specs.Encoding.{normalized_validity_bytes, bytes_by, normalized_keys, key_buffers, flat_buffers}
use Rattle.ipc_arrays.specs.EncodingLaws.{RoundTripsInFormat, KeysRoundTrip, OffsetsRoundTrip, IsWritable, eqb-zero}

-- ---- facts about results

module _ {T E : Type 0} where
  pub on_ok : {P Q : Type 0} (r : Result T E) → OnOk r P → (P → Q) → OnOk r Q
  on_ok (Ok x) p f = f p
  on_ok (Err e) p f = tt

  pub if_err : {P Q : E → Type 0} (r : Result T E) → IfErr r P → ((e : E) → P e → Q e) → IfErr r Q
  if_err (Ok x) p f = tt
  if_err (Err e) p f = f e p

-- what a call appends, unless it fails
pub appended : {T E : Type 0} (r : Result T E) (old new a b : List ℕ) → a ≡ b → new ≡ (if is_ok r then old ++ a else old) → OnOk r (new ≡ old ++ b)
appended (Ok x) old new a b e h = h ∙ ap (λ (x : List ℕ). old ++ x) e
appended (Err x) old new a b e h = tt

-- ---- bodies of one, two and three buffers

pub write_two : (old out a b : List ℕ) → out ≡ old ++ a → out ++ b ≡ old ++ (a ++ b)
write_two old out a b e = ap (λ (x : List ℕ). x ++ b) e ∙ append_assoc old a b

pub two_body : (a b : List ℕ) → body_of (a ∷ b ∷ []) ≡ padded a ++ padded b
two_body a b = body_more a (b ∷ []) ∙ ap (λ (x : List ℕ). padded a ++ x) (body_more b [] ∙ ap (λ (x : List ℕ). padded b ++ x) body_none ∙ append-nil (padded b))

pub two_written : (old out new a b : List ℕ) (buffers : List (List ℕ)) → buffers ≡ a ∷ b ∷ [] → out ≡ old ++ padded a → new ≡ out ++ padded b → new ≡ old ++ body_of buffers
two_written old out new a b buffers e first second =
    second ∙ ap (λ (x : List ℕ). x ++ padded b) first ∙ append_assoc old (padded a) (padded b) ∙ ap (λ (x : List ℕ). old ++ x) (sym (ap body_of e ∙ two_body a b))

pub one_written : (old new a : List ℕ) (buffers : List (List ℕ)) → buffers ≡ a ∷ [] → new ≡ old ++ padded a → new ≡ old ++ body_of buffers
one_written old new a buffers e is = is ∙ ap (λ (x : List ℕ). old ++ x) (sym (ap body_of e ∙ body_more a [] ∙ ap (λ (x : List ℕ). padded a ++ x) body_none ∙ append-nil (padded a)))

pub three_written : (old out next new a b c : List ℕ) → out ≡ old ++ padded a → next ≡ out ++ padded b → new ≡ next ++ padded c → new ≡ old ++ body_of (a ∷ b ∷ c ∷ [])
three_written old out next new a b c first second third =
    let rest : next ++ padded c ≡ out ++ body_of (b ∷ c ∷ []) = two_written out next (next ++ padded c) b c (b ∷ c ∷ []) refl second refl in
    third ∙ rest ∙ ap (λ (x : List ℕ). x ++ body_of (b ∷ c ∷ [])) first ∙ append_assoc old (padded a) (body_of (b ∷ c ∷ [])) ∙ ap (λ (x : List ℕ). old ++ x) (sym (body_more a (b ∷ c ∷ [])))

-- the second buffer is no longer than the body
pub second_within : (a b : List ℕ) (more : List (List ℕ)) → length b ≤ length (body_of (a ∷ b ∷ more))
second_within a b more =
    let e : body_of (a ∷ b ∷ more) ≡ padded a ++ (padded b ++ body_of more) = body_more a (b ∷ more) ∙ ap (λ (x : List ℕ). padded a ++ x) (body_more b more) in
    omega (arith, ap length e, length-append (padded a) (padded b ++ body_of more), length-append (padded b) (body_of more), padded_long b)

-- ---- validities

pub bits_none : (bits : List Bool) → count_by not bits ≡ 0 → normalized_validity_bytes (Some bits) ≡ []
bits_none bits e = rw e refl

bits_by : (bits : List Bool) (b : Bool) → eqb (count_by not bits) 0 ≡ b → (count_by not bits ≡ 0 → ⊥) → normalized_validity_bytes (Some bits) ≡ bitmap_bytes bits
bits_by bits true e some = absurd (some (eqb-zero (count_by not bits) e))
bits_by bits false e some = rw e refl

pub bits_some : (bits : List Bool) → (count_by not bits ≡ 0 → ⊥) → normalized_validity_bytes (Some bits) ≡ bitmap_bytes bits
bits_some bits some = bits_by bits (eqb (count_by not bits) 0) refl some

pub some_size : (bits : List Bool) (n count : ℕ) → count ≡ count_by not bits → (count ≡ 0 → ⊥) → n ≡ div_ceil (length bits) 8 → n ≡ length (normalized_validity_bytes (Some bits))
some_size bits n count e some is = is ∙ sym (packed_long bits) ∙ sym (ap length (bits_some bits (λ none. some (e ∙ none))))

pub nulls_few : (a : Layout) → null_count a ≤ len a
nulls_few a = omega (arith, count_by-le-length (is_null_at a) (range_with_len 0 (len a)), length-range_with_len 0 (len a))

-- ---- primitive arrays

-- an array of a primitive type with this byte format
pub record IsOf (a : Layout) (k : PrimitiveType) (format : ByteFormat) : Type 0 where
  pub parts : a ≡ primitive k (layout_type a) (natives_of a) (validity_of a)
  pub has : format_of k ≡ Some format
  pub fits : TopFits a

pub native_buffers : (a : Layout) (k : PrimitiveType) (format : ByteFormat) → IsOf a k format → flat_buffers a ≡ normalized_validity_bytes (validity_of a) ∷ values_bytes format (natives_of a) ∷ []
native_buffers a k format h =
    ap flat_buffers h.parts
    ∙ ap (λ (o : Option ByteFormat). normalized_validity_bytes (validity_of a) ∷ bytes_by o (natives_of a) ∷ []) h.has

pub native_writable : (a : Layout) (k : PrimitiveType) (format : ByteFormat) → IsOf a k format → AllByRecursion (ValueRoundTrips format) (natives_of a) → IsWritable a
native_writable a k format h all =
    subst IsWritable (sym h.parts)
    (record { fits = subst TopFits h.parts h.fits; numbers = subst (λ (o : Option ByteFormat). RoundTripsInFormat o (natives_of a)) (sym h.has) all })

native_long : (a : Layout) (k : PrimitiveType) (format : ByteFormat) → IsOf a k format → length (values_bytes format (natives_of a)) ≡ len a * format.size
native_long a k format h = values_long format (natives_of a) (form_sized k format h.has).long ∙ ap (λ (b : Layout). len b * format.size) (sym h.parts)

-- the sizes of its buffers
pub native_sizes : (a : Layout) (k : PrimitiveType) (format : ByteFormat) (n m : ℕ) → IsOf a k format → n ≡ length (normalized_validity_bytes (validity_of a)) → m ≡ len a * format.size → map length (flat_buffers a) ≡ n ∷ m ∷ []
native_sizes a k format n m h e f = ap (map length) (native_buffers a k format h) ∙ (λ w. sym e w ∷ (native_long a k format h ∙ sym f) w ∷ [])

pub native_past : (a : Layout) (k : PrimitiveType) (format : ByteFormat) (p : ℕ) → IsOf a k format → 2 ^ 63 ≤ len a * format.size → 2 ^ 63 ≤ p + length (body_of (flat_buffers a))
native_past a k format p h long =
    omega (arith, long, native_long a k format h, ap (λ (buffers : List (List ℕ)). length (body_of buffers)) (native_buffers a k format h), second_within (normalized_validity_bytes (validity_of a)) (values_bytes format (natives_of a)) [])

-- ---- keys

pub keys_buffers : (a : Layout) (k : PrimitiveType) (format : ByteFormat) → IsOf a k format → key_buffers (normalized_keys a) ≡ normalized_validity_bytes (validity_of a) ∷ values_bytes format (zero_at_nulls (validity_of a) (natives_of a)) ∷ []
keys_buffers a k format h =
    ap (λ (b : Layout). key_buffers (normalized_keys b)) h.parts
    ∙ ap (λ (o : Option ByteFormat). normalized_validity_bytes (validity_of a) ∷ bytes_by o (zero_at_nulls (validity_of a) (natives_of a)) ∷ []) h.has

pub keys_round_trip : (a : Layout) (k : PrimitiveType) (format : ByteFormat) → IsOf a k format → AllByRecursion (ValueRoundTrips format) (zero_at_nulls (validity_of a) (natives_of a)) → KeysRoundTrip a
keys_round_trip a k format h all = subst KeysRoundTrip (sym h.parts) (subst (λ (o : Option ByteFormat). RoundTripsInFormat o (zero_at_nulls (validity_of a) (natives_of a))) (sym h.has) all)

pub keys_fit : (a : Layout) (k : PrimitiveType) (format : ByteFormat) → IsOf a k format → ValidityFits (validity_of a) (length (natives_of a))
keys_fit a k format h = let fits : TopFits (primitive k (layout_type a) (natives_of a) (validity_of a)) = subst TopFits h.parts h.fits in fits.1.0

keys_long : (a : Layout) (k : PrimitiveType) (format : ByteFormat) → IsOf a k format → length (values_bytes format (zero_at_nulls (validity_of a) (natives_of a))) ≡ len a * format.size
keys_long a k format h =
    values_long format (zero_at_nulls (validity_of a) (natives_of a)) (form_sized k format h.has).long
    ∙ ap (λ (n : ℕ). n * format.size) (blanked_long (validity_of a) (natives_of a))
    ∙ ap (λ (b : Layout). len b * format.size) (sym h.parts)

pub keys_sizes : (a : Layout) (k : PrimitiveType) (format : ByteFormat) (n m : ℕ) → IsOf a k format → n ≡ length (normalized_validity_bytes (validity_of a)) → m ≡ len a * format.size → map length (key_buffers (normalized_keys a)) ≡ n ∷ m ∷ []
keys_sizes a k format n m h e f = ap (map length) (keys_buffers a k format h) ∙ (λ w. sym e w ∷ (keys_long a k format h ∙ sym f) w ∷ [])

pub keys_past : (a : Layout) (k : PrimitiveType) (format : ByteFormat) (p : ℕ) → IsOf a k format → 2 ^ 63 ≤ len a * format.size → 2 ^ 63 ≤ p + length (body_of (key_buffers (normalized_keys a)))
keys_past a k format p h long =
    omega (arith, long, keys_long a k format h, ap (λ (buffers : List (List ℕ)). length (body_of buffers)) (keys_buffers a k format h), second_within (normalized_validity_bytes (validity_of a)) (values_bytes format (zero_at_nulls (validity_of a) (natives_of a))) [])

-- a dictionary-encoded array is written as its keys
pub dictionary_buffers : (a ks : Layout) → a ≡ dictionary (layout_type a) (keys_of a) (child_of a) → ks ≡ keys_of a → key_buffers (normalized_keys ks) ≡ flat_buffers a
dictionary_buffers a ks parts keys = ap (λ (b : Layout). key_buffers (normalized_keys b)) keys ∙ sym (ap flat_buffers parts)

pub dictionary_writable : (a ks : Layout) → a ≡ dictionary (layout_type a) (keys_of a) (child_of a) → ks ≡ keys_of a → TopFits a → KeysRoundTrip ks → IsWritable a
dictionary_writable a ks parts keys fits round_trips = subst IsWritable (sym parts) (record { fits = subst TopFits parts fits; numbers = subst KeysRoundTrip keys round_trips })

-- ---- booleans

pub boolean_sizes : (a : Layout) (n m : ℕ) → a ≡ boolean (layout_type a) (bits_of a) (validity_of a) → n ≡ length (normalized_validity_bytes (validity_of a)) → m ≡ div_ceil (length (bits_of a)) 8 → map length (flat_buffers a) ≡ n ∷ m ∷ []
boolean_sizes a n m parts e f = ap (λ (b : Layout). map length (flat_buffers b)) parts ∙ (λ w. sym e w ∷ (packed_long (bits_of a) ∙ sym f) w ∷ [])

pub boolean_writable : (a : Layout) → a ≡ boolean (layout_type a) (bits_of a) (validity_of a) → TopFits a → IsWritable a
boolean_writable a parts fits = subst IsWritable (sym parts) (record { fits = subst TopFits parts fits; numbers = tt })

-- ---- fixed-size binary

pub sized_sizes : (a : Layout) (n m : ℕ) → a ≡ fixed_size_binary (layout_type a) (bytes_of a) (validity_of a) → n ≡ length (normalized_validity_bytes (validity_of a)) → m ≡ length (bytes_of a) → map length (flat_buffers a) ≡ n ∷ m ∷ []
sized_sizes a n m parts e f = ap (λ (b : Layout). map length (flat_buffers b)) parts ∙ (λ w. sym e w ∷ sym f w ∷ [])

pub sized_writable : (a : Layout) → a ≡ fixed_size_binary (layout_type a) (bytes_of a) (validity_of a) → TopFits a → IsWritable a
sized_writable a parts fits = subst IsWritable (sym parts) (record { fits = subst TopFits parts fits; numbers = tt })

-- ---- binary and UTF-8

pub binary_writable : (large : Bool) (a : Layout) → a ≡ binary large (layout_type a) (offsets_of a) (bytes_of a) (validity_of a) → TopFits a → OffsetsRoundTrip large (offsets_of a) → IsWritable a
binary_writable large a parts fits round_trips = subst IsWritable (sym parts) (record { fits = subst TopFits parts fits; numbers = round_trips })

pub text_writable : (large : Bool) (a : Layout) → a ≡ utf8 large (layout_type a) (offsets_of a) (bytes_of a) (validity_of a) → TopFits a → OffsetsRoundTrip large (offsets_of a) → IsWritable a
text_writable large a parts fits round_trips = subst IsWritable (sym parts) (record { fits = subst TopFits parts fits; numbers = round_trips })
