-- Keys that are written are indices of the same values, and setting keys to 0 at nulls is idempotent.
use Rattle.std.proofs.Common.{◌≡◌, ℕ, ◌+◌, ◌<◌, Bool, true, false, not, List, [], length, get_or, map, Some, None, refl, sym, ap, subst, ◌∙◌, arith}
use Rattle.std.specs.Prelude.{ℤ, pos, negsuc, Option, if◌then◌else◌, ◌||◌}
use Rattle.std.specs.List.{list_all, range_with_len}
use Rattle.std.proofs.lemmas.Bool.{lt-ltb}
use Rattle.std.proofs.lemmas.List.{get_or_default}
use Rattle.std.proofs.lemmas.List.FromFn.{length-range_with_len, get_or-range_with_len, fill_by_all}
use Rattle.std.proofs.lemmas.List.Recursion.{and_from_places}
use Rattle.std.proofs.Math.ListN.{get_or-map}
use Rattle.nest_memory.specs.Physical.{physical_type}
use Rattle.nest_memory.specs.TypeEq.{same_type-decides}
use Rattle.nest_memory.specs.TypeTree as types
use Rattle.nest_memory.specs.TypeTree.{TypeTree, key_type, logical_type}
use Rattle.nest_memory.specs.declared.datatypes.IntegerType.{IntegerType}
use Rattle.nest_memory.specs.declared.datatypes.IntegerType.TheVariants as integers
use Rattle.nest_memory.specs.declared.datatypes.physical_type.PhysicalType.TheVariants as physical
use Rattle.nest_memory.specs.declared.datatypes.physical_type.PrimitiveType.{PrimitiveType}
use Rattle.nest_model.specs.Accessors.{validity_of, as_integer, key_at}
use Rattle.nest_model.specs.Fits.{Names, IsLogically, EachValidNames}
use Rattle.nest_model.specs.Layout.{Layout, primitive}
use Rattle.nest_model.specs.Meaning.{len}
use Rattle.nest_model.specs.Part.{Validity, valid_at}
use Rattle.ipc_arrays.specs.Decoding.{is_index_below, is_key_in_range, are_keys_in_range}
use Rattle.ipc_arrays.specs.DictionaryKeys.{key_primitive, key_format, null_key, key_or_zero, zero_at_nulls, is_same_logical_type}
use Rattle.ipc_arrays.specs.DictionaryKeyLaws.{blank_place, blanked_long}
use Rattle.ipc_arrays.specs.FixedWidth.{format_of}
use Rattle.ipc_arrays.specs.FixedWidthLaws.{IsSized, form_sized}

-- ---- types

key_formed : (k : IntegerType) → format_of (key_primitive k) ≡ Some (key_format k)
key_formed integers.Int8 = refl
key_formed integers.Int16 = refl
key_formed integers.Int32 = refl
key_formed integers.Int64 = refl
key_formed integers.UInt8 = refl
key_formed integers.UInt16 = refl
key_formed integers.UInt32 = refl
key_formed integers.UInt64 = refl

pub key_sized : (k : IntegerType) → IsSized (key_format k)
key_sized k = form_sized (key_primitive k) (key_format k) (key_formed k)

-- the type of a dictionary, with extensions resolved
pub dictionary_kind : (t : TypeTree) (k : IntegerType) → key_type t ≡ Some k → physical_type t ≡ physical.Dictionary k
dictionary_kind (types.dictionary j u b) k e = cc
dictionary_kind (types.extension x s m) k e = dictionary_kind s k e
dictionary_kind t k e = cc

pub logically_so : (u : Option TypeTree) (t : TypeTree) → IsLogically u t → is_same_logical_type u t ≡ true
logically_so None t h = absurd h
logically_so (Some u) t h = (same_type-decides (logical_type u) (logical_type t)).1 (sym h)

-- ---- keys as indices

pub names_so : (z : ℤ) (n : ℕ) → Names z n → is_index_below z n ≡ true
names_so (pos k) n h = lt-ltb _ _ h
names_so (negsuc k) n h = absurd h

named_where : (b : Bool) (z : ℤ) (n : ℕ) → (b ≡ true → Names z n) → (not b || is_index_below z n) ≡ true
named_where true z n h = names_so z n (h refl)
named_where false z n h = refl

pub each_named : (ks : Layout) (n : ℕ) → EachValidNames (validity_of ks) ks n → are_keys_in_range ks n ≡ true
each_named ks n h =
    let places : List ℕ = range_with_len 0 (len ks) in
    and_from_places (list_all (is_key_in_range ks n)) (is_key_in_range ks n) refl (λ p ps. refl) places 0
    (λ i lt.
    let within : i < len ks = omega (arith, length-range_with_len 0 (len ks)) in
    let same : get_or places i 0 ≡ i = get_or-range_with_len 0 (len ks) i 0 within ∙ (let e : 0 + i ≡ i = omega arith in e) in
    ap (is_key_in_range ks n) same ∙ named_where (valid_at (validity_of ks) i) (key_at ks i) n (λ v. h i within v))

-- ---- keys of null slots

-- keys one after the other
pub blanked_all : (va : Validity) (values : List (List ℤ)) (n : ℕ) → n ≡ length values → map (key_or_zero va values) (range_with_len 0 n) ≡ zero_at_nulls va values
unfolding zero_at_nulls
blanked_all va values n e = ap (λ (m : ℕ). map (key_or_zero va values) (range_with_len 0 m)) e

once : (b : Bool) (x y : List ℤ) → (if b then (if b then x else y) else y) ≡ (if b then x else y)
once true x y = refl
once false x y = refl

-- setting keys to 0 at nulls twice is the same as once
pub blank_twice : (va wa : Validity) (values : List (List ℤ)) → ((i : ℕ) → valid_at va i ≡ valid_at wa i) → zero_at_nulls wa (zero_at_nulls va values) ≡ zero_at_nulls va values
unfolding zero_at_nulls
blank_twice va wa values same =
    let long : length (zero_at_nulls va values) ≡ length values = blanked_long va values in
    fill_by_all (key_or_zero va values) (zero_at_nulls wa (zero_at_nulls va values)) (length values) null_key (blanked_long wa (zero_at_nulls va values) ∙ long)
    (λ i lt.
    blank_place wa (zero_at_nulls va values) i (omega (arith, long)) null_key
    ∙ (λ w. if sym (same i) w then blank_place va values i lt null_key w else null_key)
    ∙ once (valid_at va i) (get_or values i null_key) null_key)

-- a valid key does not change
pub key_stays : (va : Validity) (values : List (List ℤ)) (i : ℕ) → i < length values → valid_at va i ≡ true → get_or (map as_integer (zero_at_nulls va values)) i (pos 0) ≡ get_or (map as_integer values) i (pos 0)
key_stays va values i lt valid =
    let there : key_or_zero va values i ≡ get_or values i null_key = ap (λ (b : Bool). if b then get_or values i null_key else null_key) valid in
    get_or-map as_integer (zero_at_nulls va values) i []
    ∙ ap as_integer (blank_place va values i lt [] ∙ there ∙ get_or_default values i null_key [] lt)
    ∙ sym (get_or-map as_integer values i [])

-- so it is an index of the same value
pub names_stay : (p q : PrimitiveType) (t u : TypeTree) (va wa : Validity) (values : List (List ℤ)) (n : ℕ) → ((i : ℕ) → valid_at va i ≡ valid_at wa i) → EachValidNames va (primitive p t values va) n → EachValidNames wa (primitive q u (zero_at_nulls va values) wa) n
names_stay p q t u va wa values n same h =
    λ i lt v.
    let within : i < length values = omega (arith, lt, blanked_long va values) in
    let valid : valid_at va i ≡ true = same i ∙ v in
    subst (λ (z : ℤ). Names z n) (sym (key_stays va values i within valid)) (h i within valid)
