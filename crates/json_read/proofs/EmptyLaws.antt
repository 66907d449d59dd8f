-- Builders without rows, by the kind of their type.
use Rattle.std.specs.Prelude.{nat_eq, if◌then◌else◌}
use Rattle.std.proofs.Common.{rules, ◌≡◌, ◌≢◌, ◌∙◌, ℕ, suc, ◌*◌, ◌<◌, inl, inr, Bool, true, false, not, ◌||◌, [], ◌∷◌, length, Option, Some, None, refl, ap, sym, subst, arith}
use Rattle.nest_memory.specs.Physical.{physical_type, binary_of_width, utf8_of_width}
use Rattle.nest_memory.specs.TypeTree as types
use Rattle.nest_memory.specs.TypeTree.{Letters, TypeTree, FieldTree, field, FieldTrees, no_fields, more_fields, field_type, count_fields, fields_of, item_type, key_type, logical_type, size_of, value_type}
use Rattle.nest_memory.specs.declared.datatypes.IntegerType.{IntegerType}
use Rattle.nest_memory.specs.declared.datatypes.IntervalUnit.TheVariants.{YearMonth, DayTime, MonthDayNano}
use Rattle.nest_memory.specs.declared.datatypes.physical_type.PhysicalType.{PhysicalType}
use Rattle.nest_memory.specs.declared.datatypes.physical_type.PhysicalType.TheVariants as physical
use Rattle.nest_memory.specs.declared.datatypes.physical_type.PrimitiveType.{PrimitiveType}
use Rattle.nest_model.specs.BuilderAddRow.{AreEachComplete, HaveRows}
use Rattle.nest_model.specs.BuilderTree as builders
use Rattle.nest_model.specs.BuilderTree.{BuilderTree, BuilderTrees, no_builders, more_builders, builder_len, builder_type, builder_types}
use Rattle.nest_model.specs.BuilderComplete.{AreComplete}
use Rattle.nest_model.specs.Checks.{Pass}
use Rattle.nest_model.specs.Fits.{IsLogically}
use Rattle.nest_model.specs.Layout.{Layout, layout_type, field_types}
use Rattle.nest_model.specs.Meaning.{slots_of}
use Rattle.json_read.specs.DistinctNames.{FieldHasDistinctFieldNames, FieldsHaveDistinctFieldNames, HasDistinctFieldNames}
use Rattle.json_write.specs.TypedSlots.{HaveDistinctNames, LacksField}
use Rattle.json_write.specs.JsonText.{field_name}
use Rattle.nest_build.specs.Rows.{encoded_bits}
use Rattle.std.proofs.lemmas.Slice.Eq.{bytes_eq-Decides}
use Rattle.std.specs.Str.{bytes_eq}
use Rattle.json_read.specs.EmptyBuilders.{AreEmptyOf, HoldsEmpty, IsEmptyOf, is_float}
use Rattle.nest_any.specs.Refusals.{AreFlat, IsOfLists, count_builders, empty_lists, first_rows, is_flat, struct_checks}
use Rattle.json_read.specs.JsonSlots.{is_named}
use Rattle.json_read.specs.UnsupportedTypes.{unsupported_field, unsupported_fields, has_duplicate_names, spec_is_variable_size_binary, unsupported_type, first_unsupported, unsupported_if}
use Rattle.json_read.specs.declared.error.UnsupportedTypeError.{UnsupportedTypeError}
use Rattle.json_read.specs.declared.error.UnsupportedTypeError.TheVariants.{VariableSizeExtension, DictionaryValues, EmptyStruct, DuplicateFieldNames, ZeroSize}

-- what a reason that is none says of its test, and of the others
pub unless-then : (b : Bool) (e : UnsupportedTypeError) (rest : Option UnsupportedTypeError) → unsupported_if b e rest ≡ None → (b ≡ false) × (rest ≡ None)
unless-then true e rest h = cc
unless-then false e rest h = (refl, h)

pub first-then : (a b : Option UnsupportedTypeError) → first_unsupported a b ≡ None → (a ≡ None) × (b ≡ None)
first-then None b h = (refl, h)
first-then (Some e) b h = cc

-- the storage of an extension type can be read
storage-read : (x : Letters) (t : TypeTree) (m : Option Letters) → unsupported_type (types.extension x t m) ≡ None → (spec_is_variable_size_binary (physical_type t) ≡ false) × (unsupported_type t ≡ None)
storage-read x t m h =
    unless-then (spec_is_variable_size_binary (physical_type t)) VariableSizeExtension (unsupported_type t) h

-- ---- without children

pub flat-empty : (t : TypeTree) (a : Layout) → layout_type a ≡ t → slots_of a ≡ [] → IsEmptyOf t (builders.flat (layout_type a) (slots_of a))
flat-empty t a same none = record { complete = tt; no_slot = none; no_row = ap length none; same_type = same }

pub text-is : (large : Bool) (t : TypeTree) → physical_type t ≡ utf8_of_width large → unsupported_type t ≡ None → t ≡ (if large then types.large_utf8 else types.utf8)
text-is false types.utf8 h f = refl
text-is true types.large_utf8 h f = refl
text-is false (types.extension x t m) h f = let b = storage-read x t m f in cc
text-is true (types.extension x t m) h f = let b = storage-read x t m f in cc
text-is false t h f = cc
text-is true t h f = cc

pub binary-is : (large : Bool) (t : TypeTree) → physical_type t ≡ binary_of_width large → unsupported_type t ≡ None → t ≡ (if large then types.large_binary else types.binary)
binary-is false types.binary h f = refl
binary-is true types.large_binary h f = refl
binary-is false (types.extension x t m) h f = let b = storage-read x t m f in cc
binary-is true (types.extension x t m) h f = let b = storage-read x t m f in cc
binary-is false t h f = cc
binary-is true t h f = cc

pub bytes-size : (t : TypeTree) → physical_type t ≡ physical.FixedSizeBinary → unsupported_type t ≡ None → nat_eq (size_of t) 0 ≡ false
bytes-size (types.fixed_size_binary s) h f = (unless-then _ _ _ f).0
bytes-size (types.extension x t m) h f = bytes-size t h (storage-read x t m f).1
bytes-size t h f = cc

abbrev is_float_kind : PhysicalType → Bool
is_float_kind (physical.Primitive p) = is_float p
is_float_kind _ = false

no-float-kind : (t : TypeTree) → unsupported_type t ≡ None → is_float_kind (physical_type t) ≡ false
no-float-kind types.float16 f = cc
no-float-kind types.float32 f = cc
no-float-kind types.float64 f = cc
no-float-kind (types.interval YearMonth) f = refl
no-float-kind (types.interval DayTime) f = refl
no-float-kind (types.interval MonthDayNano) f = refl
no-float-kind (types.extension x t m) f = no-float-kind t (storage-read x t m f).1
no-float-kind t f = refl

pub no-float : (p : PrimitiveType) (t : TypeTree) → physical_type t ≡ physical.Primitive p → unsupported_type t ≡ None → is_float p ≡ false
no-float p t h f = ap is_float_kind (sym h) ∙ no-float-kind t f

-- ---- kinds that are not read

pub no-union : (t : TypeTree) → physical_type t ≡ physical.Union → unsupported_type t ≡ None → ⊥
no-union (types.union fs ids mode) h f = cc
no-union (types.extension x t m) h f = no-union t h (storage-read x t m f).1
no-union t h f = cc

pub no-map : (t : TypeTree) → physical_type t ≡ physical.Map → unsupported_type t ≡ None → ⊥
no-map (types.map e b) h f = cc
no-map (types.extension x t m) h f = no-map t h (storage-read x t m f).1
no-map t h f = cc

-- ---- over a child

not-false : (b : Bool) → not b ≡ false → b ≡ true
not-false true h = refl
not-false false h = cc

pub some-fields : (n : ℕ) → nat_eq n 0 ≡ false → 0 < n
some-fields n h = search rules

-- it is of lists, which have no keys
pub list-keys : (t : TypeTree) → IsOfLists (physical_type t) → key_type t ≡ None
list-keys (types.extension x t m) h = list-keys t h
list-keys (types.dictionary k t b) (inl h) = cc
list-keys (types.dictionary k t b) (inr (inl h)) = cc
list-keys (types.dictionary k t b) (inr (inr h)) = cc
list-keys t h = refl

list-sized : (t : TypeTree) → unsupported_type t ≡ None → physical_type t ≡ physical.FixedSizeList → 0 < size_of t
list-sized (types.fixed_size_list f s) h k = some-fields s (unless-then (nat_eq s 0) ZeroSize (unsupported_field f) h).0
list-sized (types.extension x t m) h k = list-sized t (storage-read x t m h).1 k
list-sized t h k = cc

pub item-read : (t u : TypeTree) → item_type t ≡ Some u → unsupported_type t ≡ None → unsupported_type u ≡ None
item-read (types.list (field x v b es)) u e h = let q : v ≡ u = cc in ap unsupported_type (sym q) ∙ h
item-read (types.large_list (field x v b es)) u e h = let q : v ≡ u = cc in ap unsupported_type (sym q) ∙ h
item-read (types.fixed_size_list (field x v b es) s) u e h = let q : v ≡ u = cc in ap unsupported_type (sym q) ∙ (unless-then _ _ _ h).1
item-read (types.map f b) u e h = cc
item-read (types.extension x t m) u e h = item-read t u e (storage-read x t m h).1
item-read t u e h = cc

pub item-there : (t : TypeTree) → IsOfLists (physical_type t) → item_type t ≢ None
item-there (types.list f) h = λ e. cc
item-there (types.large_list f) h = λ e. cc
item-there (types.fixed_size_list f s) h = λ e. cc
item-there (types.extension x t m) h = item-there t h
item-there t (inl h) = cc
item-there t (inr (inl h)) = cc
item-there t (inr (inr h)) = cc

lists-whole : (p : PhysicalType) (t u : TypeTree) (c : BuilderTree) → item_type t ≡ Some u → IsEmptyOf u c → IsEmptyOf t (empty_lists p t c)
lists-whole physical.LargeList t u c e is = record { complete = (is.complete, e ∙ ap Some (sym is.same_type), is.no_row, tt); no_slot = refl; no_row = refl; same_type = refl }
lists-whole physical.FixedSizeList t u c e is = record { complete = (is.complete, e ∙ ap Some (sym is.same_type), is.no_row ∙ (let z : 0 ≡ 0 * size_of t = omega arith in z)); no_slot = refl; no_row = refl; same_type = refl }
lists-whole p t u c e is = record { complete = (is.complete, e ∙ ap Some (sym is.same_type), is.no_row, tt); no_slot = refl; no_row = refl; same_type = refl }

pub lists-hold : (t u : TypeTree) → IsOfLists (physical_type t) → unsupported_type t ≡ None → item_type t ≡ Some u → HoldsEmpty t u
lists-hold t u h f e c is =
    let k = list-keys t h in
    rw k (
      (h, (list-sized t f, (is.no_row, (e ∙ ap Some (sym is.same_type), tt)))),
      lists-whole (physical_type t) t u c e is,
    )

pub keys-there : (k : IntegerType) (t : TypeTree) → physical_type t ≡ physical.Dictionary k → key_type t ≡ Some k
keys-there k (types.dictionary j t b) h = cc
keys-there k (types.extension x t m) h = keys-there k t h
keys-there k t h = cc

pub value-there : (k : IntegerType) (t : TypeTree) → physical_type t ≡ physical.Dictionary k → value_type t ≢ None
value-there k (types.dictionary j t b) h = λ e. cc
value-there k (types.extension x t m) h = value-there k t h
value-there k t h = cc

pub value-read : (t u : TypeTree) → value_type t ≡ Some u → unsupported_type t ≡ None → (is_flat (physical_type u) ≡ true) × (unsupported_type u ≡ None)
value-read (types.dictionary j v b) u e h =
    let q : v ≡ u = cc in
    let parts = unless-then _ _ _ h in
    (ap (λ x. is_flat (physical_type x)) (sym q) ∙ not-false _ parts.0, ap unsupported_type (sym q) ∙ parts.1)
value-read (types.extension x t m) u e h = value-read t u e (storage-read x t m h).1
value-read t u e h = cc

pub keys-hold : (k : IntegerType) (t u : TypeTree) → physical_type t ≡ physical.Dictionary k → unsupported_type t ≡ None → value_type t ≡ Some u → HoldsEmpty t u
keys-hold k t u h f e c is =
    let key = keys-there k t h in
    let logical : IsLogically (value_type t) (builder_type c) = subst (λ o. IsLogically o (builder_type c)) (sym e) (ap logical_type is.same_type) in
    let flat : AreFlat (value_type t) = subst AreFlat (sym e) (value-read t u e f).0 in
    rw key (
      (flat, (is.no_row, (logical, tt))),
      record { complete = (is.complete, logical, is.no_row); no_slot = refl; no_row = refl; same_type = refl },
    )

-- ---- records

pub fields-read : (t : TypeTree) → physical_type t ≡ physical.Struct → unsupported_type t ≡ None → (0 < count_fields (fields_of t)) × (unsupported_fields (fields_of t) ≡ None)
fields-read (types.struct fs) h f =
    let one = unless-then _ _ _ f in
    (some-fields (count_fields fs) one.0, (unless-then _ _ _ one.1).1)
fields-read (types.extension x t m) h f = fields-read t h (storage-read x t m f).1
fields-read t h f = cc

all-whole : (fs : FieldTrees) (bs : BuilderTrees) → AreEmptyOf fs bs → AreEachComplete bs × AreComplete bs 0 × HaveRows bs 0 × (builder_types bs ≡ field_types fs) × (count_builders bs ≡ count_fields fs)
all-whole no_fields no_builders h = (tt, tt, tt, refl, refl)
all-whole no_fields (more_builders b bs) h = absurd h
all-whole (more_fields f fs) no_builders h = absurd h
all-whole (more_fields f fs) (more_builders b bs) h =
    let rest = all-whole fs bs h.1 in (
      (h.0.complete, rest.0),
      (h.0.complete, h.0.no_row, rest.1),
      (h.0.no_row, rest.2),
      (λ i. h.0.same_type i ∷ rest.3 i),
      ap suc rest.4,
    )

first-none : (fs : FieldTrees) (bs : BuilderTrees) → AreEmptyOf fs bs → first_rows bs ≡ 0
first-none fs no_builders are = refl
first-none no_fields (more_builders b bs) are = absurd are
first-none (more_fields f fs) (more_builders b bs) are = are.0.no_row

pub records-fit : (t : TypeTree) (bs : BuilderTrees) → physical_type t ≡ physical.Struct → unsupported_type t ≡ None → AreEmptyOf (fields_of t) bs → AreEachComplete bs × Pass (struct_checks t bs None)
records-fit t bs h f are =
    let all = all-whole (fields_of t) bs are in
    let rows = first-none (fields_of t) bs are in
    (all.0, (h, ((fields-read t h f).0, (all.4, (all.3, (subst (HaveRows bs) (sym rows) all.2, (tt, tt)))))))

pub records-empty : (t : TypeTree) (bs : BuilderTrees) → physical_type t ≡ physical.Struct → AreEmptyOf (fields_of t) bs → IsEmptyOf t (builders.struct t (encoded_bits (first_rows bs) None) bs)
records-empty t bs h are =
    let all = all-whole (fields_of t) bs are in
    subst (λ n. IsEmptyOf t (builders.struct t (encoded_bits n None) bs)) (sym (first-none (fields_of t) bs are)) (record { complete = (all.1, all.3); no_slot = refl; no_row = refl; same_type = refl })

-- ---- names

both-false : (a b : Bool) → (a || b) ≡ false → (a ≡ false) × (b ≡ false)
both-false true b h = cc
both-false false b h = (refl, h)

true-false : true ≡ false → ⊥
true-false h = cc

same-bytes : (n m : Letters) → n ≡ m → bytes_eq m n ≡ true
same-bytes n m e = (bytes_eq-Decides m n).1 (sym e)

named-apart : (n : Letters) (fs : FieldTrees) → is_named n fs ≡ false → LacksField n fs
named-apart n no_fields h = tt
named-apart n (more_fields f fs) h =
    let parts = both-false (bytes_eq (field_name f) n) (is_named n fs) h in
    (λ e. true-false (sym (same-bytes n (field_name f) e) ∙ parts.0), named-apart n fs parts.1)

apart-fields : (fs : FieldTrees) → has_duplicate_names fs ≡ false → HaveDistinctNames fs
apart-fields no_fields h = tt
apart-fields (more_fields f fs) h =
    let parts = both-false (is_named (field_name f) fs) (has_duplicate_names fs) h in
    (named-apart (field_name f) fs parts.0, apart-fields fs parts.1)

mutual
  pub names-apart : (t : TypeTree) → unsupported_type t ≡ None → HasDistinctFieldNames t
  names-apart (types.list f) h = field-apart f h
  names-apart (types.large_list f) h = field-apart f h
  names-apart (types.fixed_size_list f s) h = field-apart f (unless-then (nat_eq s 0) ZeroSize (unsupported_field f) h).1
  names-apart (types.struct fs) h =
      let one = unless-then (nat_eq (count_fields fs) 0) EmptyStruct (unsupported_if (has_duplicate_names fs) DuplicateFieldNames (unsupported_fields fs)) h in
      let two = unless-then (has_duplicate_names fs) DuplicateFieldNames (unsupported_fields fs) one.1 in
      (apart-fields fs two.0, fields-apart fs two.1)
  names-apart (types.map f b) h = cc
  names-apart (types.dictionary k t b) h = names-apart t (unless-then (not (is_flat (physical_type t))) DictionaryValues (unsupported_type t) h).1
  names-apart (types.extension x t m) h = names-apart t (storage-read x t m h).1
  names-apart t h = tt

  field-apart : (f : FieldTree) → unsupported_field f ≡ None → FieldHasDistinctFieldNames f
  field-apart (field x t b es) h = names-apart t h

  fields-apart : (fs : FieldTrees) → unsupported_fields fs ≡ None → FieldsHaveDistinctFieldNames fs
  fields-apart no_fields h = tt
  fields-apart (more_fields f fs) h = let parts = first-then (unsupported_field f) (unsupported_fields fs) h in (field-apart f parts.0, fields-apart fs parts.1)
