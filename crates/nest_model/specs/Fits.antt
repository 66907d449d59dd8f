-- The ordered checks of each constructor. The conditions are those of the Arrow columnar format.
-- The order and the errors are this library's own. Of a child, only its length and its data type are checked.
use Rattle.std.specs.Prelude.{◌≡◌, ℕ, zero, suc, ◌+◌, ◌≤◌, ◌<◌, ◌%◌, ℤ, pos, negsuc, Bool, true, false, IsTrue, List, length, get_or, Option, Some, None, ◌-◌}
use Rattle.std.specs.Str.{IsUtf8, IsCharBoundary}
use Rattle.std.specs.List.{All}
use Rattle.nest_memory.specs.TypeTree as types
use Rattle.nest_memory.specs.TypeTree.{TypeTree, FieldTrees, no_fields, more_fields, field_type, logical_type, count_fields, item_type, size_of, fields_of, ids_of, is_dense, has_pairs}
use Rattle.nest_memory.specs.declared.datatypes.physical_type.PhysicalType.TheVariants as physical
use Rattle.nest_memory.specs.Physical.{physical_type, list_of_width, binary_of_width, utf8_of_width}
use Rattle.nest_memory.specs.Sublist.{sublist}
use Rattle.nest_memory.specs.Rising.{last_of}
use Rattle.nest_model.specs.Part.{Validity, valid_at, begin, extent, count_rows, field_named}
use Rattle.nest_model.specs.Layout.{Layout, Layouts, null, boolean, primitive, binary, utf8, fixed_size_binary, fixed_size_list, list, map, struct, union, dictionary, no_layouts, more_layouts, layout_type, count_layouts}
use Rattle.nest_model.specs.Accessors.{validity_of, raw_keys, key_at, key_type_of, with_validity}
use Rattle.nest_model.specs.Meaning.{len, first_len}
use Rattle.nest_memory.specs.declared.error.SpecError.TheVariants as spec
use Rattle.nest_memory.specs.declared.error.ArgumentError.TheVariants as argument
use Rattle.nest_memory.specs.declared.error.Error.{Error}
use Rattle.nest_memory.specs.declared.error.Error.TheVariants.{OutOfSpec, InvalidArgumentError}
use Rattle.nest_model.specs.Checks.{Checks, done, check, Pass, FailFirst, most_fields, type_count}

-- Validity bitmaps: if there is a bitmap, it has n bits.
abbrev pub ValidityFits : Validity → ℕ → Type 0
ValidityFits None n = Unit {0}
ValidityFits (Some bits) n = length bits ≡ n

-- Struct Layout, Union Layout: there is one child for each field, in order and with the field's data type.
abbrev pub EachType : FieldTrees → Layouts → Type 0
EachType no_fields no_layouts = Unit {0}
EachType no_fields (more_layouts c cs) = ⊥
EachType (more_fields f fs) no_layouts = ⊥
EachType (more_fields f fs) (more_layouts c cs) = (layout_type c ≡ field_type f) × EachType fs cs

-- Struct Layout: each child has n slots.
abbrev pub EachLen : Layouts → ℕ → Type 0
EachLen no_layouts n = Unit {0}
EachLen (more_layouts c cs) n = (len c ≡ n) × EachLen cs n

-- Union Layout, sparse: each child has at least n slots.
abbrev pub EachCovers : Layouts → ℕ → Type 0
EachCovers no_layouts n = Unit {0}
EachCovers (more_layouts c cs) n = (n ≤ len c) × EachCovers cs n

-- The integer is an index below n.
abbrev pub Names : ℤ → ℕ → Type 0
Names (pos k) n = k < n
Names (negsuc k) n = ⊥

-- Each integer is an index below n.
abbrev pub EachNames : List ℤ → ℕ → Type 0
EachNames zs n = All (λ z. Names z n) zs

-- The length of child f, or 0 if there is no such child.
abbrev pub child_len : Layouts → Option ℕ → ℕ
child_len no_layouts f = 0
child_len (more_layouts c cs) None = 0
child_len (more_layouts c cs) (Some zero) = len c
child_len (more_layouts c cs) (Some (suc f)) = child_len cs (Some f)

-- If there are ids, there are as many as fields.
abbrev pub IdsCount : Option (List ℤ) → ℕ → Type 0
IdsCount None n = Unit {0}
IdsCount (Some ids) n = length ids ≡ n

-- Union Layout: each type id is a nonnegative 8-bit integer.
abbrev pub IdsInRange : Option (List ℤ) → Type 0
IdsInRange None = Unit {0}
IdsInRange (Some ids) = EachNames ids type_count

-- The type id has one of n fields.
abbrev pub MeansField : Option ℕ → ℕ → Type 0
MeansField None n = ⊥
MeansField (Some f) n = f < n

-- Each type id has one of n fields.
abbrev pub EachMeansField : Option (List ℤ) → List ℤ → ℕ → Type 0
EachMeansField ids ks n = All (λ k. MeansField (field_named ids k) n) ks

-- Union Layout: a dense union has as many offsets as slots, a sparse union has none.
abbrev pub OffsetsCount : Option (List ℤ) → ℕ → Type 0
OffsetsCount None n = Unit {0}
OffsetsCount (Some os) n = length os ≡ n

abbrev pub OffsetsByMode : Option (List ℤ) → Bool → Type 0
OffsetsByMode None d = d ≡ false
OffsetsByMode (Some os) d = d ≡ true

-- Each offset is an index of its field's child.
abbrev pub EachOffsetNames : Option (List ℤ) → List ℤ → List ℤ → Layouts → Type 0
EachOffsetNames ids ks os cs = (i : ℕ) → i < length ks → Names (get_or os i (pos 0)) (child_len cs (field_named ids (get_or ks i (pos 0))))

-- The slots that a union selects exist. Those of a dense union are at its offsets.
-- In a sparse union, each field's child reaches the end of the window.
abbrev pub SlotsThere : Option (List ℤ) → List ℤ → Layouts → Option (List ℤ) → ℕ → Type 0
SlotsThere ids ks cs None start = EachCovers cs (start + length ks)
SlotsThere ids ks cs (Some os) start = EachOffsetNames ids ks os cs

-- The data type is a dictionary with any key type.
abbrev pub is_dictionary : TypeTree → Bool
is_dictionary (types.dictionary k t b) = true
is_dictionary (types.extension n t m) = is_dictionary t
is_dictionary t = false

-- Dictionary-encoded Layout: the values have the value type, ignoring extensions.
abbrev pub IsLogically : Option TypeTree → TypeTree → Type 0
IsLogically None t = ⊥
IsLogically (Some u) t = logical_type t ≡ logical_type u

-- At least one of n slots is valid.
abbrev pub SomeValid : Validity → ℕ → Type 0
SomeValid va n = (i : ℕ) × (i < n) × (valid_at va i ≡ true)

-- Each key is an index of the n values, including the keys at null slots. If all keys are null, they are not checked.
abbrev pub KeysInRange : Layout → ℕ → Type 0
KeysInRange ks n = SomeValid (validity_of ks) (len ks) → EachNames (raw_keys ks) n

-- Each key that is valid in this validity is an index of the n values.
abbrev pub EachValidNames : Validity → Layout → ℕ → Type 0
EachValidNames va ks n = (i : ℕ) → i < len ks → valid_at va i ≡ true → Names (key_at ks i) n

-- The bytes of each slot are UTF-8.
abbrev pub EachUtf8 : List ℕ → List ℕ → Type 0
EachUtf8 os bs = (i : ℕ) → i < count_rows os → IsUtf8 (sublist bs (begin os i) (extent os i))

-- The bytes from the first offset to the last.
abbrev pub covered : List ℕ → List ℕ → List ℕ
covered os bs = sublist bs (begin os 0) (last_of os - begin os 0)

-- The covered bytes are UTF-8, and each offset is a character boundary.
abbrev pub ValidUtf8 : List ℕ → List ℕ → Type 0
ValidUtf8 os bs = IsUtf8 (covered os bs) × ((i : ℕ) → i < length os → IsCharBoundary (covered os bs) (get_or os i 0 - begin os 0))

-- The ordered checks of each constructor.
abbrev pub checks : Layout → Checks
checks (null t n) =
    check (OutOfSpec spec.WrongType) (physical_type t ≡ physical.Null) done
checks (boolean t bs va) =
    check (OutOfSpec spec.ValidityLength) (ValidityFits va (length bs))
    (check (OutOfSpec spec.WrongType) (physical_type t ≡ physical.Boolean) done)
checks (primitive k t vs va) =
    check (OutOfSpec spec.ValidityLength) (ValidityFits va (length vs))
    (check (OutOfSpec spec.WrongType) (physical_type t ≡ physical.Primitive k) done)
checks (binary large t os bs va) =
    check (OutOfSpec spec.OffsetPastChild) (last_of os ≤ length bs)
    (check (OutOfSpec spec.ValidityLength) (ValidityFits va (count_rows os))
    (check (OutOfSpec spec.WrongType) (physical_type t ≡ binary_of_width large) done))
checks (utf8 large t os bs va) =
    check (OutOfSpec spec.OffsetPastChild) (last_of os ≤ length bs)
    (check (OutOfSpec spec.Utf8) (EachUtf8 os bs)
    (check (OutOfSpec spec.ValidityLength) (ValidityFits va (count_rows os))
    (check (OutOfSpec spec.WrongType) (physical_type t ≡ utf8_of_width large) done)))
checks (fixed_size_binary t bs va) =
    check (OutOfSpec spec.WrongType) (physical_type t ≡ physical.FixedSizeBinary)
    (check (OutOfSpec spec.ZeroSize) (0 < size_of t)
    (check (OutOfSpec spec.NotMultiple) (length bs % size_of t ≡ 0)
    (check (OutOfSpec spec.ValidityLength) (ValidityFits va (len (fixed_size_binary t bs va))) done)))
checks (fixed_size_list t c va) =
    check (OutOfSpec spec.WrongType) (physical_type t ≡ physical.FixedSizeList)
    (check (OutOfSpec spec.ZeroSize) (0 < size_of t)
    (check (OutOfSpec spec.ChildType) (item_type t ≡ Some (layout_type c))
    (check (OutOfSpec spec.NotMultiple) (len c % size_of t ≡ 0)
    (check (OutOfSpec spec.ValidityLength) (ValidityFits va (len (fixed_size_list t c va))) done))))
checks (list large t os c va) =
    check (OutOfSpec spec.OffsetPastChild) (last_of os ≤ len c)
    (check (OutOfSpec spec.ValidityLength) (ValidityFits va (count_rows os))
    (check (OutOfSpec spec.WrongType) (physical_type t ≡ list_of_width large)
    (check (OutOfSpec spec.ChildType) (item_type t ≡ Some (layout_type c)) done)))
checks (map t os c va) =
    check (OutOfSpec spec.OffsetPastChild) (last_of os ≤ len c)
    (check (OutOfSpec spec.WrongType) (physical_type t ≡ physical.Map)
    (check (InvalidArgumentError argument.MapInner) (IsTrue (has_pairs t))
    (check (InvalidArgumentError argument.ChildType) (item_type t ≡ Some (layout_type c))
    (check (OutOfSpec spec.ValidityLength) (ValidityFits va (count_rows os)) done))))
checks (struct t cs va) =
    check (OutOfSpec spec.WrongType) (physical_type t ≡ physical.Struct)
    (check (OutOfSpec spec.NoFields) (0 < count_fields (fields_of t))
    (check (OutOfSpec spec.FieldCount) (count_layouts cs ≡ count_fields (fields_of t))
    (check (OutOfSpec spec.ChildType) (EachType (fields_of t) cs)
    (check (OutOfSpec spec.ChildLength) (EachLen cs (first_len cs))
    (check (OutOfSpec spec.ValidityLength) (ValidityFits va (first_len cs)) done)))))
checks (union t ks cs os start) =
    check (OutOfSpec spec.WrongType) (physical_type t ≡ physical.Union)
    (check (OutOfSpec spec.FieldCount) (count_layouts cs ≡ count_fields (fields_of t))
    (check (OutOfSpec spec.TooManyFields) (count_layouts cs ≤ most_fields)
    (check (OutOfSpec spec.ChildType) (EachType (fields_of t) cs)
    (check (OutOfSpec spec.OffsetCount) (OffsetsCount os (length ks))
    (check (OutOfSpec spec.UnionMode) (OffsetsByMode os (is_dense t))
    (check (OutOfSpec spec.IdCount) (IdsCount (ids_of t) (count_layouts cs))
    (check (OutOfSpec spec.IdRange) (IdsInRange (ids_of t))
    (check (OutOfSpec spec.UnionType) (EachMeansField (ids_of t) ks (count_layouts cs))
    (check (OutOfSpec spec.UnionSlot) (SlotsThere (ids_of t) ks cs os start) done)))))))))
checks (dictionary t ks c) =
    check (OutOfSpec spec.WrongType) (IsTrue (is_dictionary t))
    (check (OutOfSpec spec.KeyType) (types.key_type t ≡ key_type_of ks)
    (check (OutOfSpec spec.ChildType) (IsLogically (types.value_type t) (layout_type c))
    (check (OutOfSpec spec.KeyRange) (KeysInRange ks (len c)) done)))

-- The parts pass every check of their constructor.
abbrev pub Fits : Layout → Type 0
Fits a = Pass (checks a)

-- The constructor returns this error for the parts.
abbrev pub FirstError : Error → Layout → Type 0
FirstError e a = FailFirst e (checks a)

-- The checks of a new validity. Null and union arrays have none. A dictionary's valid keys are indices of its values.
abbrev pub validity_checks : Layout → Validity → Checks
validity_checks (null t n) va = check (InvalidArgumentError argument.NoValidity) ⊥ done
validity_checks (union t ks cs os start) va = check (InvalidArgumentError argument.NoValidity) ⊥ done
validity_checks (dictionary t ks c) va =
    check (OutOfSpec spec.ValidityLength) (ValidityFits va (len ks))
    (check (OutOfSpec spec.KeyRange) (EachValidNames va ks (len c)) done)
validity_checks a va = check (OutOfSpec spec.ValidityLength) (ValidityFits va (len a)) done

abbrev pub ValidityError : Error → Layout → Validity → Type 0
ValidityError e a va = FailFirst e (validity_checks a va)

-- The validity has a bit for each slot of a, and b is a with this validity.
abbrev pub HasValidity : Layout → Validity → Layout → Type 0
HasValidity a va b = ValidityFits va (len a) × (b ≡ with_validity a va)

-- Setting the validity of a returns the error e, and b is a unchanged.
abbrev pub RefusesValidity : Error → Layout → Validity → Layout → Type 0
RefusesValidity e a va b = ValidityError e a va × (b ≡ a)
