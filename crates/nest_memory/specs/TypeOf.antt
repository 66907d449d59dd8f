-- The tree that a `DataType` represents; this library's own.
use Rattle.std.specs.Prelude.{◌≡◌, suc, length, nat_eq, List, [], ◌∷◌, map, String, string_bytes, ℕ, ℤ, Option, None, Some}
use Rattle.std.specs.Option.{option_map}
use Rattle.std.proofs.Common.{refl, ap, sym, arith}
use Rattle.std.proofs.lemmas.Bool.{ne_eqb}
use Rattle.std.specs.declared.alloc.Global.{Global}
use Rattle.nest_memory.specs.TypeTree as types
use Rattle.nest_memory.specs.TypeTree.{Letters, Entries, TypeTree, FieldTree, field, FieldTrees, no_fields, more_fields, count_fields, are_two}
use Rattle.nest_memory.specs.declared.datatypes.DataType.{DataType, fold-DataType}
use Rattle.nest_memory.specs.declared.datatypes.field.Field.{Field, fold-Field}
use Rattle.nest_memory.specs.declared.datatypes.DataType.TheOpen.{DataType-F, Field-F}

-- An optional string, as its bytes.
abbrev pub text_of : Option (String Global) → Option Letters
text_of None = None
text_of (Some s) = Some (string_bytes s)

-- A map of strings, as the pairs of their bytes.
abbrev pub entries_of : List (String Global × String Global) → Entries
entries_of es = map (λ e. (string_bytes e.0, string_bytes e.1)) es

-- A list of fields.
abbrev pub field_trees : List FieldTree → FieldTrees
field_trees [] = no_fields
field_trees (f ∷ fs) = more_fields f (field_trees fs)

-- One level of a data type whose inner types are trees.
abbrev pub type_step : DataType-F TypeTree FieldTree → TypeTree
type_step DataType-F.Null = types.null
type_step DataType-F.Boolean = types.boolean
type_step DataType-F.Int8 = types.int8
type_step DataType-F.Int16 = types.int16
type_step DataType-F.Int32 = types.int32
type_step DataType-F.Int64 = types.int64
type_step DataType-F.UInt8 = types.uint8
type_step DataType-F.UInt16 = types.uint16
type_step DataType-F.UInt32 = types.uint32
type_step DataType-F.UInt64 = types.uint64
type_step DataType-F.Float16 = types.float16
type_step DataType-F.Float32 = types.float32
type_step DataType-F.Float64 = types.float64
type_step DataType-F.Date32 = types.date32
type_step DataType-F.Date64 = types.date64
type_step DataType-F.Binary = types.binary
type_step DataType-F.LargeBinary = types.large_binary
type_step DataType-F.Utf8 = types.utf8
type_step DataType-F.LargeUtf8 = types.large_utf8
type_step (DataType-F.Timestamp u z) = types.timestamp u (text_of z)
type_step (DataType-F.Time32 u) = types.time32 u
type_step (DataType-F.Time64 u) = types.time64 u
type_step (DataType-F.Duration u) = types.duration u
type_step (DataType-F.Interval u) = types.interval u
type_step (DataType-F.FixedSizeBinary s) = types.fixed_size_binary s
type_step (DataType-F.List f) = types.list f.value
type_step (DataType-F.FixedSizeList f s) = types.fixed_size_list f.value s
type_step (DataType-F.LargeList f) = types.large_list f.value
type_step (DataType-F.Struct fs) = types.struct (field_trees fs.items)
type_step (DataType-F.Union fs ids mode) = types.union (field_trees fs.items) (option_map (λ v. v.items) ids) mode
type_step (DataType-F.Map f sorted) = types.map f.value sorted
type_step (DataType-F.Dictionary key values ordered) = types.dictionary key values.value ordered
type_step (DataType-F.Decimal precision scale) = types.decimal precision scale
type_step (DataType-F.Decimal256 precision scale) = types.decimal256 precision scale
type_step (DataType-F.Extension name inner metadata) = types.extension (string_bytes name) inner.value (text_of metadata)

-- One level of a field.
abbrev pub field_step : Field-F TypeTree FieldTree → FieldTree
field_step f = field (string_bytes f.name) f.data_type f.is_nullable (entries_of f.metadata.entries)

-- The tree of a data type, and of a field.
abbrev pub type_of : DataType → TypeTree
type_of = fold-DataType TypeTree FieldTree type_step field_step

abbrev pub field_of : Field → FieldTree
field_of = fold-Field TypeTree FieldTree type_step field_step

-- The trees of the fields of a struct or a union.
abbrev pub field_list_of : List Field → FieldTrees
field_list_of fs = field_trees (map field_of fs)

-- The tree has as many fields as the list.
pub count_fields-field_list_of : (fs : List Field) → count_fields (field_list_of fs) ≡ length fs
count_fields-field_list_of [] = refl
count_fields-field_list_of (f ∷ fs) = ap suc (count_fields-field_list_of fs)

-- The tree has two fields exactly if the list has two.
pub are_two-field_list_of : (fs : List Field) → are_two (field_list_of fs) ≡ nat_eq (length fs) 2
are_two-field_list_of [] = refl
are_two-field_list_of (f ∷ []) = refl
are_two-field_list_of (f ∷ g ∷ []) = refl
are_two-field_list_of (f ∷ g ∷ h ∷ fs) = sym (ne_eqb (length (f ∷ g ∷ h ∷ fs)) 2 (λ e. omega arith))
