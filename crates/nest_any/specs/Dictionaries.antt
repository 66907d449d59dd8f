-- The tree of a dictionary builder with keys of any width.
use Rattle.std.specs.Prelude.{List, Option, ℕ}
use Rattle.nest_any.specs.declared.dictionary.AnyMutableDictionary.{AnyMutableDictionary}
use Rattle.nest_any.specs.declared.dictionary.AnyMutableDictionary.TheVariants.{Int8, Int16, Int32, Int64, UInt8, UInt16, UInt32, UInt64}
use Rattle.nest_any.specs.declared.flat.AnyMutableFlat.{AnyMutableFlat}
use Rattle.nest_any.specs.Flat.{values_tree}
use Rattle.nest_memory.specs.TypeTree.{TypeTree}
use Rattle.nest_memory.specs.declared.datatypes.IntegerType.{IntegerType}
use Rattle.nest_memory.specs.declared.datatypes.IntegerType.TheVariants as integers
use Rattle.nest_model.specs.BuilderTree.{BuilderTree, dictionary}

abbrev pub key_integer_type : AnyMutableDictionary → IntegerType
key_integer_type (Int8 b) = integers.Int8
key_integer_type (Int16 b) = integers.Int16
key_integer_type (Int32 b) = integers.Int32
key_integer_type (Int64 b) = integers.Int64
key_integer_type (UInt8 b) = integers.UInt8
key_integer_type (UInt16 b) = integers.UInt16
key_integer_type (UInt32 b) = integers.UInt32
key_integer_type (UInt64 b) = integers.UInt64

abbrev pub keyed_type : AnyMutableDictionary → TypeTree
keyed_type (Int8 b) = b.value.data_type
keyed_type (Int16 b) = b.value.data_type
keyed_type (Int32 b) = b.value.data_type
keyed_type (Int64 b) = b.value.data_type
keyed_type (UInt8 b) = b.value.data_type
keyed_type (UInt16 b) = b.value.data_type
keyed_type (UInt32 b) = b.value.data_type
keyed_type (UInt64 b) = b.value.data_type

abbrev pub keyed_rows : AnyMutableDictionary → List (Option ℕ)
keyed_rows (Int8 b) = b.value.rows
keyed_rows (Int16 b) = b.value.rows
keyed_rows (Int32 b) = b.value.rows
keyed_rows (Int64 b) = b.value.rows
keyed_rows (UInt8 b) = b.value.rows
keyed_rows (UInt16 b) = b.value.rows
keyed_rows (UInt32 b) = b.value.rows
keyed_rows (UInt64 b) = b.value.rows

abbrev pub keyed_values : AnyMutableDictionary → AnyMutableFlat
keyed_values (Int8 b) = b.value.values.values
keyed_values (Int16 b) = b.value.values.values
keyed_values (Int32 b) = b.value.values.values
keyed_values (Int64 b) = b.value.values.values
keyed_values (UInt8 b) = b.value.values.values
keyed_values (UInt16 b) = b.value.values.values
keyed_values (UInt32 b) = b.value.values.values
keyed_values (UInt64 b) = b.value.values.values

abbrev pub dictionary_tree : AnyMutableDictionary → BuilderTree
dictionary_tree b = dictionary (key_integer_type b) (keyed_type b) (keyed_rows b) (values_tree (keyed_values b))
