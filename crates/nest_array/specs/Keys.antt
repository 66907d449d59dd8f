-- Keys of dictionaries and the indices that they represent (this library's own).
use Rattle.std.specs.Prelude.{◌≡◌, ◌⊎◌, ℕ, ℤ, pos, negsuc, Bool, true, false, Option, Some, None}
use Rattle.nest_memory.specs.declared.datatypes.IntegerType.{IntegerType}
use Rattle.nest_memory.specs.declared.datatypes.IntegerType.TheVariants as integers
use Rattle.nest_memory.specs.declared.error.Error.{Error}
use Rattle.nest_memory.specs.declared.error.Error.TheVariants.{OutOfSpec}
use Rattle.nest_memory.specs.declared.error.SpecError.TheVariants as spec
use Rattle.nest_memory.specs.TypeTree.{TypeTree}
use Rattle.nest_model.specs.Fits.{is_dictionary}
use Rattle.nest_model.specs.MadeNulls.{RefusesType}

-- the index that a raw key represents, None if it is negative
abbrev pub index_of : ℤ → Option ℕ
index_of (pos n) = Some n
index_of (negsuc n) = None

-- the key type; Int8 for None
abbrev pub keyed_by : Option IntegerType → IntegerType
keyed_by None = integers.Int8
keyed_by (Some k) = k

-- keys of this type are unsigned
abbrev pub is_unsigned : IntegerType → Bool
is_unsigned integers.Int8 = false
is_unsigned integers.Int16 = false
is_unsigned integers.Int32 = false
is_unsigned integers.Int64 = false
is_unsigned integers.UInt8 = true
is_unsigned integers.UInt16 = true
is_unsigned integers.UInt32 = true
is_unsigned integers.UInt64 = true

-- e is WrongType if the data type is not a dictionary type, otherwise the error of the type or a failed allocation
abbrev pub RefusesDictionary : Error → TypeTree → Option Error → Type 0
RefusesDictionary e t first_error = ((e ≡ OutOfSpec spec.WrongType) × (is_dictionary t ≡ false)) ⊎ ((is_dictionary t ≡ true) × RefusesType e first_error)
