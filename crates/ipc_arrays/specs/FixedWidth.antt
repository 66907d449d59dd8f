-- The byte formats of values of fixed width: little-endian, in two's complement, one after the other (Arrow: "Fixed-size Primitive Layout").
use Rattle.std.specs.Prelude.{ℕ, zero, suc, ◌+◌, ℤ, pos, negsuc, Bool, if◌then◌else◌, List, [], ◌∷◌, ◌++◌, drop, Option, Some, None}
use Rattle.std.specs.Int.{Width, w8, w16, w32, w64, w128, byte_len, from_le_bytes, to_le_bytes, cast_signed, cast_unsigned}
use Rattle.std.specs.List.{flat_map}
use Rattle.nest_memory.specs.Native.{signed, unsigned}
use Rattle.nest_memory.specs.declared.datatypes.physical_type.PrimitiveType.{PrimitiveType}
use Rattle.nest_memory.specs.declared.datatypes.physical_type.PrimitiveType.TheVariants as primitives

-- The byte format of a value: its size in bytes, the integers that its bytes decode to, and the bytes that encode them.
pub record ByteFormat : Type 0 where
  pub size : ℕ
  pub numbers : List ℕ → List ℤ
  pub bytes : List ℤ → List ℕ

-- the integer of a value that has one
abbrev pub only : List ℤ → ℤ
only [] = pos 0
only (z ∷ zs) = z

abbrev pub natural_of : ℤ → ℕ
natural_of (pos n) = n
natural_of (negsuc n) = 0

abbrev pub signed_format : Width → ByteFormat
signed_format w = record {
  size = byte_len w;
  numbers = λ bytes. signed (cast_signed w (from_le_bytes w bytes));
  bytes = λ zs. to_le_bytes w (cast_unsigned w (only zs));
}

abbrev pub unsigned_format : Width → ByteFormat
unsigned_format w = record {
  size = byte_len w;
  numbers = λ bytes. unsigned (from_le_bytes w bytes);
  bytes = λ zs. to_le_bytes w (natural_of (only zs));
}

-- a number followed by others
abbrev pub first_then : ByteFormat → ByteFormat → ByteFormat
first_then first others = record {
  size = first.size + others.size;
  numbers = λ bytes. first.numbers bytes ++ others.numbers (drop first.size bytes);
  bytes = λ zs. first.bytes zs ++ others.bytes (drop 1 zs);
}

-- 256 bits: the low 128 bits first
abbrev pub i256_format : ByteFormat
i256_format = record {
  size = 32;
  numbers = λ bytes. (signed_format w128).numbers (drop 16 bytes) ++ (unsigned_format w128).numbers bytes;
  bytes = λ zs. (unsigned_format w128).bytes (drop 1 zs) ++ (signed_format w128).bytes zs;
}

-- days, then milliseconds
abbrev pub days_ms_format : ByteFormat
days_ms_format = first_then (signed_format w32) (signed_format w32)

-- months, then days, then nanoseconds
abbrev pub months_days_ns_format : ByteFormat
months_days_ns_format = first_then (signed_format w32) (first_then (signed_format w32) (signed_format w64))

-- an offset: 64 bits if large, else 32
abbrev pub offset_format : Bool → ByteFormat
offset_format large = signed_format (if large then w64 else w32)

-- the type of a slot of a union
abbrev pub type_format : ByteFormat
type_format = signed_format w8

-- the types that can be read and written
abbrev pub format_of : PrimitiveType → Option ByteFormat
format_of primitives.Int8 = Some (signed_format w8)
format_of primitives.Int16 = Some (signed_format w16)
format_of primitives.Int32 = Some (signed_format w32)
format_of primitives.Int64 = Some (signed_format w64)
format_of primitives.Int128 = Some (signed_format w128)
format_of primitives.Int256 = Some i256_format
format_of primitives.UInt8 = Some (unsigned_format w8)
format_of primitives.UInt16 = Some (unsigned_format w16)
format_of primitives.UInt32 = Some (unsigned_format w32)
format_of primitives.UInt64 = Some (unsigned_format w64)
format_of primitives.DaysMs = Some days_ms_format
format_of primitives.MonthDayNano = Some months_days_ns_format
format_of k = None

-- `n` values, from the first byte on
unfoldable pub decoded_natives : ByteFormat → ℕ → List ℕ → List (List ℤ)
decoded_natives format zero bytes = []
decoded_natives format (suc n) bytes = format.numbers bytes ∷ decoded_natives format n (drop format.size bytes)

-- the bytes of values, one after the other
unfoldable pub values_bytes : ByteFormat → List (List ℤ) → List ℕ
values_bytes format values = flat_map format.bytes values
