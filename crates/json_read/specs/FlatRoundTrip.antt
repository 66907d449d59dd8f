-- Slots without children are read back: numbers from their text, bytes from their hexadecimal digits.
use Rattle.std.specs.Prelude.{◌≡◌, ℕ, ℤ, true, List, [], ◌∷◌, flat_map, None}
use Rattle.json_read.specs.FlatValues.{Range, is_in, ranges_of, value_error_of, bytes_of_hex, hex_error}
use Rattle.json_read.specs.NativeNumbers.{value_numbers}
use Rattle.json_read.specs.TextNumbers.{is_within_precision}
use Rattle.nest_memory.specs.TypeTree.{TypeTree}
use Rattle.nest_memory.specs.declared.datatypes.physical_type.PrimitiveType.{PrimitiveType}
use Rattle.nest_model.specs.Slot as slots
use Rattle.json_write.specs.Formats.{format_of_type, has_format}
use Rattle.json_write.specs.JsonText.{hex_byte}
use Rattle.json_write.specs.JsonTree.{tree_of_slot}
use Rattle.json_write.specs.TypedSlots.{IsNotNan}

-- a number in each range
abbrev pub AreInRange : List Range → List ℤ → Type 0
AreInRange [] [] = Unit {0}
AreInRange [] (z ∷ zs) = ⊥
AreInRange (r ∷ rs) [] = ⊥
AreInRange (r ∷ rs) (z ∷ zs) = (is_in r z ≡ true) × AreInRange rs zs

-- the numbers of a native value of the type, each in its range, of a decimal within its precision, and of a float not NaN
abbrev pub AreNumbersOf : PrimitiveType → TypeTree → List ℤ → Type 0
AreNumbersOf p t zs = AreInRange (ranges_of p) zs × (has_format p (format_of_type t) ≡ true) × (is_within_precision (format_of_type t) zs ≡ true) × IsNotNan (format_of_type t) zs

-- the numbers of a native value round-trip
abbrev pub NumbersRoundTrip : PrimitiveType → TypeTree → List ℤ → Type 0
NumbersRoundTrip p t zs =
    (value_error_of p (format_of_type t) (tree_of_slot t (slots.number zs)) ≡ None) × (value_numbers (format_of_type t) (tree_of_slot t (slots.number zs)) ≡ zs)

-- bytes round-trip
abbrev pub BytesRoundTrip : List ℕ → Type 0
BytesRoundTrip bs = (hex_error (flat_map hex_byte bs) ≡ None) × (bytes_of_hex (flat_map hex_byte bs) ≡ bs)
