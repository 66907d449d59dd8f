-- Examples of conditions.
use Rattle.std.specs.Prelude.{ℕ, ℤ, true, false, List, [], ◌∷◌, codes, negsuc, pos}
use Rattle.nest_memory.specs.TypeTree as types
use Rattle.nest_memory.specs.TypeTree.{FieldTree, TypeTree, field}
use Rattle.nest_memory.specs.TypeOf.{field_trees}
use Rattle.nest_memory.specs.Floats.{spec_float_type}
use Rattle.nest_memory.specs.declared.datatypes.IntegerType.TheVariants.{Int32}
use Rattle.nest_memory.specs.declared.datatypes.floats.Precision.TheVariants.{Half, Single, Double}
use Rattle.nest_model.specs.Slot as slots
use Rattle.nest_model.specs.Slot.{Slot, more_slots, no_slots}
use Rattle.cli_args.specs.Columns.{ColumnTree, named}
use Rattle.cli_args.specs.Conditions.{ConditionTree, LiteralTree, is_true, number}
use Rattle.cli_args.specs.NumberLiterals.{decimal_number}
use Rattle.cli_rows.specs.Rows.{RowSlot}

abbrev nullable : List ℕ → TypeTree → FieldTree
nullable name t = field name t true []

-- two booleans, an integer, a string, a date and bytes
abbrev pub example_fields : List FieldTree
example_fields = nullable (codes "p") types.boolean ∷ nullable (codes "q") types.boolean ∷ nullable (codes "n") types.int64 ∷ nullable (codes "s") types.utf8 ∷ nullable (codes "x") types.date32 ∷ nullable (codes "y") types.binary ∷ []

abbrev pub p : ColumnTree
p = named (codes "p")

abbrev pub q : ColumnTree
q = named (codes "q")

abbrev pub n : ColumnTree
n = named (codes "n")

abbrev pub s : ColumnTree
s = named (codes "s")

abbrev pub x : ColumnTree
x = named (codes "x")

abbrev pub y : ColumnTree
y = named (codes "y")

abbrev pub absent : ColumnTree
absent = named (codes "o")

-- conditions at the positions 0 and 6 of their text
abbrev pub first : ColumnTree → ConditionTree
first column = is_true column 0

abbrev pub second : ColumnTree → ConditionTree
second column = is_true column 6

-- a row of both booleans, null at the others
abbrev pub booleans_row : Slot → Slot → RowSlot
booleans_row v w = (types.struct (field_trees example_fields), slots.record_of (more_slots v (more_slots w (more_slots slots.null (more_slots slots.null (more_slots slots.null (more_slots slots.null no_slots)))))))

abbrev pub integer_value : ℤ → RowSlot
integer_value z = (types.int64, slots.number (z ∷ []))

abbrev pub string_value : List ℕ → RowSlot
string_value bs = (types.utf8, slots.utf8 bs)

-- values of dates and times, as numbers of days or units
abbrev pub value_of_type : TypeTree → ℤ → RowSlot
value_of_type t z = (t, slots.number (z ∷ []))

-- a string in a dictionary
abbrev pub string_by_key : List ℕ → RowSlot
string_by_key bs = (types.dictionary Int32 types.utf8 false, slots.utf8 bs)

-- 3 and -3
abbrev pub three : RowSlot
three = integer_value (pos 3)

abbrev pub minus_three : RowSlot
minus_three = integer_value (negsuc 2)

-- a double, a single and a half, by their bits
abbrev pub double_value : ℕ → RowSlot
double_value bits = (spec_float_type Double, slots.number (pos bits ∷ []))

abbrev pub single_value : ℕ → RowSlot
single_value bits = (spec_float_type Single, slots.number (pos bits ∷ []))

abbrev pub value_of_half : ℕ → RowSlot
value_of_half bits = (spec_float_type Half, slots.number (pos bits ∷ []))

-- 0.1 with the nearest single and double, and 0
abbrev pub tenth : LiteralTree
tenth = number (record { value = pos 1; digits = 1; single = 0x3dcc_cccd; double = 0x3fb9_9999_9999_999a })

abbrev pub nought : LiteralTree
nought = number (record { value = pos 0; digits = 0; single = 0; double = 0 })

-- 3.5, 3.0 and -3.5
abbrev pub three_and_a_half : LiteralTree
three_and_a_half = decimal_number (pos 35) 1

abbrev pub three_point_zero : LiteralTree
three_point_zero = decimal_number (pos 30) 1

abbrev pub minus_three_and_a_half : LiteralTree
minus_three_and_a_half = decimal_number (negsuc 34) 1
