-- Lines of JSON under a data type: each line is one JSON value in UTF-8 (RFC 8259), and a slot of the data type.
use Rattle.std.specs.Prelude.{◌≡◌, ◌≢◌, ℕ, Bool, true, false, ◌&&◌, List, [], ◌∷◌, Option, Some, None, Err, Ok, if◌then◌else◌}
use Rattle.std.specs.Str.{is_utf8}
use Rattle.json.specs.Find.{is_null}
use Rattle.json.specs.Json.{Json, document}
use Rattle.json_read.specs.FlatValues.{first_error}
use Rattle.json_read.specs.JsonSlots.{value_error, slot_of}
use Rattle.json_read.specs.ErrorPaths.{spec_row_path}
use Rattle.json_read.specs.LineRows.{LineFailure, LineRow, Rows, failure_of, rows_from}
use Rattle.json_read.specs.RequiredFields.{null_error}
use Rattle.json_read.specs.SlotAdded.{SlotAdded}
use Rattle.json_read.specs.UnsupportedTypes.{unsupported_type}
use Rattle.json_read.specs.declared.error.LineError.TheVariants as line_errors
use Rattle.json_read.specs.declared.error.LineError.TheVariants.{InvalidJson}
use Rattle.json_read.specs.declared.error.JsonReadError.{JsonReadError}
use Rattle.json_read.specs.declared.error.JsonReadError.TheVariants as read_errors
use Rattle.json_read.specs.declared.error.PushLineError.{PushLineError}
use Rattle.json_read.specs.declared.error.PushLineError.TheVariants as push_line_errors
use Rattle.json_read.specs.declared.value_error.ValueError.{ValueError}
use Rattle.json_read.specs.declared.value_error.ValueError.TheVariants.{WrongType}
use Rattle.nest_memory.specs.Physical.{physical_type}
use Rattle.nest_memory.specs.TypeTree.{Letters, TypeTree}
use Rattle.nest_memory.specs.declared.datatypes.physical_type.PhysicalType.{PhysicalType}
use Rattle.nest_memory.specs.declared.datatypes.physical_type.PhysicalType.TheVariants as physical
use Rattle.nest_model.specs.BuilderTree.{BuilderTree}
use Rattle.nest_model.specs.Slot as slots
use Rattle.nest_model.specs.Slot.{Slot}

-- the JSON value of a line
abbrev pub json_value : List ℕ → Option Json
json_value line = if is_utf8 line then document line else None

-- the failure of a value, in the field of that path
abbrev pub value_failure : ValueError → Option Letters → LineFailure
value_failure e path = record { reason = line_errors.Value e; path = path }

abbrev pub slot_unless_error : Option ValueError → Option Letters → Slot → LineRow
slot_unless_error None path s = Ok s
slot_unless_error (Some e) path s = Err (value_failure e path)

-- the type is a struct
abbrev pub spec_is_struct : PhysicalType → Bool
spec_is_struct physical.Struct = true
spec_is_struct _ = false

-- a null struct: a row of a record batch is never null
abbrev pub spec_is_null_struct : TypeTree → Json → Bool
spec_is_null_struct t j = is_null j && spec_is_struct (physical_type t)

-- the error of the value of a line: a null in a field that is not nullable is one only in a value without another error
abbrev pub row_error : TypeTree → Json → Option ValueError
row_error t j = if spec_is_null_struct t j then Some WrongType else first_error (value_error t j) (null_error t j)

-- the failure of a line that is not JSON, which is in no field
abbrev pub json_failure : LineFailure
json_failure = record { reason = InvalidJson; path = None }

abbrev pub value_row : TypeTree → Option Json → LineRow
value_row t None = Err json_failure
value_row t (Some j) = slot_unless_error (row_error t j) (spec_row_path t j) (slot_of t j)

-- the slot of a line, or its error
abbrev pub line_row : TypeTree → List ℕ → LineRow
line_row t line = value_row t (json_value line)

-- the slots of lines, or the index and the error of the first invalid line
abbrev pub line_rows : TypeTree → List (List ℕ) → Rows
line_rows t lines = rows_from (line_row t) 0 lines

-- all slots are valid
abbrev pub AreAllValid : List Slot → Type 0
AreAllValid [] = Unit {0}
AreAllValid (s ∷ ss) = (s ≢ slots.null) × AreAllValid ss

-- slots of a struct type are all valid
abbrev pub StructRowsAreValid : TypeTree → List Slot → Type 0
StructRowsAreValid t ss = physical_type t ≡ physical.Struct → AreAllValid ss

-- the error of a line as that of the text
abbrev pub spec_json_read_error : ℕ → PushLineError → JsonReadError
spec_json_read_error line (push_line_errors.Line e) = read_errors.Line line e
spec_json_read_error line push_line_errors.Overflow = read_errors.Overflow
spec_json_read_error line push_line_errors.Memory = read_errors.Memory

-- the slot of a line was added to a builder
abbrev pub LineAdded : LineRow → BuilderTree → BuilderTree → Type 0
LineAdded (Ok s) old new = SlotAdded s old new
LineAdded (Err e) old new = ⊥

-- the error of a line, or a limit or a failed allocation
abbrev pub IsLineError : PushLineError → LineRow → Type 0
IsLineError (push_line_errors.Line e) row = row ≡ Err (failure_of e)
IsLineError push_line_errors.Overflow row = Unit {0}
IsLineError push_line_errors.Memory row = Unit {0}

-- the error of the data type or of the first invalid line, or a limit or a failed allocation
abbrev pub IsJsonReadError : JsonReadError → TypeTree → List (List ℕ) → Type 0
IsJsonReadError (read_errors.Type e) t lines = unsupported_type t ≡ Some e
IsJsonReadError (read_errors.Line line e) t lines = line_rows t lines ≡ Err (line, failure_of e)
IsJsonReadError read_errors.Overflow t lines = Unit {0}
IsJsonReadError read_errors.Memory t lines = Unit {0}
