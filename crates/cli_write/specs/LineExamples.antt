-- Lines of one boolean field.
use Rattle.std.specs.Prelude.{◌≡◌, ℕ, Bool, true, List, [], Some, None, codes}
use Rattle.json.specs.Json.{Json, boolean, member, no_members, object}
use Rattle.json_read.specs.JsonLines.{json_value}
use Rattle.json_read.specs.declared.error.FieldError.{FieldError}
use Rattle.json_read.specs.declared.error.LineError.TheVariants.{InvalidJson}
use Rattle.nest_memory.specs.TypeTree as types
use Rattle.nest_memory.specs.TypeTree.{FieldTree, field}

abbrev pub json_of_boolean : Bool → Json
json_of_boolean b = object (member (codes "ok") (boolean b) no_members)

-- the line is `{"ok":true}` or `{"ok":false}`, with any whitespace
abbrev pub IsBooleanLine : List ℕ → Bool → Type 0
IsBooleanLine line b = json_value line ≡ Some (json_of_boolean b)

-- the error of a line that is not JSON, which is in no field
abbrev pub invalid_json : FieldError
invalid_json = record { field = None; reason = InvalidJson }

abbrev pub float_field : FieldTree
float_field = field (codes "x") types.float64 true []
