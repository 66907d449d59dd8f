-- Types that share their text, and worked examples of floating-point types.
use Rattle.std.specs.Prelude.{◌≡◌, ◌≢◌, ℕ, Bool, true, false, List, [], codes, None, Ok, Err, refl}
use Rattle.nest_memory.specs.Floats.{spec_float_type}
use Rattle.nest_memory.specs.TypeText.{text_of_type}
use Rattle.nest_memory.specs.TypeTree as types
use Rattle.nest_memory.specs.TypeTree.{TypeTree, FieldTree, field, more_fields, no_fields}
use Rattle.nest_memory.specs.declared.datatypes.floats.Precision.TheVariants.{Half, Single, Double}
use Rattle.type_text.specs.declared.error.ParseTypeError.TheVariants.{Syntax}
use Rattle.type_text.specs.TypeParser.{parsed_type, read_complete_type, read_type, read_keyword, read_list, read_item_field, read_field, read_extension, split_first}

-- two different types have the text
abbrev pub ShareText : List ℕ → TypeTree → TypeTree → Type 0
ShareText text t u = (text_of_type t ≡ text) × (text_of_type u ≡ text) × (t ≢ u)

-- a nullable field of type null
abbrev pub nulls : List ℕ → FieldTree
nulls name = field name types.null true []

-- a map from null to null with these names of its value field and its entries
abbrev pub null_map : List ℕ → List ℕ → TypeTree
null_map value entries = types.map (field entries (types.struct (more_fields (field (codes "key") types.null false []) (more_fields (nulls value) no_fields))) false []) false

-- a map whose entries have type null, which the columnar format does not allow
abbrev pub map_of_null : Bool → TypeTree
map_of_null nullable = types.map (field (codes "entries") types.null nullable []) false

-- a struct of two unnamed fields, and a struct of one field whose name has the text of both
abbrev pub two_fields : TypeTree
two_fields = types.struct (more_fields (nulls []) (more_fields (nulls []) no_fields))

abbrev pub one_field : TypeTree
one_field = types.struct (more_fields (nulls (codes ": null, ")) no_fields)

-- ---- floating-point types

half_text : text_of_type (spec_float_type Half) ≡ codes "halffloat"
half_text = refl

single_text : text_of_type (spec_float_type Single) ≡ codes "float"
single_text = refl

double_text : text_of_type (spec_float_type Double) ≡ codes "double"
double_text = refl

-- the bare type, which is not parsed
bare_text : text_of_type types.float64 ≡ codes "double"
bare_text = refl

half_parsed : parsed_type (codes "halffloat") ≡ Ok (spec_float_type Half)
unfolding read_complete_type read_type read_keyword
half_parsed = refl

single_parsed : parsed_type (codes "float") ≡ Ok (spec_float_type Single)
unfolding read_complete_type read_type read_keyword
single_parsed = refl

list_parsed : parsed_type (codes "list<item: double>") ≡ Ok (types.list (field (codes "item") (spec_float_type Double) true []))
unfolding read_complete_type read_type read_keyword read_list read_item_field read_field split_first
list_parsed = refl

-- the error is at the name of the extension type
extension_refused : parsed_type (codes "extension<tiekvorn.float64, uint64>") ≡ Err (Syntax 10)
unfolding read_complete_type read_type read_keyword read_extension split_first
extension_refused = refl

-- an extension type of this name that is not floating-point
other_parsed : parsed_type (codes "extension<tiekvorn.float64, uint32>") ≡ Ok (types.extension (codes "tiekvorn.float64") types.uint32 None)
unfolding read_complete_type read_type read_keyword read_extension split_first
other_parsed = refl
