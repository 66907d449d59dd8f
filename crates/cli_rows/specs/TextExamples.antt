-- Columns: three that are supported, and a list view in a struct.
use Rattle.std.specs.Prelude.{List, [], ◌∷◌, true, false, Some, None, codes}
use Rattle.nest_memory.specs.TypeTree as types
use Rattle.nest_memory.specs.TypeTree.{FieldTree, field}
use Rattle.ipc_schema.specs.FieldSupport.{FieldSupportModel, UnsupportedFieldModel}
use Rattle.ipc_schema.specs.declared.field_support.UnsupportedType.TheVariants.{ListView}

abbrev pub id_field : FieldTree
id_field = field (codes "id") types.int64 false []

abbrev pub name_field : FieldTree
name_field = field (codes "name") types.utf8 true []

abbrev pub names_field : FieldTree
names_field = field (codes "names") types.utf8 true []

abbrev pub view_field : UnsupportedFieldModel
view_field = record { names = codes "v" ∷ codes "s" ∷ []; type = ListView }

abbrev pub view_columns : List FieldSupportModel
view_columns =
    record { name = codes "id"; unsupported = None }
    ∷ record { name = codes "s"; unsupported = Some view_field }
    ∷ record { name = codes "name"; unsupported = None }
    ∷ []
