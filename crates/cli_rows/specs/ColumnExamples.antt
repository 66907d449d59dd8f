-- Two columns, the first one boolean.
use Rattle.std.specs.Prelude.{List, [], ◌∷◌, true, codes}
use Rattle.nest_memory.specs.TypeTree as types
use Rattle.nest_memory.specs.TypeTree.{FieldTree, field}

abbrev pub ok_and_id : List FieldTree
ok_and_id = field (codes "ok") types.boolean true [] ∷ field (codes "id") types.int64 true [] ∷ []
