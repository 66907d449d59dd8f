-- The fields of each struct have distinct names, at any depth.
use Rattle.nest_memory.specs.TypeTree as types
use Rattle.nest_memory.specs.TypeTree.{TypeTree, FieldTree, field, FieldTrees, no_fields, more_fields}
use Rattle.json_write.specs.TypedSlots.{HaveDistinctNames}

abbrev mutual
  pub HasDistinctFieldNames : TypeTree → Type 0
  HasDistinctFieldNames (types.list f) = FieldHasDistinctFieldNames f
  HasDistinctFieldNames (types.fixed_size_list f s) = FieldHasDistinctFieldNames f
  HasDistinctFieldNames (types.large_list f) = FieldHasDistinctFieldNames f
  HasDistinctFieldNames (types.map f b) = FieldHasDistinctFieldNames f
  HasDistinctFieldNames (types.dictionary k t b) = HasDistinctFieldNames t
  HasDistinctFieldNames (types.struct fs) = HaveDistinctNames fs × FieldsHaveDistinctFieldNames fs
  HasDistinctFieldNames (types.extension n t m) = HasDistinctFieldNames t
  HasDistinctFieldNames t = Unit {0}

  pub FieldHasDistinctFieldNames : FieldTree → Type 0
  FieldHasDistinctFieldNames (field n t b es) = HasDistinctFieldNames t

  pub FieldsHaveDistinctFieldNames : FieldTrees → Type 0
  FieldsHaveDistinctFieldNames no_fields = Unit {0}
  FieldsHaveDistinctFieldNames (more_fields f fs) = FieldHasDistinctFieldNames f × FieldsHaveDistinctFieldNames fs
