use Rattle.std.proofs.Common.{◌≡◌, ◌+◌, ◌*◌, ◌≤◌, ◌++◌, length, map, drop, Ok}
use Rattle.std.specs.List.{AllByRecursion}
use Rattle.nest_memory.specs.TypeOf.{field_of}
use Rattle.ipc_flatbuf.specs.PartBytes.{bytes_of_each, concatenated}
use Rattle.ipc_schema.specs.WriteChecks.{spec_check_each, spec_check_field}
use Rattle.ipc_schema.specs.DictionaryIds.{total, count_dictionaries}
use Rattle.ipc_schema.specs.SchemaBytes.{each_bytes}
use Rattle.ipc_schema.specs.FieldLaws.{FieldFits}
use Rattle.ipc_schema.proofs.writing.+parts.Given as goal

abbrev pub decreases-field_part : goal.decreases-field_part
decreases-field_part l = 2 * l.depth

abbrev pub decreases-field_parts_of : goal.decreases-field_parts_of
decreases-field_parts_of l = 2 * l.depth + 1

abbrev pub invariant-field_parts_of-loop-field : goal.invariant-field_parts_of-loop-field
invariant-field_parts_of-loop-field l = record {
  form : spec_check_each (spec_check_field l.depth) (map field_of (drop l.field-index l.fields)) ≡ Ok tt;
  behind : l.behind + total (count_dictionaries l.depth) (map field_of (drop l.field-index l.fields)) ≡ l.next + total (count_dictionaries l.depth) (map field_of l.fields);
  parts : bytes_of_each l.parts.items ++ each_bytes l.depth l.behind (map field_of (drop l.field-index l.fields)) ≡ each_bytes l.depth l.next (map field_of l.fields);
  long : l.behind ≤ l.next + length (concatenated (bytes_of_each l.parts.items));
  fits : AllByRecursion (FieldFits l.depth) (map field_of (drop l.field-index l.fields)) → AllByRecursion (FieldFits l.depth) (map field_of l.fields);
}
