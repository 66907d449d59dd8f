use Rattle.std.proofs.Common.{◌≡◌, ◌+◌, ◌*◌, map, drop}
use Rattle.std.specs.List.{list_any}
use Rattle.nest_memory.specs.TypeOf.{field_of}
use Rattle.ipc_schema.specs.Unions.{spec_field_has_union}
use Rattle.ipc_schema.proofs.unions.+unions.Given as goal

abbrev pub decreases-field_has_union : goal.decreases-field_has_union
decreases-field_has_union l = 2 * l.depth

abbrev pub decreases-any_has_union : goal.decreases-any_has_union
decreases-any_has_union l = 2 * l.depth + 1

abbrev pub invariant-any_has_union-loop-field : goal.invariant-any_has_union-loop-field
invariant-any_has_union-loop-field l = list_any (spec_field_has_union l.depth) (map field_of (drop l.field-index l.fields)) ≡ list_any (spec_field_has_union l.depth) (map field_of l.fields)
