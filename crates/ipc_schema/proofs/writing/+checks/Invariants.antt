use Rattle.std.proofs.Common.{◌≡◌, ◌+◌, ◌*◌, map, drop}
use Rattle.nest_memory.specs.TypeOf.{field_of}
use Rattle.ipc_schema.specs.WriteChecks.{spec_check_each, spec_check_field}
use Rattle.ipc_schema.proofs.writing.+checks.Given as goal

abbrev pub decreases-check_field : goal.decreases-check_field
decreases-check_field l = 2 * l.depth

abbrev pub decreases-check_each : goal.decreases-check_each
decreases-check_each l = 2 * l.depth + 1

abbrev pub invariant-check_each-loop-field : goal.invariant-check_each-loop-field
invariant-check_each-loop-field l = spec_check_each (spec_check_field l.depth) (map field_of (drop l.field-index l.fields)) ≡ spec_check_each (spec_check_field l.depth) (map field_of l.fields)
