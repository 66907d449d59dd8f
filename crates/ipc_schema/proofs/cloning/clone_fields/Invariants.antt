use Rattle.std.proofs.Common.{◌≡◌, map, take}
use Rattle.nest_memory.specs.TypeOf.{field_of}
use Rattle.ipc_schema.proofs.cloning.clone_fields.Given as goal

abbrev pub invariant-loop-field : goal.invariant-loop-field
invariant-loop-field l = map field_of l.copy.items ≡ map field_of (take l.field-index l.fields)
