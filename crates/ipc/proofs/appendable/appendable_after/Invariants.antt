use Rattle.std.proofs.Common.{◌≡◌, take}
use Rattle.ipc_schema.specs.ProjectedSchemas.{projected_schema_of}
use Rattle.ipc.specs.Streams.{spec_appendable_after}
use Rattle.ipc.proofs.appendable.appendable_after.Given as goal

abbrev pub invariant-loop-other : goal.invariant-loop-other
invariant-loop-other l = l.ids.items ≡ spec_appendable_after (projected_schema_of l.picked) l.id (take l.other-index l.appendable)
