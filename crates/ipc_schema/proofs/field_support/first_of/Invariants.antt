use Rattle.std.proofs.Common.{◌≡◌, map}
use Rattle.ipc_schema.specs.FieldSupport.{field_support_of, first_unsupported}
use Rattle.ipc_schema.proofs.Supported.{first_or}
use Rattle.ipc_schema.proofs.field_support.first_of.Given as goal

abbrev pub invariant-loop-field : goal.invariant-loop-field
invariant-loop-field l = first_or l.fields.items l.first ≡ first_unsupported (map field_support_of l.initial.fields.items)

abbrev pub decreases-loop-field : goal.decreases-loop-field
decreases-loop-field l = goal.left-loop-field l
