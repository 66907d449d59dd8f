use Rattle.std.specs.Prelude.{◌≢◌, Some}
use Rattle.std.proofs.Common.{ℕ, ◌<◌, ◌≤◌}
use Rattle.json_read.specs.StructMembers.{field_name_at_index}
use Rattle.nest_memory.specs.TypeOf.{field_list_of}
use Rattle.json_read.proofs.fields.named_from.Given as goal

abbrev pub invariant-loop-i : goal.invariant-loop-i
invariant-loop-i l = (i : ℕ) → l.start ≤ i → i < l.i → field_name_at_index (field_list_of l.fields) i ≢ Some l.name
