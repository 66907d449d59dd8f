use Rattle.std.proofs.Common.{◌≡◌, ◌+◌, ◌*◌}
use Rattle.ipc_schema.specs.SkippedFields.{IsWithinBudget, spec_skipped_fields_at, spec_skipped_field_at}
use Rattle.ipc_schema.proofs.Skipped.{with_sum, spans_left}
use Rattle.ipc_schema.proofs.skipped_fields.+skipped_fields.Given as goal

abbrev pub decreases-skipped_field_at : goal.decreases-skipped_field_at
decreases-skipped_field_at l = 3 * l.depth

abbrev pub decreases-skipped_fields_at : goal.decreases-skipped_fields_at
decreases-skipped_fields_at l = 3 * l.depth + 1

abbrev pub decreases-skipped_over : goal.decreases-skipped_over
decreases-skipped_over l = 3 * l.depth + 2

abbrev pub invariant-skipped_fields_at-loop-i : goal.invariant-skipped_fields_at-loop-i
invariant-skipped_fields_at-loop-i l =
    (with_sum l.sum (spans_left (spec_skipped_field_at l.depth l.bytes) l.bytes l.items.count l.items.first l.i l.rest) ≡ spec_skipped_fields_at (spec_skipped_field_at l.depth l.bytes) l.bytes l.items.count l.items.first l.left) × IsWithinBudget l.left l.sum l.rest
