use Rattle.std.proofs.Common.{◌<◌, sym, ◌∙◌, arith}
use Rattle.std.proofs.lemmas.Result.{err_from_is_err_and}
use Rattle.ipc_schema.specs.SkippedFields.{spec_skipped_fields_at, spec_skipped_field_at}
use Rattle.ipc_schema.proofs.Skipped.{span_goes_on, span_lacks_offset, span_ends, span_is_done, span_level, no_span_level}
use Rattle.ipc_schema.proofs.skipped_fields.+skipped_fields.Goals as goal

pub skipped_field_at-returns-then-depth-eq0-clause-value : goal.skipped_field_at-returns-then-depth-eq0-clause-value
skipped_field_at-returns-then-depth-eq0-clause-value t c = sym (no_span_level c.args.depth c.args.bytes.now c.args.position c.args.left c.if-depth-eq0.true)

pub skipped_field_at-returns-clause-value : goal.skipped_field_at-returns-clause-value
skipped_field_at-returns-clause-value t c =
    let deep : 0 < c.args.depth = omega (arith, c.if-depth-eq0.false) in
    c.skipped_over.ensures.value ∙ sym (span_level c.args.depth c.args.bytes.now c.args.position c.args.left deep)

pub skipped_fields_at-returns-in_err-position-clause-value : goal.skipped_fields_at-returns-in_err-position-clause-value
skipped_fields_at-returns-in_err-position-clause-value t c =
    let p = err_from_is_err_and c.from_residual.result c.from_residual.ensures.1 in
    let read = spec_skipped_field_at c.args.depth c.args.bytes.now in
    rw (p.1, p.2) (sym (span_lacks_offset read c.args.bytes.now c.loop-i.sum c.args.items.count c.args.items.first c.loop-i.i c.loop-i.rest (spec_skipped_fields_at read c.args.bytes.now c.args.items.count c.args.items.first c.args.left) c.in_err-position.field-0.0 c.loop-i-test.true (sym c.in_err-position.ensures) c.loop-i.invariant.0))

pub skipped_fields_at-returns-in_err-span-clause-value : goal.skipped_fields_at-returns-in_err-span-clause-value
skipped_fields_at-returns-in_err-span-clause-value t c =
    let p = err_from_is_err_and c.from_residual-in_err-span.result c.from_residual-in_err-span.ensures.1 in
    let read = spec_skipped_field_at c.args.depth c.args.bytes.now in
    rw (p.1, p.2) (sym (span_ends read c.args.bytes.now c.loop-i.sum c.args.items.count c.args.items.first c.loop-i.i c.loop-i.rest (spec_skipped_fields_at read c.args.bytes.now c.args.items.count c.args.items.first c.args.left) c.in_err-span.field-0.0 c.in_ok-position.position c.loop-i-test.true (sym c.in_ok-position.ensures) (sym c.in_err-span.ensures.value) c.loop-i.invariant.0))

pub skipped_fields_at-loop-i-preserved : goal.skipped_fields_at-loop-i-preserved
skipped_fields_at-loop-i-preserved t c =
    let read = spec_skipped_field_at c.args.depth c.args.bytes.now in
    rw c.plus-sum.ensures (span_goes_on read c.args.bytes.now c.loop-i.sum c.args.items.count c.args.items.first c.loop-i.i c.loop-i.rest (spec_skipped_fields_at read c.args.bytes.now c.args.items.count c.args.items.first c.args.left) c.in_ok-position.position c.in_ok-span.span c.in_ok-span.after c.loop-i-test.true (sym c.in_ok-position.ensures) (sym c.in_ok-span.ensures.value) c.loop-i.invariant.0, (omega (arith, c.loop-i.invariant.1.0, c.in_ok-span.ensures.within_budget.0), omega (arith, c.loop-i.invariant.1.1, c.in_ok-span.ensures.within_budget.1), omega (arith, c.loop-i.invariant.1.2, c.in_ok-span.ensures.within_budget.2)))

pub skipped_fields_at-returns-clause-value : goal.skipped_fields_at-returns-clause-value
skipped_fields_at-returns-clause-value t c =
    let read = spec_skipped_field_at c.args.depth c.args.bytes.now in
    sym (span_is_done read c.args.bytes.now c.loop-i.sum c.args.items.count c.args.items.first c.loop-i.i c.loop-i.rest (spec_skipped_fields_at read c.args.bytes.now c.args.items.count c.args.items.first c.args.left) c.loop-i-test.false c.loop-i.invariant.0)
