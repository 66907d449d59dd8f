use Rattle.std.proofs.Common.{◌+◌, map, drop, refl, arith}
use Rattle.ipc_arrays.specs.NeededBuffers.{spec_needed_buffers}
use Rattle.ipc_arrays.proofs.Passing.{types_left, no_types_left}
use Rattle.ipc_arrays.proofs.Needed.{flags_none, skip_goes_on, skip_ends, column_goes_on, column_ends, no_column_left, columns_are_done}
use Rattle.ipc_arrays.proofs.projected_buffers.needed_buffers.Goals as goal
use Rattle.ipc_arrays.proofs.projected_buffers.needed_buffers.Goals.{in-Skip+in-Ok, in-Read+else-k-types+in-Ok-flag_read}

pub loop-step-init : goal.loop-step-init
loop-step-init g c = rw c.new-needed.ensures.items (flags_none (spec_needed_buffers c.args.steps.now (map g.A.HasDataType.tree c.args.types.now) c.args.more.now c.args.buffers.now))

pub returns-in-Err : goal.returns-in-Err
returns-in-Err g c = λ known.
    let tree = g.A.HasDataType.tree in
    let left = map tree (drop c.loop-step.k c.args.types.now) in
    let total = spec_needed_buffers c.args.steps.now (map tree c.args.types.now) c.args.more.now c.args.buffers.now in
    skip_ends c.args.steps.now c.loop-step.step-index c.loop-step.needed.items left c.loop-step.counts.now c.loop-step.rest.now total _ c.in-Skip.span c.in-Err.error c.loop-step-test.true c.in-Skip.is (c.in-Err.ensures.value known) c.loop-step.invariant

pub returns-then-k-types : goal.returns-then-k-types
returns-then-k-types g c =
    let tree = g.A.HasDataType.tree in
    let left = map tree (drop c.loop-step.k c.args.types.now) in
    let total = spec_needed_buffers c.args.steps.now (map tree c.args.types.now) c.args.more.now c.args.buffers.now in
    let none = no_types_left tree c.args.types.now c.loop-step.k c.loop-step.k refl c.if-k-types.true in
    no_column_left c.args.steps.now c.loop-step.step-index c.loop-step.needed.items left c.loop-step.counts.now c.loop-step.rest.now total _ c.loop-step-test.true c.in-Read.is none c.loop-step.invariant

pub returns-in-Err-flag_read : goal.returns-in-Err-flag_read
returns-in-Err-flag_read g c = λ known.
    let tree = g.A.HasDataType.tree in
    let k = c.loop-step.k in
    let left = map tree (drop k c.args.types.now) in
    let total = spec_needed_buffers c.args.steps.now (map tree c.args.types.now) c.args.more.now c.args.buffers.now in
    let more = types_left tree c.args.types.now k k refl c.index-types-k.result (omega (arith, c.if-k-types.false)) c.index-types-k.is in
    column_ends c.args.steps.now c.loop-step.step-index c.loop-step.needed.items left c.loop-step.counts.now c.loop-step.rest.now total _ (tree c.index-types-k.result) (map tree (drop (k + 1) c.args.types.now)) c.in-Err-flag_read.error c.loop-step-test.true c.in-Read.is more (rw c.data_type.ensures at c.in-Err-flag_read.ensures.value known) c.loop-step.invariant

pub loop-step-preserved : goal.loop-step-preserved
loop-step-preserved g c =
    let tree = g.A.HasDataType.tree in
    let k = c.loop-step.k in
    let left = map tree (drop k c.args.types.now) in
    let total = spec_needed_buffers c.args.steps.now (map tree c.args.types.now) c.args.more.now c.args.buffers.now in
    elim c.match-step.branch [
      | in-Skip+in-Ok w ↦
          rw (w.needed-is, w.rest-is, w.counts-is, w.k-is)
          (skip_goes_on c.args.steps.now c.loop-step.step-index c.loop-step.needed.items left c.loop-step.counts.now c.loop-step.rest.now total _ w.in-Skip.span w.flag_skipped.new.needed.items w.in-Ok.tail.now w.in-Ok.others.now c.loop-step-test.true w.in-Skip.is w.in-Ok.ensures.value w.in-Ok.ensures.flags c.loop-step.invariant)
      | in-Read+else-k-types+in-Ok-flag_read w ↦
          rw (w.needed-is, w.rest-is, w.counts-is, w.k-is)
          (let more = types_left tree c.args.types.now k k refl w.index-types-k.result (omega (arith, w.if-k-types.false)) w.index-types-k.is in
          column_goes_on c.args.steps.now c.loop-step.step-index c.loop-step.needed.items left c.loop-step.counts.now c.loop-step.rest.now total _ (tree w.index-types-k.result) (map tree (drop (k + 1) c.args.types.now)) w.flag_read.new.needed.items w.in-Ok-flag_read.tail.now c.loop-step-test.true w.in-Read.is more (rw w.data_type.ensures at w.in-Ok-flag_read.ensures.value) w.in-Ok-flag_read.ensures.flags c.loop-step.invariant)
    ]

pub returns : goal.returns
returns g c =
    let tree = g.A.HasDataType.tree in
    let left = map tree (drop c.loop-step.k c.args.types.now) in
    let total = spec_needed_buffers c.args.steps.now (map tree c.args.types.now) c.args.more.now c.args.buffers.now in
    columns_are_done c.args.steps.now c.loop-step.step-index c.loop-step.needed.items left c.loop-step.counts.now c.loop-step.rest.now total c.loop-step-test.false c.loop-step.invariant
