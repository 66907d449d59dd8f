use Rattle.std.proofs.Common.{◌≡◌, ◌+◌, length, map, drop, arith}
use Rattle.nest_array.specs.Seen.{layout_of}
use Rattle.ipc_arrays.specs.Decoding.{rest_of}
use Rattle.ipc_arrays.specs.Projection.{decoded_steps, projection_state}
use Rattle.ipc_arrays.proofs.Orders.{with_projection}
use Rattle.ipc_arrays.proofs.Passing.{pass_goes_on, pass_ends, read_goes_on, read_ends, no_type_left, steps_are_done, types_left, no_types_left, pushed}
use Rattle.ipc_arrays.proofs.projected.read_steps.Goals as goal
use Rattle.ipc_arrays.proofs.projected.read_steps.Goals.{in-Skip+in-Ok, in-Read+else-k-types+in-Ok-read_column+in_ok-push-in-Ok-read_column}

pub returns-in-Err : goal.returns-in-Err
returns-in-Err g c = λ known.
    let tree = g.A.HasDataType.tree in
    let left = map tree (drop (length c.loop-step.columns.items) c.args.types.now) in
    let total = decoded_steps c.args.steps.now (map tree c.args.types.now) c.args.rows c.args.body.now (projection_state c.args.ahead) in
    pass_ends c.args.steps.now c.loop-step.step-index c.args.rows c.args.body.now (map layout_of c.loop-step.columns.items) left (projection_state c.loop-step.at) total _ c.in-Skip.span c.in-Err.error c.loop-step-test.true c.in-Skip.is c.in-Err.ensures c.loop-step.invariant

pub returns-then-k-types : goal.returns-then-k-types
returns-then-k-types g c =
    let tree = g.A.HasDataType.tree in
    let left = map tree (drop (length c.loop-step.columns.items) c.args.types.now) in
    let total = decoded_steps c.args.steps.now (map tree c.args.types.now) c.args.rows c.args.body.now (projection_state c.args.ahead) in
    let none = no_types_left tree c.args.types.now (length c.loop-step.columns.items) c.len-k.result (omega (arith, c.len-k.ensures, c.loop-step.columns.ok)) c.if-k-types.true in
    no_type_left c.args.steps.now c.loop-step.step-index c.args.rows c.args.body.now (map layout_of c.loop-step.columns.items) left (projection_state c.loop-step.at) total _ c.loop-step-test.true c.in-Read.is none c.loop-step.invariant

pub returns-in-Err-read_column : goal.returns-in-Err-read_column
returns-in-Err-read_column g c =
    let tree = g.A.HasDataType.tree in
    let k = length c.loop-step.columns.items in
    let left = map tree (drop k c.args.types.now) in
    let total = decoded_steps c.args.steps.now (map tree c.args.types.now) c.args.rows c.args.body.now (projection_state c.args.ahead) in
    let more = types_left tree c.args.types.now k c.len-k.result (omega (arith, c.len-k.ensures, c.loop-step.columns.ok)) c.index-types-k.result (omega (arith, c.if-k-types.false)) c.index-types-k.is in
    read_ends c.args.steps.now c.loop-step.step-index c.args.rows c.args.body.now (map layout_of c.loop-step.columns.items) left (projection_state c.loop-step.at) total _ (tree c.index-types-k.result) (map tree (drop (k + 1) c.args.types.now)) c.in-Err-read_column.error c.loop-step-test.true c.in-Read.is more (rw c.data_type.ensures at c.in-Err-read_column.ensures) c.loop-step.invariant

pub loop-step-preserved : goal.loop-step-preserved
loop-step-preserved g c =
    let tree = g.A.HasDataType.tree in
    let k = length c.loop-step.columns.items in
    let left = map tree (drop k c.args.types.now) in
    let total = decoded_steps c.args.steps.now (map tree c.args.types.now) c.args.rows c.args.body.now (projection_state c.args.ahead) in
    elim c.match-step.branch [
      | in-Skip+in-Ok w ↦ rw (w.columns-is, w.at-is) (pass_goes_on c.args.steps.now c.loop-step.step-index c.args.rows c.args.body.now (map layout_of c.loop-step.columns.items) left (projection_state c.loop-step.at) total _ w.in-Skip.span (projection_state w.in-Ok.tail) c.loop-step-test.true w.in-Skip.is w.in-Ok.ensures c.loop-step.invariant)
      | in-Read+else-k-types+in-Ok-read_column+in_ok-push-in-Ok-read_column w ↦
          rw (w.columns-is, w.at-is)
          (let more = types_left tree c.args.types.now k w.len-k.result (omega (arith, w.len-k.ensures, c.loop-step.columns.ok)) w.index-types-k.result (omega (arith, w.if-k-types.false)) w.index-types-k.is in
          pushed layout_of tree c.args.types.now c.loop-step.columns.items w.push.new.self.items w.in-Ok-read_column.column (λ types front. with_projection front (decoded_steps (drop (c.loop-step.step-index + 1) c.args.steps.now) types c.args.rows c.args.body.now (record { rest = rest_of w.in-Ok-read_column.left; more = c.loop-step.at.more.now })) ≡ total) w.in_ok-push-in-Ok-read_column.ensures.items
          (read_goes_on c.args.steps.now c.loop-step.step-index c.args.rows c.args.body.now (map layout_of c.loop-step.columns.items) left (projection_state c.loop-step.at) total _ (tree w.index-types-k.result) (map tree (drop (k + 1) c.args.types.now)) (layout_of w.in-Ok-read_column.column) (rest_of w.in-Ok-read_column.left) c.loop-step-test.true w.in-Read.is more (rw w.data_type.ensures at w.in-Ok-read_column.ensures) c.loop-step.invariant))
    ]

pub returns : goal.returns
returns g c =
    let tree = g.A.HasDataType.tree in
    let left = map tree (drop (length c.loop-step.columns.items) c.args.types.now) in
    let total = decoded_steps c.args.steps.now (map tree c.args.types.now) c.args.rows c.args.body.now (projection_state c.args.ahead) in
    steps_are_done c.args.steps.now c.loop-step.step-index c.args.rows c.args.body.now (map layout_of c.loop-step.columns.items) left (projection_state c.loop-step.at) total c.loop-step-test.false c.loop-step.invariant
