use Rattle.std.proofs.Common.{◌≡◌, drop, length, map}
use Rattle.nest_array.specs.Seen.{layout_of}
use Rattle.ipc_arrays.specs.Projection.{decoded_steps, projection_state}
use Rattle.ipc_arrays.proofs.Orders.{with_projection}
use Rattle.ipc_arrays.proofs.projected.read_steps.Given as goal

abbrev pub invariant-loop-step : goal.invariant-loop-step
invariant-loop-step g l =
    with_projection (map layout_of l.columns.items) (decoded_steps (drop l.step-index l.steps) (map g.A.HasDataType.tree (drop (length l.columns.items) l.types)) l.rows l.body (projection_state l.at)) ≡ decoded_steps l.steps (map g.A.HasDataType.tree l.types) l.rows l.body (projection_state l.initial.ahead)
