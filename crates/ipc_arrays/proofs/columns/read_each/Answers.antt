use Rattle.std.proofs.Common.{map}
use Rattle.nest_array.specs.Seen.{layout_of}
use Rattle.ipc_arrays.specs.Decoding.{rest_of, decoded_each}
use Rattle.ipc_arrays.proofs.Orders.{order_goes_on, order_ends, order_is_done}
use Rattle.ipc_arrays.proofs.columns.read_each.Goals as goal

pub returns-in-Err : goal.returns-in-Err
returns-in-Err g c =
    let tree = g.A.HasDataType.tree in
    let total = decoded_each (map tree c.args.types.now) c.args.rows c.args.body.now (rest_of c.args.cursor) in
    order_ends layout_of tree c.args.types.now c.args.rows c.args.body.now c.loop-it.it-index c.in-Err.error c.loop-it.columns.items c.it-item.result (rest_of c.loop-it.rest) total c.loop-it-test.true c.it-item.is (rw c.data_type.ensures at c.in-Err.ensures) c.loop-it.invariant

pub loop-it-preserved : goal.loop-it-preserved
loop-it-preserved g c =
    let tree = g.A.HasDataType.tree in
    let total = decoded_each (map tree c.args.types.now) c.args.rows c.args.body.now (rest_of c.args.cursor) in
    order_goes_on layout_of tree c.args.types.now c.args.rows c.args.body.now c.loop-it.it-index c.loop-it.columns.items c.push.new.self.items c.in-Ok.column c.it-item.result (rest_of c.loop-it.rest) (rest_of c.in-Ok.tail) total c.loop-it-test.true c.it-item.is c.in_ok-push-in-Ok.ensures.items (rw c.data_type.ensures at c.in-Ok.ensures) c.loop-it.invariant

pub returns : goal.returns
returns g c =
    let tree = g.A.HasDataType.tree in
    let total = decoded_each (map tree c.args.types.now) c.args.rows c.args.body.now (rest_of c.args.cursor) in
    order_is_done layout_of tree c.args.types.now c.args.rows c.args.body.now c.loop-it.it-index c.loop-it.columns.items (rest_of c.loop-it.rest) total c.loop-it-test.false c.loop-it.invariant
