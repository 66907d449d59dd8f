use Rattle.std.proofs.Common.{sym}
use Rattle.std.proofs.lemmas.Result.{err_from_is_err_and}
use Rattle.ipc_flatbuf.specs.Flatbuffers.{structs_at}
use Rattle.ipc_flatbuf.specs.VectorLoops.{structs_start, struct_goes_on, struct_fails, structs_are_done}
use Rattle.ipc_flatbuf.specs.Batches.{spec_node_at}
use Rattle.ipc_flatbuf.proofs.batch.reading.nodes_of.Goals as goal

pub loop-i-init : goal.loop-i-init
loop-i-init c = rw c.new-nodes.ensures.items (structs_start (spec_node_at c.args.bytes.now) 16 c.args.items.count c.args.items.first)

pub returns-in_err-node : goal.returns-in_err-node
returns-in_err-node c =
    let p = err_from_is_err_and c.from_residual.result c.from_residual.ensures.1 in
    let read = spec_node_at c.args.bytes.now in
    rw (p.1, p.2) (λ known. struct_fails read 16 c.loop-i.nodes.items c.args.items.count c.args.items.first c.loop-i.i c.in_err-node.field-0.0 (structs_at read 16 c.args.items.count c.args.items.first) c.loop-i-test.true (sym c.in_err-node.ensures) c.loop-i.invariant)

pub loop-i-preserved : goal.loop-i-preserved
loop-i-preserved c =
    let read = spec_node_at c.args.bytes.now in
    rw c.in_ok-push.ensures.items (struct_goes_on read 16 c.loop-i.nodes.items c.args.items.count c.args.items.first c.loop-i.i c.in_ok-node.node (structs_at read 16 c.args.items.count c.args.items.first) c.loop-i-test.true (sym c.in_ok-node.ensures) c.loop-i.invariant)

pub returns : goal.returns
returns c =
    let read = spec_node_at c.args.bytes.now in
    structs_are_done read 16 c.loop-i.nodes.items c.args.items.count c.args.items.first c.loop-i.i (structs_at read 16 c.args.items.count c.args.items.first) c.loop-i-test.false c.loop-i.invariant
