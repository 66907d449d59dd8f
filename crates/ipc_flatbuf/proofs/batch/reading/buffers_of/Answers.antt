use Rattle.std.proofs.Common.{sym}
use Rattle.std.proofs.lemmas.Result.{err_from_is_err_and}
use Rattle.ipc_flatbuf.specs.Flatbuffers.{structs_at}
use Rattle.ipc_flatbuf.specs.VectorLoops.{structs_start, struct_goes_on, struct_fails, structs_are_done}
use Rattle.ipc_flatbuf.specs.Batches.{spec_buffer_at}
use Rattle.ipc_flatbuf.proofs.batch.reading.buffers_of.Goals as goal

pub loop-i-init : goal.loop-i-init
loop-i-init c = rw c.new-buffers.ensures.items (structs_start (spec_buffer_at c.args.bytes.now) 16 c.args.items.count c.args.items.first)

pub returns-in_err-buffer : goal.returns-in_err-buffer
returns-in_err-buffer c =
    let p = err_from_is_err_and c.from_residual.result c.from_residual.ensures.1 in
    let read = spec_buffer_at c.args.bytes.now in
    rw (p.1, p.2) (λ known. struct_fails read 16 c.loop-i.buffers.items c.args.items.count c.args.items.first c.loop-i.i c.in_err-buffer.field-0.0 (structs_at read 16 c.args.items.count c.args.items.first) c.loop-i-test.true (sym c.in_err-buffer.ensures) c.loop-i.invariant)

pub loop-i-preserved : goal.loop-i-preserved
loop-i-preserved c =
    let read = spec_buffer_at c.args.bytes.now in
    rw c.in_ok-push.ensures.items (struct_goes_on read 16 c.loop-i.buffers.items c.args.items.count c.args.items.first c.loop-i.i c.in_ok-buffer.buffer (structs_at read 16 c.args.items.count c.args.items.first) c.loop-i-test.true (sym c.in_ok-buffer.ensures) c.loop-i.invariant)

pub returns : goal.returns
returns c =
    let read = spec_buffer_at c.args.bytes.now in
    structs_are_done read 16 c.loop-i.buffers.items c.args.items.count c.args.items.first c.loop-i.i (structs_at read 16 c.args.items.count c.args.items.first) c.loop-i-test.false c.loop-i.invariant
