use Rattle.std.proofs.Common.{sym, ap}
use Rattle.std.proofs.lemmas.Result.{err_from_is_err_and}
use Rattle.std.specs.Int.{w64, cast_signed}
use Rattle.ipc_flatbuf.specs.Flatbuffers.{signed_at, structs_at}
use Rattle.ipc_flatbuf.specs.VectorLoops.{structs_start, struct_goes_on, struct_fails, structs_are_done}
use Rattle.ipc_flatbuf.proofs.Signs.{signed_is}
use Rattle.ipc_flatbuf.proofs.batch.variadic.counts_of.Goals as goal

pub loop-i-init : goal.loop-i-init
loop-i-init c = rw c.new-counts.ensures.items (structs_start (signed_at w64 c.args.bytes.now) 8 c.args.items.count c.args.items.first)

pub returns-in_err-number : goal.returns-in_err-number
returns-in_err-number c =
    let p = err_from_is_err_and c.from_residual.result c.from_residual.ensures.1 in
    let read = signed_at w64 c.args.bytes.now in
    rw (p.1, p.2) (λ known. struct_fails read 8 c.loop-i.counts.items c.args.items.count c.args.items.first c.loop-i.i c.in_err-number.field-0.0 (structs_at read 8 c.args.items.count c.args.items.first) c.loop-i-test.true (sym (ap signed_is c.in_err-number.ensures)) c.loop-i.invariant)

pub loop-i-preserved : goal.loop-i-preserved
loop-i-preserved c =
    let read = signed_at w64 c.args.bytes.now in
    rw c.in_ok-push.ensures.ok (struct_goes_on read 8 c.loop-i.counts.items c.args.items.count c.args.items.first c.loop-i.i (cast_signed w64 c.in_ok-number.number) (structs_at read 8 c.args.items.count c.args.items.first) c.loop-i-test.true (sym (ap signed_is c.in_ok-number.ensures)) c.loop-i.invariant)

pub returns : goal.returns
returns c =
    let read = signed_at w64 c.args.bytes.now in
    structs_are_done read 8 c.loop-i.counts.items c.args.items.count c.args.items.first c.loop-i.i (structs_at read 8 c.args.items.count c.args.items.first) c.loop-i-test.false c.loop-i.invariant
