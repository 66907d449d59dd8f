use Rattle.std.proofs.Common.{◌≡◌, ◌+◌, ◌-◌, length, arith, refl, ap, drop}
use Rattle.std.proofs.lemmas.Result.{err_from_is_err_and}
use Rattle.std.proofs.lemmas.List.{length-append}
use Rattle.ipc_flatbuf.specs.PartBytes.{concatenated, bytes_of_each}
use Rattle.ipc_flatbuf.specs.WriteErrors.{size_error_of_whole}
use Rattle.ipc_flatbuf.proofs.Parts.{row_more, row_done, front_together}
use Rattle.ipc_flatbuf.proofs.writers.write_offsets.Goals as goal

pub loop-body-init : goal.loop-body-init
loop-body-init c = record { row = refl; position = omega arith; low = omega arith }

pub returns-in_err-write_offset-clause-size : goal.returns-in_err-write_offset-clause-size
returns-in_err-write_offset-clause-size c =
    let p = err_from_is_err_and c.from_residual.result c.from_residual.ensures.1 in
    rw (p.1, p.2) (size_error_of_whole _ c.loop-body.distance _ (omega arith) c.in_err-write_offset.ensures.size)

pub overflow_add-distance : goal.overflow_add-distance
overflow_add-distance c = omega (arith, c.in_ok-write_offset.ensures.small, c.body-item.result.small, c.len.ensures)

pub overflow_sub-distance : goal.overflow_sub-distance
overflow_sub-distance c = omega (arith, c.loop-body.invariant.low)

pub loop-body-preserved : goal.loop-body-preserved
loop-body-preserved c =
    let i = c.loop-body.body-index in
    let ps = c.args.bodies.now in
    let p = c.body-item.result in
    let long : c.len.result ≡ length p.items = omega (arith, c.len.ensures, p.ok) in
    let far : c.loop-body.distance + c.len.result - 4 ≡ c.loop-body.distance + length p.items - 4 = omega (arith, long) in
    let prefix = front_together ps i p c.loop-body-test.true c.body-item.is in
    record {
      row = row_more _ c.loop-body.out.items _ c.args.head c.loop-body.distance _ i ps p c.loop-body-test.true c.body-item.is c.in_ok-write_offset.ensures.ok far c.loop-body.invariant.row;
      position = omega (arith, far, c.loop-body.invariant.position, c.loop-body.invariant.low, ap length prefix, length-append p.items (concatenated (bytes_of_each (drop (i + 1) ps))));
      low = omega (arith, c.loop-body.invariant.low, far);
    }

pub returns-clause-ok : goal.returns-clause-ok
returns-clause-ok c = row_done _ _ c.args.head c.loop-body.distance c.loop-body.body-index c.args.bodies.now c.loop-body-test.false c.loop-body.invariant.row
