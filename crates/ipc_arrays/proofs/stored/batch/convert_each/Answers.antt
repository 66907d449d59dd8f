use Rattle.std.proofs.lemmas.Result.{err_from_is_err_and}
use Rattle.ipc_flatbuf.specs.declared.projection.StoredArray.TheVariants.{Plain}
use Rattle.ipc_arrays.specs.Projection.{projection_state}
use Rattle.ipc_arrays.specs.Stored.{converted_each, converted_of, with_arrays}
use Rattle.ipc_arrays.proofs.Converting.{arrays_go_on, arrays_end, arrays_are_done}
use Rattle.ipc_arrays.proofs.stored.batch.convert_each.Goals as goal

pub returns-in_err-at : goal.returns-in_err-at
returns-in_err-at c =
    let p = err_from_is_err_and c.from_residual.result c.from_residual.ensures.1 in
    let total = with_arrays (converted_of c.args.out.now) (converted_each c.args.codec c.args.body.now c.args.arrays.now (projection_state c.args.ahead)) in
    rw (p.1, p.2) (arrays_end c.args.codec c.args.body.now c.args.arrays.now c.loop-array.array-index (converted_of c.loop-array.out) (projection_state c.loop-array.at) total (Plain 0) c.in_err-at.field-0.0 c.loop-array-test.true c.in_err-at.ensures c.loop-array.invariant)

pub loop-array-preserved : goal.loop-array-preserved
loop-array-preserved c =
    let total = with_arrays (converted_of c.args.out.now) (converted_each c.args.codec c.args.body.now c.args.arrays.now (projection_state c.args.ahead)) in
    arrays_go_on c.args.codec c.args.body.now c.args.arrays.now c.loop-array.array-index (converted_of c.loop-array.out) (projection_state c.loop-array.at) total (Plain 0) (converted_of c.convert_array.new.out) (projection_state c.in_ok-at.at) c.loop-array-test.true c.in_ok-at.ensures c.loop-array.invariant

pub returns : goal.returns
returns c =
    let total = with_arrays (converted_of c.args.out.now) (converted_each c.args.codec c.args.body.now c.args.arrays.now (projection_state c.args.ahead)) in
    arrays_are_done c.args.codec c.args.body.now c.args.arrays.now c.loop-array.array-index (converted_of c.loop-array.out) (projection_state c.loop-array.at) total c.loop-array-test.false c.loop-array.invariant
