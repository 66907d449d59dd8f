use Rattle.std.specs.Int.{w32, w64}
use Rattle.std.proofs.lemmas.Result.{err_from_is_err_and}
use Rattle.ipc_arrays.specs.FixedWidth.{signed_format}
use Rattle.ipc_arrays.specs.Projection.{projection_state}
use Rattle.ipc_arrays.specs.Stored.{plain_array, view_array, decimal_array, laid_of}
use Rattle.ipc_arrays.proofs.Converting.{counts_err}
use Rattle.ipc_arrays.proofs.stored.arrays.convert_array.Goals as goal

pub returns-in_err-convert_plain-in-Plain : goal.returns-in_err-convert_plain-in-Plain
returns-in_err-convert_plain-in-Plain c =
    let residual = c.from_residual in
    let p = err_from_is_err_and residual.result residual.ensures.1 in
    rw (c.in-Plain.is, p.1, p.2) (counts_err (laid_of c.args.out.now.plain) c.args.out.now.more.items c.in_err-convert_plain-in-Plain.field-0.0 (plain_array c.args.codec c.args.body.now c.in-Plain.count (projection_state c.args.ahead)) c.in_err-convert_plain-in-Plain.ensures)

pub returns-in_err-convert_view_array-in-View : goal.returns-in_err-convert_view_array-in-View
returns-in_err-convert_view_array-in-View c =
    let residual = c.from_residual-in_err-convert_view_array-in-View in
    let p = err_from_is_err_and residual.result residual.ensures.1 in
    rw (c.in-View.is, p.1, p.2) (counts_err (laid_of c.args.out.now.plain) c.args.out.now.more.items c.in_err-convert_view_array-in-View.field-0.0 (view_array c.args.codec c.args.body.now (projection_state c.args.ahead)) c.in_err-convert_view_array-in-View.ensures)

pub returns-in_err-convert_decimal_array-in-Decimal32 : goal.returns-in_err-convert_decimal_array-in-Decimal32
returns-in_err-convert_decimal_array-in-Decimal32 c =
    let residual = c.from_residual-in_err-convert_decimal_array-in-Decimal32 in
    let p = err_from_is_err_and residual.result residual.ensures.1 in
    rw (c.in-Decimal32.is, p.1, p.2) (counts_err (laid_of c.args.out.now.plain) c.args.out.now.more.items c.in_err-convert_decimal_array-in-Decimal32.field-0.0 (decimal_array (signed_format w32) c.args.codec c.args.body.now (projection_state c.args.ahead)) c.in_err-convert_decimal_array-in-Decimal32.ensures)

pub returns-in_err-convert_decimal_array-in-Decimal64 : goal.returns-in_err-convert_decimal_array-in-Decimal64
returns-in_err-convert_decimal_array-in-Decimal64 c =
    let residual = c.from_residual-in_err-convert_decimal_array-in-Decimal64 in
    let p = err_from_is_err_and residual.result residual.ensures.1 in
    rw (c.in-Decimal64.is, p.1, p.2) (counts_err (laid_of c.args.out.now.plain) c.args.out.now.more.items c.in_err-convert_decimal_array-in-Decimal64.field-0.0 (decimal_array (signed_format w64) c.args.codec c.args.body.now (projection_state c.args.ahead)) c.in_err-convert_decimal_array-in-Decimal64.ensures)
