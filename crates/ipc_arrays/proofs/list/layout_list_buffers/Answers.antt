use Rattle.std.proofs.Common.{inr}
use Rattle.std.specs.Option.{option_map}
use Rattle.std.proofs.lemmas.Result.{err_from_is_err_and}
use Rattle.ipc_arrays.proofs.Arrays.{on_ok, if_err}
use Rattle.ipc_arrays.proofs.Sizes.{rows_sizes, rows_past}
use Rattle.ipc_arrays.proofs.list.layout_list_buffers.Goals as goal

pub returns-in_err-size-clause-err : goal.returns-in_err-size-clause-err
returns-in_err-size-clause-err g c =
    let p = err_from_is_err_and c.from_residual.result c.from_residual.ensures.1 in
    let error = c.in_err-size.ensures.err in
    rw (p.1, p.2) (λ os long. inr (error.0, rows_past g.O.Offset.IS_LARGE g.O.FixedWidth.format os (option_map (λ b. b.now) c.args.validity) c.args.slots c.args.layout.now.length g.met.O.FixedWidthOffset.width long error.1))

pub returns-clause-ok : goal.returns-clause-ok
returns-clause-ok g c =
    on_ok c.layout_buffers.result c.layout_buffers.ensures.ok
    (λ longer os long. longer _ (rows_sizes g.O.Offset.IS_LARGE g.O.FixedWidth.format os (option_map (λ b. b.now) c.args.validity) c.args.slots c.validity_size.result c.in_ok-size.size g.met.O.FixedWidthOffset.width long c.validity_size.ensures c.in_ok-size.ensures.ok))

pub returns-clause-err : goal.returns-clause-err
returns-clause-err g c =
    if_err c.layout_buffers.result c.layout_buffers.ensures.err
    (λ error past os long. past _ (rows_sizes g.O.Offset.IS_LARGE g.O.FixedWidth.format os (option_map (λ b. b.now) c.args.validity) c.args.slots c.validity_size.result c.in_ok-size.size g.met.O.FixedWidthOffset.width long c.validity_size.ensures c.in_ok-size.ensures.ok))
