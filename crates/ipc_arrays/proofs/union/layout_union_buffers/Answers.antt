use Rattle.std.proofs.Common.{sym, inr}
use Rattle.std.proofs.lemmas.Result.{err_from_is_err_and}
use Rattle.ipc_arrays.proofs.Arrays.{on_ok, if_err}
use Rattle.ipc_arrays.proofs.Sizes.{sparse_sizes, dense_sizes, dense_past}
use Rattle.ipc_arrays.proofs.union.layout_union_buffers.Goals as goal

pub returns-in_err-size-in-Some-clause-err : goal.returns-in_err-size-in-Some-clause-err
returns-in_err-size-in-Some-clause-err c =
    let p = err_from_is_err_and c.from_residual.result c.from_residual.ensures.1 in
    let error = c.in_err-size-in-Some.ensures.err in
    rw (p.1, p.2) (inr (error.0, dense_past c.args.array.now c.in-Some.field-0.now c.args.offset c.args.count c.args.layout.now.length c.known.ensures.kind c.known.ensures.fits (sym c.in-Some.ensures) c.requires.slots error.1))

pub returns-in-None-clause-ok : goal.returns-in-None-clause-ok
returns-in-None-clause-ok c = on_ok c.layout_buffers.result c.layout_buffers.ensures.ok (λ longer. longer _ (sparse_sizes c.args.array.now c.args.offset c.args.count c.known.ensures.kind (sym c.in-None.ensures) c.requires.slots))

pub returns-in-None-clause-err : goal.returns-in-None-clause-err
returns-in-None-clause-err c = if_err c.layout_buffers.result c.layout_buffers.ensures.err (λ error past. past _ (sparse_sizes c.args.array.now c.args.offset c.args.count c.known.ensures.kind (sym c.in-None.ensures) c.requires.slots))

pub returns-in_ok-size-in-Some-clause-ok : goal.returns-in_ok-size-in-Some-clause-ok
returns-in_ok-size-in-Some-clause-ok c =
    on_ok c.layout_buffers-in-Some.result c.layout_buffers-in-Some.ensures.ok
    (λ longer. longer _ (dense_sizes c.args.array.now c.in-Some.field-0.now c.args.offset c.args.count c.in_ok-size-in-Some.size c.known.ensures.kind c.known.ensures.fits (sym c.in-Some.ensures) c.requires.slots c.in_ok-size-in-Some.ensures.ok))

pub returns-in_ok-size-in-Some-clause-err : goal.returns-in_ok-size-in-Some-clause-err
returns-in_ok-size-in-Some-clause-err c =
    if_err c.layout_buffers-in-Some.result c.layout_buffers-in-Some.ensures.err
    (λ error past. past _ (dense_sizes c.args.array.now c.in-Some.field-0.now c.args.offset c.args.count c.in_ok-size-in-Some.size c.known.ensures.kind c.known.ensures.fits (sym c.in-Some.ensures) c.requires.slots c.in_ok-size-in-Some.ensures.ok))
