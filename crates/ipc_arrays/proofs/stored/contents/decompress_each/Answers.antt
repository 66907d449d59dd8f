use Rattle.std.proofs.lemmas.Result.{err_from_is_err_and}
use Rattle.ipc_arrays.specs.Stored.{stored_contents, laid_of}
use Rattle.ipc_arrays.proofs.Converting.{decompressed_are, not_decompressed}
use Rattle.ipc_arrays.proofs.stored.contents.decompress_each.Goals as goal

pub returns-clause-ok : goal.returns-clause-ok
returns-clause-ok c =
    decompressed_are (stored_contents c.args.codec c.args.body.now c.args.buffers.now) (laid_of c.no_buffers-plain.result) c.append_each.new.plain.specs.items c.append_each.new.plain.bytes.items c.no_buffers-plain.ensures c.in_ok-append_each.ensures

pub returns-in_err-append_each-clause-err : goal.returns-in_err-append_each-clause-err
returns-in_err-append_each-clause-err c =
    let p = err_from_is_err_and c.from_residual.result c.from_residual.ensures.1 in
    rw (p.1, p.2) (not_decompressed (stored_contents c.args.codec c.args.body.now c.args.buffers.now) (laid_of c.no_buffers-plain.result) c.in_err-append_each.field-0.0 c.in_err-append_each.ensures)
