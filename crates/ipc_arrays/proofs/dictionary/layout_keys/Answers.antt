use Rattle.std.proofs.Common.{◌*◌, length, inr, ◌∙◌}
use Rattle.std.proofs.lemmas.Result.{err_from_is_err_and}
use Rattle.ipc_arrays.specs.Encoding.{normalized_validity_bytes, normalized_keys, key_buffers}
use Rattle.ipc_arrays.proofs.Arrays.{IsOf, on_ok, if_err, keys_sizes, keys_past}
use Rattle.ipc_arrays.proofs.dictionary.layout_keys.Goals as goal

pub returns-in_err-size-clause-err : goal.returns-in_err-size-clause-err
returns-in_err-size-clause-err g c =
    let format = g.T.FixedWidth.format in
    let h : IsOf c.args.keys.now g.T.NativeType.PRIMITIVE format = record { parts = c.known.ensures.kind; has = g.met.T.FixedWidth.formed; fits = c.known.ensures.fits } in
    let p = err_from_is_err_and c.from_residual.result c.from_residual.ensures.1 in
    let error = rw c.len.ensures at c.in_err-size.ensures.err in
    rw (p.1, p.2) (inr (error.0, keys_past c.args.keys.now g.T.NativeType.PRIMITIVE format c.args.layout.now.length h error.1))

pub returns-clause-ok : goal.returns-clause-ok
returns-clause-ok g c =
    let format = g.T.FixedWidth.format in
    let h : IsOf c.args.keys.now g.T.NativeType.PRIMITIVE format = record { parts = c.known.ensures.kind; has = g.met.T.FixedWidth.formed; fits = c.known.ensures.fits } in
    let sizes =
    keys_sizes c.args.keys.now g.T.NativeType.PRIMITIVE format c.validity_size.result c.in_ok-size.size h (c.validity_size.ensures ∙ (λ w. length (normalized_validity_bytes (c.validity.ensures w))))
    (c.in_ok-size.ensures.ok ∙ (λ w. c.len.ensures w * format.size)) in
    on_ok c.layout_buffers.result c.layout_buffers.ensures.ok (λ longer. longer (key_buffers (normalized_keys c.args.keys.now)) sizes)

pub returns-clause-err : goal.returns-clause-err
returns-clause-err g c =
    let format = g.T.FixedWidth.format in
    let h : IsOf c.args.keys.now g.T.NativeType.PRIMITIVE format = record { parts = c.known.ensures.kind; has = g.met.T.FixedWidth.formed; fits = c.known.ensures.fits } in
    let sizes =
    keys_sizes c.args.keys.now g.T.NativeType.PRIMITIVE format c.validity_size.result c.in_ok-size.size h (c.validity_size.ensures ∙ (λ w. length (normalized_validity_bytes (c.validity.ensures w))))
    (c.in_ok-size.ensures.ok ∙ (λ w. c.len.ensures w * format.size)) in
    if_err c.layout_buffers.result c.layout_buffers.ensures.err (λ error past. past (key_buffers (normalized_keys c.args.keys.now)) sizes)
