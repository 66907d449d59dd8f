use Rattle.std.proofs.Common.{◌*◌, inr, ◌∙◌}
use Rattle.std.specs.Option.{option_map}
use Rattle.std.proofs.lemmas.Result.{err_from_is_err_and}
use Rattle.ipc_arrays.proofs.Arrays.{on_ok, if_err}
use Rattle.ipc_arrays.proofs.Offsets.{string_sizes, string_past, first_last}
use Rattle.ipc_arrays.proofs.strings.layout_strings.Goals as goal

pub returns-in_err-size-clause-err : goal.returns-in_err-size-clause-err
returns-in_err-size-clause-err g c =
    let p = err_from_is_err_and c.from_residual.result c.from_residual.ensures.1 in
    let error = rw c.len.ensures at c.in_err-size.ensures.err in
    rw (p.1, p.2) (inr (error.0, string_past g.O.Offset.IS_LARGE g.O.FixedWidth.format c.args.offsets.now c.args.bytes.now (option_map (λ b. b.now) c.args.validity) c.args.layout.now.length g.met.O.FixedWidthOffset.width error.1))

pub overflow_sub-covered : goal.overflow_sub-covered
overflow_sub-covered g c = first_last c.args.offsets.now c.first.result c.last.result c.known.ensures.rising c.known.ensures.some c.first.ensures c.last.ensures

pub returns-clause-ok : goal.returns-clause-ok
returns-clause-ok g c =
    let sizes =
    string_sizes g.O.Offset.IS_LARGE g.O.FixedWidth.format c.args.offsets.now c.args.bytes.now (option_map (λ b. b.now) c.args.validity) c.validity_size.result c.in_ok-size.size c.first.result c.last.result g.met.O.FixedWidthOffset.width c.known.ensures.rising c.known.ensures.some c.requires.within
    c.validity_size.ensures (c.in_ok-size.ensures.ok ∙ (λ w. c.len.ensures w * g.O.FixedWidth.format.size)) c.first.ensures c.last.ensures in
    on_ok c.layout_buffers.result c.layout_buffers.ensures.ok (λ longer. longer _ sizes)

pub returns-clause-err : goal.returns-clause-err
returns-clause-err g c =
    let sizes =
    string_sizes g.O.Offset.IS_LARGE g.O.FixedWidth.format c.args.offsets.now c.args.bytes.now (option_map (λ b. b.now) c.args.validity) c.validity_size.result c.in_ok-size.size c.first.result c.last.result g.met.O.FixedWidthOffset.width c.known.ensures.rising c.known.ensures.some c.requires.within
    c.validity_size.ensures (c.in_ok-size.ensures.ok ∙ (λ w. c.len.ensures w * g.O.FixedWidth.format.size)) c.first.ensures c.last.ensures in
    if_err c.layout_buffers.result c.layout_buffers.ensures.err (λ error past. past _ sizes)
