use Rattle.std.proofs.lemmas.Result.{err_from_is_err_and}
use Rattle.ipc_arrays.specs.Stored.{laid_of}
use Rattle.ipc_arrays.proofs.Converting.{decimals_done, decimals_fail}
use Rattle.ipc_arrays.proofs.stored.decimals.append_decimals.Goals as goal

pub returns-in_err-append_widened-in-len2 : goal.returns-in_err-append_widened-in-len2
returns-in_err-append_widened-in-len2 g c =
    let residual = c.from_residual-in_err-append_widened-in-len2 in
    let p = err_from_is_err_and residual.result residual.ensures.1 in
    rw (p.1, p.2) (decimals_fail g.T.FixedWidth.format c.args.counts (laid_of c.args.plain.now) (laid_of c.push_content.new.plain) (λ b. b.now) c.args.buffers.now _ c.in_err-append_widened-in-len2.field-0.0 c.in-len2.len_at_least c.in-len2.len_below c.in_err-append_widened-in-len2.ensures)

pub returns-in_ok-append_widened-in-len2 : goal.returns-in_ok-append_widened-in-len2
returns-in_ok-append_widened-in-len2 g c =
    decimals_done g.T.FixedWidth.format c.args.counts (laid_of c.args.plain.now) (laid_of c.push_content.new.plain) (λ b. b.now) c.args.buffers.now _ _ (laid_of c.append_widened.new.plain) c.in-len2.len_at_least c.in-len2.len_below c.in_ok-push_content-in-len2.ensures c.in_ok-append_widened-in-len2.ensures
