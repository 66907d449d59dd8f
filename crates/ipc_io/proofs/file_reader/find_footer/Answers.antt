use Rattle.std.proofs.lemmas.Result.{err_from_is_err_and}
use Rattle.ipc_io.proofs.Ranges.{kept_on}
use Rattle.ipc_io.proofs.FileSteps.{span_unread, span_known, span_found, span_fails}
use Rattle.ipc_io.proofs.file_reader.find_footer.Goals as goal

pub returns-in_err-size-clause-found : goal.returns-in_err-size-clause-found
returns-in_err-size-clause-found g c =
    let p = err_from_is_err_and c.from_residual.result c.from_residual.ensures.1 in
    rw (p.1, p.2) (span_unread _ c.in_err-size.field-0.0 c.in_err-size.ensures.err)

pub returns-in_err-head-clause-found : goal.returns-in_err-head-clause-found
returns-in_err-head-clause-found g c =
    let p = err_from_is_err_and c.from_residual-in_err-head.result c.from_residual-in_err-head.ensures.1 in
    rw (p.1, p.2) (span_unread _ c.in_err-head.field-0.0 c.in_err-head.ensures.err)

pub returns-in_err-head-clause-kept : goal.returns-in_err-head-clause-kept
returns-in_err-head-clause-kept g c = kept_on _ _ _ c.stream_len.ensures.kept c.read_range.ensures.kept

pub returns-in_err-tail-clause-found : goal.returns-in_err-tail-clause-found
returns-in_err-tail-clause-found g c =
    let p = err_from_is_err_and c.from_residual-in_err-tail.result c.from_residual-in_err-tail.ensures.1 in
    rw (p.1, p.2) (span_unread _ c.in_err-tail.field-0.0 c.in_err-tail.ensures.err)

pub returns-in_err-tail-clause-kept : goal.returns-in_err-tail-clause-kept
returns-in_err-tail-clause-kept g c = kept_on _ _ _ (kept_on _ _ _ c.stream_len.ensures.kept c.read_range.ensures.kept) c.read_range-2.ensures.kept

pub returns-in_err-long-clause-found : goal.returns-in_err-long-clause-found
returns-in_err-long-clause-found g c =
    let p = err_from_is_err_and c.from_residual-in_err-long.result c.from_residual-in_err-long.ensures.1 in
    let tells = span_known _ _ _ _ _ _ _ _ _ _ _ c.saturating_sub-first.ensures c.saturating_sub-last.ensures c.stream_len.ensures.kept c.read_range.ensures.kept c.in_ok-size.ensures.size c.in_ok-head.ensures.part c.in_ok-tail.ensures.part c.deref.ensures.value c.deref-2.ensures.value c.in_err-long.ensures.value in
    rw (p.1, p.2) (span_fails _ _ c.in_err-long.field-0.0 tells)

pub returns-in_err-long-clause-kept : goal.returns-in_err-long-clause-kept
returns-in_err-long-clause-kept g c = kept_on _ _ _ (kept_on _ _ _ c.stream_len.ensures.kept c.read_range.ensures.kept) c.read_range-2.ensures.kept

pub returns-clause-found : goal.returns-clause-found
returns-clause-found g c =
    let tells = span_known _ _ _ _ _ _ _ _ _ _ _ c.saturating_sub-first.ensures c.saturating_sub-last.ensures c.stream_len.ensures.kept c.read_range.ensures.kept c.in_ok-size.ensures.size c.in_ok-head.ensures.part c.in_ok-tail.ensures.part c.deref.ensures.value c.deref-2.ensures.value c.in_ok-long.ensures.value in
    span_found _ _ c.in_ok-long.long tells

pub returns-clause-kept : goal.returns-clause-kept
returns-clause-kept g c = kept_on _ _ _ (kept_on _ _ _ c.stream_len.ensures.kept c.read_range.ensures.kept) c.read_range-2.ensures.kept
