use Rattle.std.proofs.lemmas.Result.{err_from_is_err_and}
use Rattle.ipc_schema.specs.Projections.{projection_of}
use Rattle.ipc_io.proofs.Ranges.{kept_on}
use Rattle.ipc_io.proofs.FileSteps.{footer_is, footer_faulty, footer_fails, footer_unread}
use Rattle.ipc_io.proofs.file_reader.find_blocks.Goals as goal

pub returns-in_err-span-clause-footer : goal.returns-in_err-span-clause-footer
returns-in_err-span-clause-footer g c =
    let p = err_from_is_err_and c.from_residual.result c.from_residual.ensures.1 in
    rw (p.1, p.2) (footer_fails _ (projection_of c.args.columns) c.in_err-span.field-0.0 c.in_err-span.ensures.found)

pub returns-in_err-own-clause-footer : goal.returns-in_err-own-clause-footer
returns-in_err-own-clause-footer g c =
    let p = err_from_is_err_and c.from_residual-in_err-own.result c.from_residual-in_err-own.ensures.1 in
    rw (p.1, p.2) (footer_unread _ (projection_of c.args.columns) c.in_err-own.field-0.0 c.in_err-own.ensures.err)

pub returns-in_err-own-clause-kept : goal.returns-in_err-own-clause-kept
returns-in_err-own-clause-kept g c = kept_on _ _ _ c.find_footer.ensures.kept c.read_range.ensures.kept

pub returns-in-Ok-clause-footer : goal.returns-in-Ok-clause-footer
returns-in-Ok-clause-footer g c =
    footer_is _ _ (projection_of c.args.columns) c.in_ok-span.span.0 c.in_ok-span.span.1 c.in_ok-own.own.items c.deref.result.now c.in-Ok.footer c.find_footer.ensures.kept c.in_ok-span.ensures.found c.in_ok-own.ensures.part c.deref.ensures.value c.in-Ok.ensures.footer

pub returns-in-Ok-clause-kept : goal.returns-in-Ok-clause-kept
returns-in-Ok-clause-kept g c = kept_on _ _ _ c.find_footer.ensures.kept c.read_range.ensures.kept

pub returns-clause-footer : goal.returns-clause-footer
returns-clause-footer g c =
    footer_faulty _ _ (projection_of c.args.columns) c.in_ok-span.span.0 c.in_ok-span.span.1 c.in_ok-own.own.items c.deref.result.now c.in-Err.error c.find_footer.ensures.kept c.in_ok-span.ensures.found c.in_ok-own.ensures.part c.deref.ensures.value c.in-Err.ensures.footer

pub returns-clause-kept : goal.returns-clause-kept
returns-clause-kept g c = kept_on _ _ _ c.find_footer.ensures.kept c.read_range.ensures.kept
