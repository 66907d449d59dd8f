use Rattle.std.proofs.Common.{refl}
use Rattle.std.proofs.lemmas.Result.{err_from_is_err_and}
use Rattle.ipc_schema.specs.Projections.{projection_of}
use Rattle.ipc.specs.Streams.{state_of}
use Rattle.ipc_io.proofs.Ranges.{kept_on}
use Rattle.ipc_io.proofs.FileSteps.{no_footer, front_read, front_faulty}
use Rattle.ipc_io.proofs.file_reader.read_front.Goals as goal

pub returns-in_err-footer-clause-front : goal.returns-in_err-footer-clause-front
returns-in_err-footer-clause-front g c =
    let p = err_from_is_err_and c.from_residual.result c.from_residual.ensures.1 in
    rw (p.1, p.2) (no_footer _ _ (projection_of c.args.columns) c.in_err-footer.field-0.0 c.in_err-footer.ensures.footer)

pub returns-in-Ok-clause-front : goal.returns-in-Ok-clause-front
returns-in-Ok-clause-front g c =
    front_read _ _ _ _ (projection_of c.args.columns) c.in_ok-footer.footer (state_of c.new-state.result) (state_of c.read_dictionaries.new.state) c.find_blocks.ensures.kept c.in_ok-footer.ensures.footer c.new-state.ensures (rw c.deref.ensures.value at c.in-Ok.ensures.known) (λ bytes. refl)

pub returns-in-Ok-clause-kept : goal.returns-in-Ok-clause-kept
returns-in-Ok-clause-kept g c = kept_on _ _ _ c.find_blocks.ensures.kept c.read_dictionaries.ensures.kept

pub returns-clause-front : goal.returns-clause-front
returns-clause-front g c =
    front_faulty _ _ _ (projection_of c.args.columns) c.in_ok-footer.footer (state_of c.new-state.result) (state_of c.read_dictionaries.new.state) c.in-Err.e c.find_blocks.ensures.kept c.in_ok-footer.ensures.footer c.new-state.ensures (rw c.deref.ensures.value at c.in-Err.ensures.known)

pub returns-clause-kept : goal.returns-clause-kept
returns-clause-kept g c = kept_on _ _ _ c.find_blocks.ensures.kept c.read_dictionaries.ensures.kept
