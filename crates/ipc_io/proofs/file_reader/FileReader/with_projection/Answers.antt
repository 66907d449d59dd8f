use Rattle.std.proofs.Common.{refl}
use Rattle.ipc_io.proofs.FileSteps.{seen, same_err}
use Rattle.ipc_io.proofs.file_reader.FileReader.with_projection.Goals as goal

pub returns-in-Ok : goal.returns-in-Ok
returns-in-Ok g c = (seen _ _ _ _ _ _ c.in-Ok.ensures.front (λ bytes. refl), c.read_front.ensures.kept)

pub returns-in-Err : goal.returns-in-Err
returns-in-Err g c = (same_err _ _ _ _ _ c.in-Err.ensures.front, tt)
