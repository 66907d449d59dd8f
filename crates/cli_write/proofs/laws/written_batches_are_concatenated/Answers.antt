use Rattle.std.proofs.Common.{refl}
use Rattle.cli_write.proofs.laws.written_batches_are_concatenated.Goals as goal

pub returns : goal.returns
returns c = λ s parts old new same put. (
  put.0,
  (record { schema = s; batches = _ }, record { parts = parts; read = refl; schemas = same; batches = refl }, put.1),
  put.2,
)
