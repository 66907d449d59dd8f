use Rattle.ipc_arrays.specs.NormalizedLaws.{written_alone}
use Rattle.ipc_arrays.proofs.laws.equal_normalized_columns_have_equal_bytes.Goals as goal

pub returns : goal.returns
returns c = written_alone
