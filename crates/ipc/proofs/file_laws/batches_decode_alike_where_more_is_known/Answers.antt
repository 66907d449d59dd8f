use Rattle.ipc.specs.KnownMoreLaws.{batch_again}
use Rattle.ipc.proofs.file_laws.batches_decode_alike_where_more_is_known.Goals as goal

pub returns : goal.returns
returns c = batch_again
