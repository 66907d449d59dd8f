use Rattle.ipc_io.specs.FileMetadataLaws.{counts_of_file}
use Rattle.ipc_io.proofs.laws.metadata_has_the_numbers_of_rows.Goals as goal

pub returns : goal.returns
returns c = counts_of_file
