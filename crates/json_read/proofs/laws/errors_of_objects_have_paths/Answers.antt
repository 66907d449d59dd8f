use Rattle.json_read.proofs.PathLaws.{no-path}
use Rattle.json_read.proofs.laws.errors_of_objects_have_paths.Goals as goal

pub returns : goal.returns
returns c = no-path
