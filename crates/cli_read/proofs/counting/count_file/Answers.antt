use Rattle.std.proofs.lemmas.Result.{IfErr-weaker}
use Rattle.std.specs.Option.{option_map}
use Rattle.ipc_schema.specs.Projections.{projection_of}
use Rattle.ipc_io.specs.Seeks.{bytes_of}
use Rattle.cli_read.specs.CountSteps.{decoded_metadata}
use Rattle.cli_read.specs.Counts.{metadata_contents}
use Rattle.cli_read.proofs.Counted.{fails-alike}
use Rattle.cli_read.proofs.counting.count_file.Goals as goal

pub returns-in-Ok-clause-error : goal.returns-in-Ok-clause-error
returns-in-Ok-clause-error g c =
    let position = g.R.Seek.stream_position in
    let bytes = g.R.Seek.stream_bytes in
    let picks = projection_of c.args.columns in
    let x = option_map (metadata_contents picks) (bytes_of position bytes c.args.device) in
    IfErr-weaker c.count_metadata.result _ _ (λ e h. fails-alike picks x (decoded_metadata position bytes c.in-Ok.reader) e c.in-Ok.ensures.opened c.in-Ok.ensures.names h) c.count_metadata.ensures.error
