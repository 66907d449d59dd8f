use Rattle.cli_rows.proofs.Outputs.{write_more}
use Rattle.cli_rows.proofs.output.write_output.Goals as goal

pub bytes-preserved : goal.bytes-preserved
bytes-preserved g c = write_more _ _ _ _ c.bytes.invariant.0 c.bytes.rest.now c.in-Ok.n c.bytes.invariant.1 c.bytes.invariant.2 c.in-Ok.ensures.bytes
