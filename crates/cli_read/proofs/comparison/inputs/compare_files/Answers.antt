use Rattle.std.proofs.Common.{rules}
use Rattle.ipc_schema.specs.Projections.{projection_of}
use Rattle.cli_read.specs.Decoded.{file_contents}
use Rattle.cli_read.proofs.EqualFiles.{of-alike, of-kept}
use Rattle.cli_read.proofs.comparison.inputs.compare_files.Goals as goal

pub returns-then-have_equal_bytes : goal.returns-then-have_equal_bytes
returns-then-have_equal_bytes g c =
    of-alike (projection_of c.args.columns) (file_contents (projection_of c.args.columns)) _ _ _ _ (c.have_equal_bytes.ensures.alike (search rules)) c.have_equal_bytes.ensures.left c.compare_equal_files.ensures

pub returns : goal.returns
returns g c =
    of-kept (projection_of c.args.columns) (file_contents (projection_of c.args.columns)) (file_contents (projection_of c.args.columns)) _ _ _ _ _ c.have_equal_bytes.ensures.left c.have_equal_bytes.ensures.right c.compare_inputs.ensures
