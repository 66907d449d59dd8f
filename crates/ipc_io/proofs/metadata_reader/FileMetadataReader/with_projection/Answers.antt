use Rattle.ipc_schema.specs.Projections.{projection_of}
use Rattle.ipc_io.proofs.Metadata.{metadata_fails}
use Rattle.ipc_io.proofs.metadata_reader.FileMetadataReader.with_projection.Goals as goal

pub returns-in-Err : goal.returns-in-Err
returns-in-Err g c = (metadata_fails _ _ (projection_of c.args.columns) c.in-Err.e c.in-Err.ensures.footer, tt)
