use Rattle.std.proofs.Common.{Option, sym, subst}
use Rattle.ipc_schema.specs.Schemas.{schema_of}
use Rattle.ipc_io.specs.FileWriters.{header_bytes}
use Rattle.ipc.specs.EncodedStreams.{schema_error}
use Rattle.cli_rows.specs.declared.error.CliError.{CliError}
use Rattle.cli_write.specs.Writers.{FailsSchema}
use Rattle.cli_write.proofs.Writers.{schema-fails-file, file-begun}
use Rattle.cli_write.proofs.writer.begin_file.Goals as goal

pub returns-in-Ok-clause-begun : goal.returns-in-Ok-clause-begun
returns-in-Ok-clause-begun g c = file-begun g.W.Write.contents (schema_of c.args.schema.now) c.args.out c.in-Ok.writer c.in-Ok.ensures.begun c.in-Ok.ensures.blocks c.in-Ok.ensures.position c.in-Ok.ensures.known

pub returns-in-Err-clause-error : goal.returns-in-Err-clause-error
returns-in-Err-clause-error g c =
    let s = schema_of c.args.schema.now in
    subst (λ (f : CliError). FailsSchema f (schema_error s)) (sym c.from.ensures) (schema-fails-file g.W.Write.contents (schema_error s) (header_bytes s) s c.args.out c.in-Err.e c.in-Err.ensures.begun)
