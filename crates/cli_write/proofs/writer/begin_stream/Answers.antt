use Rattle.std.proofs.Common.{Option, sym, subst}
use Rattle.ipc_schema.specs.Schemas.{schema_of}
use Rattle.ipc_schema.specs.SchemaBytes.{schema_message}
use Rattle.ipc.specs.EncodedStreams.{schema_error}
use Rattle.cli_rows.specs.declared.error.CliError.{CliError}
use Rattle.cli_write.specs.Writers.{FailsSchema}
use Rattle.cli_write.proofs.Writers.{schema-fails, stream-begun}
use Rattle.cli_write.proofs.writer.begin_stream.Goals as goal

pub returns-in-Ok-clause-begun : goal.returns-in-Ok-clause-begun
returns-in-Ok-clause-begun g c = stream-begun g.W.Write.contents (schema_of c.args.schema.now) c.args.out c.in-Ok.writer c.in-Ok.ensures.begun c.in-Ok.ensures.again

pub returns-in-Err-clause-error : goal.returns-in-Err-clause-error
returns-in-Err-clause-error g c =
    let s = schema_of c.args.schema.now in
    subst (λ (f : CliError). FailsSchema f (schema_error s)) (sym c.from.ensures) (schema-fails g.W.Write.contents (schema_error s) (schema_message s) s c.args.out c.in-Err.e c.in-Err.ensures.begun)
