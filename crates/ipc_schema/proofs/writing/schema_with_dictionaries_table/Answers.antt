use Rattle.ipc_schema.specs.Schemas.{schema_of}
use Rattle.ipc_schema.specs.SchemaLaws.{table_round_trips}
use Rattle.ipc_schema.proofs.writing.schema_with_dictionaries_table.Goals as goal

pub returns-clause-again : goal.returns-clause-again
returns-clause-again c = table_round_trips (schema_of c.args.schema.now) c.in_ok-part.ensures.fits
