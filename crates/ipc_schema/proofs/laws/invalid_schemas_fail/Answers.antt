use Rattle.ipc_schema.specs.SchemaErrorExamples.{big_endian, fields_outside, no_pair, no_message, batch_first, schema_with_body}
use Rattle.ipc_schema.proofs.laws.invalid_schemas_fail.Goals as goal

pub returns-clause-big_endian : goal.returns-clause-big_endian
returns-clause-big_endian c = big_endian

pub returns-clause-fields_outside : goal.returns-clause-fields_outside
returns-clause-fields_outside c = fields_outside

pub returns-clause-no_pair : goal.returns-clause-no_pair
returns-clause-no_pair c = no_pair

pub returns-clause-no_message : goal.returns-clause-no_message
returns-clause-no_message c = no_message

pub returns-clause-batch_first : goal.returns-clause-batch_first
returns-clause-batch_first c = batch_first

pub returns-clause-schema_with_body : goal.returns-clause-schema_with_body
returns-clause-schema_with_body c = schema_with_body
