use Rattle.ipc.specs.SchemaIdLaws.{are_named}
use Rattle.ipc.proofs.dictionaries.laws.ids_name_the_values_of_the_schema.Goals as goal

pub returns : goal.returns
returns c = are_named
