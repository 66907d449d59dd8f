use Rattle.std.proofs.Common.{ap}
use Rattle.ipc_schema.specs.Dictionaries.{DictionaryTypesModel}
use Rattle.ipc_schema.specs.DictionaryIdLaws.{none_seen}
use Rattle.ipc_schema.specs.SchemaLaws.{stream_round_trips}
use Rattle.ipc_schema.specs.ProjectionLaws.{projected_stream_round_trips}
use Rattle.ipc_schema.proofs.laws.schemas_round_trip.Goals as goal

pub returns-clause-whole : goal.returns-clause-whole
returns-clause-whole c = stream_round_trips

pub returns-clause-plain : goal.returns-clause-plain
returns-clause-plain c = λ s none. ap (λ (seen : DictionaryTypesModel). (s, seen)) (none_seen s.fields none)

pub returns-clause-columns : goal.returns-clause-columns
returns-clause-columns c = projected_stream_round_trips
