use Rattle.std.proofs.Common.{◌∙◌, sym}
use Rattle.json.specs.Value.{value_view}
use Rattle.nest_memory.specs.TypeOf.{type_of}
use Rattle.json_read.proofs.RequiredLaws.{no-error}
use Rattle.json_read.proofs.required_fields.check_nulls.Goals as goal

pub returns-then-not-required-clause-valid : goal.returns-then-not-required-clause-valid
returns-then-not-required-clause-valid c = no-error (type_of c.args.data_type.now) (value_view c.args.value.now) (sym c.requires.required ∙ c.if-not-required.true)
