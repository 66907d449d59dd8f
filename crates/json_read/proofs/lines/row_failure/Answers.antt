use Rattle.std.proofs.Common.{subst}
use Rattle.std.specs.Option.{option_map}
use Rattle.std.specs.Prelude.{string_bytes}
use Rattle.json.specs.Value.{value_view}
use Rattle.nest_memory.specs.TypeOf.{type_of}
use Rattle.json_read.specs.JsonLines.{row_error}
use Rattle.json_read.specs.SlotAdded.{IsPushError}
use Rattle.json_read.proofs.LineLaws.{value-failed}
use Rattle.json_read.proofs.lines.row_failure.Goals as goal

pub returns-in-Ok : goal.returns-in-Ok
returns-in-Ok c =
    let t = type_of c.args.data_type.now in
    let j = value_view c.args.value.now in
    value-failed t j c.in-Value.reason (option_map string_bytes c.in-Ok.field) (subst (λ e. IsPushError e (row_error t j)) c.in-Value.is c.requires.error) c.in-Ok.ensures
