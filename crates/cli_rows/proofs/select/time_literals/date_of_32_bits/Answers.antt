use Rattle.std.proofs.Common.{FitsSigned, subst, w32}
use Rattle.std.specs.Option.{SomeIff}
use Rattle.json_write.specs.Times.{date_text}
use Rattle.json_write.proofs.TimeFacts.{date_injective}
use Rattle.cli_rows.proofs.TimeTexts.{back-64, day-fits, narrow}
use Rattle.cli_rows.proofs.select.time_literals.date_of_32_bits.Goals as goal

pub returns : goal.returns
returns c =
    let read = c.in_ok-day.ensures in
    narrow date_text w32 c.args.text.now c.in_ok-day.day date_injective read.1 c.to_i32.result
    (subst (λ z. SomeIff c.to_i32.result (FitsSigned w32 z) z) (back-64 c.in_ok-day.day (day-fits c.in_ok-day.day read.0)) c.to_i32.ensures)
