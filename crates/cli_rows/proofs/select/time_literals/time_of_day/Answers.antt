use Rattle.std.proofs.Common.{◌≡◌, IsTrue, false, sym, ap, ◌∙◌, subst}
use Rattle.std.proofs.lemmas.Bool.{false≢true}
use Rattle.json_write.specs.Times.{is_time_of_day, unit_digits}
use Rattle.json_write.proofs.TimeFacts.{time_injective}
use Rattle.cli_rows.proofs.TimeTexts.{back-64}
use Rattle.cli_rows.proofs.select.time_literals.time_of_day.Goals as goal

pub returns-else-is_time : goal.returns-else-is_time
returns-else-is_time c n fits e =
    let k = unit_digits c.args.unit in
    let read = c.in_ok-value.ensures in
    let value = c.in_ok-value.value in
    let same = time_injective k value n (sym read.1 ∙ e) in
    let no : is_time_of_day k n ≡ false = ap (is_time_of_day k) (sym (back-64 value read.0 ∙ same)) ∙ sym c.is_time.ensures ∙ c.if-is_time.false in
    false≢true (subst IsTrue no fits.1)
