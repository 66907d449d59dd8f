use Rattle.std.proofs.Common.{[], ◌∷◌, refl, sym, ap, ◌∙◌}
use Rattle.json.specs.Json.{string}
use Rattle.json_read.specs.FlatValues.{value_error_of}
use Rattle.json_read.specs.NativeNumbers.{string_values}
use Rattle.json_read.proofs.NumberReading.{back-32}
use Rattle.json_read.proofs.TextResults.{days-ms-none, days-ms-some}
use Rattle.nest_memory.specs.declared.datatypes.physical_type.PrimitiveType.TheVariants.{DaysMs}
use Rattle.json_read.proofs.texts.days_ms_of_text.Goals as goal

pub returns-in-Some : goal.returns-in-Some
returns-in-Some c =
    let text = c.args.text.now in
    let read = c.in-Some.ensures in
    let some = days-ms-some text c.in-Some.days c.in-Some.milliseconds read.0.0 read.0.1 read.1 in (
      ap (λ v. value_error_of DaysMs v (string text)) c.in-DaysMs.is ∙ some.0,
      refl,
      (λ i. back-32 c.in-Some.days read.0.0 i ∷ back-32 c.in-Some.milliseconds read.0.1 i ∷ []) ∙ sym some.1 ∙ ap (λ v. string_values v text) (sym c.in-DaysMs.is),
    )

pub returns-in-None : goal.returns-in-None
returns-in-None c = ap (λ v. value_error_of DaysMs v (string c.args.text.now)) c.in-DaysMs.is ∙ days-ms-none c.args.text.now c.in-None.ensures
