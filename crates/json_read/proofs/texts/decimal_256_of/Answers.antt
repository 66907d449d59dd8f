use Rattle.std.proofs.Common.{◌≡◌, ◌^◌, nat_lt, true, false, unsigned_abs, refl, sym, ap, ◌∙◌}
use Rattle.json.specs.Json.{string}
use Rattle.json_read.specs.FlatValues.{value_error_of}
use Rattle.json_read.specs.NativeNumbers.{string_values}
use Rattle.json_read.proofs.TextResults.{halves-none, halves-precise, halves-some}
use Rattle.json_write.specs.Integers256.{int256_value}
use Rattle.nest_memory.specs.declared.datatypes.physical_type.PrimitiveType.TheVariants.{Int256}
use Rattle.json_read.proofs.texts.decimal_256_of.Goals as goal

pub returns-in-None : goal.returns-in-None
returns-in-None c =
    ap (λ v. value_error_of Int256 v (string c.args.text.now)) c.in-Decimal256.is ∙ halves-none c.in-Decimal256.precision c.in-Decimal256.scale c.args.text.now c.in-None.ensures

pub returns-then-has_at_most : goal.returns-then-has_at_most
returns-then-has_at_most c =
    let p = c.in-Decimal256.precision in
    let text = c.args.text.now in
    let read = c.in-Some.ensures in
    let within : nat_lt (unsigned_abs (int256_value c.in-Some.number)) (10 ^ p) ≡ true = ap (λ m. nat_lt m (10 ^ p)) (sym c.of.ensures) ∙ sym c.has_at_most.ensures ∙ c.if-has_at_most.true in
    let some = halves-some p c.in-Decimal256.scale text c.in-Some.number read.0 read.1 within in (
      ap (λ v. value_error_of Int256 v (string text)) c.in-Decimal256.is ∙ some.0,
      refl,
      sym some.1 ∙ ap (λ v. string_values v text) (sym c.in-Decimal256.is),
    )

pub returns-else-has_at_most : goal.returns-else-has_at_most
returns-else-has_at_most c =
    let p = c.in-Decimal256.precision in
    let text = c.args.text.now in
    let read = c.in-Some.ensures in
    let above : nat_lt (unsigned_abs (int256_value c.in-Some.number)) (10 ^ p) ≡ false = ap (λ m. nat_lt m (10 ^ p)) (sym c.of.ensures) ∙ sym c.has_at_most.ensures ∙ c.if-has_at_most.false in
    ap (λ v. value_error_of Int256 v (string text)) c.in-Decimal256.is ∙ halves-precise p c.in-Decimal256.scale text c.in-Some.number read.0 read.1 above
