use Rattle.std.proofs.Common.{◌≡◌, ◌+◌, ◌*◌, arith, FitsSigned, ◌^◌, [], ◌∷◌, nat_lt, true, false, unsigned_abs, Some, refl, sym, ap, ◌∙◌}
use Rattle.std.specs.Int.{w128}
use Rattle.json.specs.Json.{string}
use Rattle.json_read.specs.FlatValues.{is_in, signed, value_error_of}
use Rattle.json_read.specs.NativeNumbers.{string_values}
use Rattle.json_read.proofs.NumberReading.{back-128}
use Rattle.json_read.proofs.TextResults.{both, decimal-format, in-128, one-none, one-some, short-128, text-precise}
use Rattle.json_write.specs.declared.format.ValueFormat.TheVariants.{Decimal}
use Rattle.nest_memory.specs.declared.datatypes.physical_type.PrimitiveType.TheVariants.{Int128}
use Rattle.json_write.specs.Decimals.{decimal_text}
use Rattle.json_read.proofs.texts.decimal_of.Goals as goal

pub returns-in-None : goal.returns-in-None
returns-in-None c =
    let p = c.in-Decimal.precision in
    let k = c.in-Decimal.scale in
    ap (λ v. value_error_of Int128 v (string c.args.text.now)) c.in-Decimal.is ∙ one-none (Decimal p k) (signed 128) (decimal_text k) (FitsSigned w128) c.args.text.now (decimal-format p k) c.in-None.ensures

pub returns-then-has_at_most : goal.returns-then-has_at_most
returns-then-has_at_most c =
    let p = c.in-Decimal.precision in
    let k = c.in-Decimal.scale in
    let n = c.in-Some.number in
    let text = c.args.text.now in
    let read = c.in-Some.ensures in
    let back = back-128 n read.0 in
    let size : 0 * 2 ^ 128 + c.unsigned_abs.result ≡ unsigned_abs n = omega (arith, c.unsigned_abs.ensures.value ∙ ap unsigned_abs back) in
    let within : nat_lt (unsigned_abs n) (10 ^ p) ≡ true = ap (λ m. nat_lt m (10 ^ p)) (sym size) ∙ sym c.has_at_most.ensures ∙ c.if-has_at_most.true in
    let some = one-some (Decimal p k) (signed 128) (decimal_text k) (FitsSigned w128) text n (decimal-format p k) read within in (
      ap (λ v. value_error_of Int128 v (string text)) c.in-Decimal.is ∙ some.0,
      refl,
      ap (λ z. z ∷ []) back ∙ sym some.1 ∙ ap (λ v. string_values v text) (sym c.in-Decimal.is),
    )

pub returns-else-has_at_most : goal.returns-else-has_at_most
returns-else-has_at_most c =
    let p = c.in-Decimal.precision in
    let k = c.in-Decimal.scale in
    let n = c.in-Some.number in
    let text = c.args.text.now in
    let read = c.in-Some.ensures in
    let size : 0 * 2 ^ 128 + c.unsigned_abs.result ≡ unsigned_abs n = omega (arith, c.unsigned_abs.ensures.value ∙ ap unsigned_abs (back-128 n read.0)) in
    let above : nat_lt (unsigned_abs n) (10 ^ p) ≡ false = ap (λ m. nat_lt m (10 ^ p)) (sym size) ∙ sym c.has_at_most.ensures ∙ c.if-has_at_most.false in
    ap (λ v. value_error_of Int128 v (string text)) c.in-Decimal.is
    ∙ text-precise (Decimal p k) (signed 128 ∷ []) (n ∷ []) text (short-128 n read.0, tt) (ap Some (sym read.1)) (both (is_in (signed 128) n) true (in-128 n read.0) refl) above
