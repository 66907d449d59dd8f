use Rattle.std.proofs.Common.{◌≡◌, true, sym, ap, ◌∙◌, subst}
use Rattle.std.proofs.Output.{has_written_of_eq}
use Rattle.std.specs.Float.Ieee.{binary32}
use Rattle.nest_flat.specs.AnyNative.{native_kind, native_numbers}
use Rattle.json_write.specs.Floats.{json_of_bits}
use Rattle.json_write.specs.Formats.{has_format}
use Rattle.json_write.specs.JsonText.{json_of_numbers}
use Rattle.json_write.specs.declared.format.ValueFormat.TheVariants.{Float}
use Rattle.json_write.proofs.FloatTexts.{double-json, half-json, single-json}
use Rattle.json_write.proofs.floats.write_float_value.Goals as goal

pub returns-in-UInt16 : goal.returns-in-UInt16
returns-in-UInt16 g c p h plain ok =
    let e = c.in-UInt16.is in
    has_written_of_eq _ _ _ _ _
    (ap (json_of_bits binary32) (c.from.ensures ∙ c.single_of_half.ensures)
    ∙ half-json p c.in-UInt16.bits (subst (λ x. has_format (native_kind x) (Float p) ≡ true) e h)
    ∙ ap (λ x. json_of_numbers (Float p) (native_numbers x)) (sym e))
    (c.write_bits.ensures plain ok)

pub returns-in-UInt32 : goal.returns-in-UInt32
returns-in-UInt32 g c p h plain ok =
    let e = c.in-UInt32.is in
    has_written_of_eq _ _ _ _ _
    (ap (json_of_bits binary32) c.from-in-UInt32.ensures
    ∙ single-json p c.in-UInt32.bits (subst (λ x. has_format (native_kind x) (Float p) ≡ true) e h)
    ∙ ap (λ x. json_of_numbers (Float p) (native_numbers x)) (sym e))
    (c.write_bits-in-UInt32.ensures plain ok)

pub returns-in-UInt64 : goal.returns-in-UInt64
returns-in-UInt64 g c p h plain ok =
    let e = c.in-UInt64.is in
    has_written_of_eq _ _ _ _ _
    (double-json p c.in-UInt64.bits (subst (λ x. has_format (native_kind x) (Float p) ≡ true) e h)
    ∙ ap (λ x. json_of_numbers (Float p) (native_numbers x)) (sym e))
    (c.write_bits-in-UInt64.ensures plain ok)
