use Rattle.std.proofs.Common.{◌≡◌, true, sym, ap, ◌∙◌, subst, arith}
use Rattle.std.proofs.Output.{has_written_of_eq}
use Rattle.nest_flat.specs.AnyNative.{native_kind}
use Rattle.nest_model.specs.Accessors.{natives_of, validity_of}
use Rattle.nest_model.specs.Array.{TopFits}
use Rattle.nest_model.specs.Layout as layouts
use Rattle.nest_model.specs.Layout.{layout_type}
use Rattle.json_write.specs.Formats.{format_of_type, has_format}
use Rattle.json_write.specs.JsonText.{json_of_value}
use Rattle.json_write.proofs.TypeFormats.{format-fits}
use Rattle.json_write.proofs.NativeValues.{natives-count, native-shown}
use Rattle.json_write.proofs.flat.write_value.Goals as goal

pub bounds-values-i : goal.bounds-values-i
bounds-values-i g c =
    let n = natives-count g.T.NativeType.numbers _ c.args.array.now c.args.values.now c.known.ensures.kind c.requires.raw in
    omega (arith, n)

pub returns : goal.returns
returns g c plain ok =
    let a = c.args.array.now in
    let n = natives-count g.T.NativeType.numbers _ a c.args.values.now c.known.ensures.kind c.requires.raw in
    has_written_of_eq _ _ _ _ _
    (ap (json_of_value c.args.format) c.to_any.ensures.same_numbers
    ∙ ap (λ x. json_of_value c.args.format (g.T.NativeType.numbers x)) c.index-values-i.is
    ∙ native-shown g.T.NativeType.numbers _ c.args.format a c.args.values.now c.args.i _ c.requires.format c.known.ensures.kind c.requires.raw (omega (arith, n)) (sym c.is_null.ensures.place ∙ c.if-is_null.false))
    (c.write_native.ensures plain ok)

pub write_native-requires : goal.write_native-requires
write_native-requires g c =
    let a = c.args.array.now in
    let fits : TopFits (layouts.primitive g.T.NativeType.PRIMITIVE (layout_type a) (natives_of a) (validity_of a)) = subst TopFits c.known.ensures.kind c.known.ensures.fits in
    let typed = subst (λ k. has_format k (format_of_type (layout_type a)) ≡ true) (sym c.to_any.ensures.kind) (format-fits (layout_type a) g.T.NativeType.PRIMITIVE fits.1.1.0) in
    subst (λ v. has_format (native_kind c.to_any.result) v ≡ true) (sym c.requires.format) typed
