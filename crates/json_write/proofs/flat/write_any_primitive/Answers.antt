use Rattle.std.proofs.Common.{◌≡◌, true, sym, ap, ◌∙◌, subst}
use Rattle.std.proofs.Output.{has_written_of_eq}
use Rattle.nest_flat.specs.AnyPrimitive.{primitive_kind, primitive_layout}
use Rattle.nest_model.specs.Layout.{layout_type}
use Rattle.nest_model.specs.Meaning.{slot}
use Rattle.json_write.specs.Formats.{format_of_type, has_format}
use Rattle.json_write.specs.JsonText.{json_of_native}
use Rattle.json_write.proofs.KeyedText.{native-text}
use Rattle.json_write.proofs.TypeFormats.{format-fits}
use Rattle.json_write.proofs.flat.write_any_primitive.Goals as goal

pub write_any_primitive_as-requires : goal.write_any_primitive_as-requires
write_any_primitive_as-requires g c =
    let t = layout_type (primitive_layout c.args.array.now) in
    record {
      within = c.requires;
      format = subst (λ v. has_format (primitive_kind c.args.array.now) v ≡ true) (ap format_of_type (sym c.data_type.ensures) ∙ sym c.of_type.ensures) (format-fits t (primitive_kind c.args.array.now) c.known.ensures.kind);
    }

pub returns : goal.returns
returns g c plain ok =
    let a = primitive_layout c.args.array.now in
    has_written_of_eq _ _ _ _ _
    (ap (λ v. json_of_native v (slot a c.args.i)) (c.of_type.ensures ∙ ap format_of_type c.data_type.ensures) ∙ native-text (layout_type a) _ a c.args.i c.known.ensures.parts)
    (c.write_any_primitive_as.ensures plain ok)
