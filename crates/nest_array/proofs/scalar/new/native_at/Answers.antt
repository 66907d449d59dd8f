use Rattle.std.proofs.Common.{◌≡◌, sym, ◌∙◌}
use Rattle.std.specs.Prelude.{true, false}
use Rattle.nest_model.specs.Accessors.{validity_of}
use Rattle.nest_model.specs.Layout.{layout_type}
use Rattle.nest_model.specs.Part.{valid_at}
use Rattle.nest_flat.specs.AnyPrimitive.{primitive_layout}
use Rattle.nest_array.proofs.Scalars.{valid-shown, native-typed}
use Rattle.nest_array.proofs.scalar.new.native_at.Goals as goal

pub returns : goal.returns
returns c =
    record {
      spells = valid-shown (valid_at (validity_of (primitive_layout c.args.natives.now)) c.args.i) _ _ c.value.ensures.slot
          (λ e. let t : false ≡ true = sym c.if-is_null.false ∙ c.is_null.ensures.slot.1 e in cc);
      fits = native-typed (layout_type (primitive_layout c.args.natives.now)) _ _ c.known.ensures.kind c.value.ensures.kind;
    }
