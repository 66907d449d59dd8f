use Rattle.std.proofs.Common.{◌≡◌, ◌∙◌, ap, sym, inl, inr}
use Rattle.std.specs.Prelude.{Option, Some, None}
use Rattle.nest_memory.specs.TypeOf.{type_of}
use Rattle.nest_memory.specs.declared.datatypes.physical_type.PhysicalType.TheVariants as physical
use Rattle.nest_memory.specs.declared.datatypes.physical_type.PrimitiveType.{PrimitiveType}
use Rattle.nest_memory.specs.declared.datatypes.physical_type.PrimitiveType.TheVariants as primitives
use Rattle.nest_memory.specs.declared.error.Error.TheVariants.{NotYetImplemented}
use Rattle.nest_model.specs.Nulls.{float_error}
use Rattle.nest_model.specs.MadeNullLaws.{no-float}
use Rattle.nest_flat.proofs.any_primitive.AnyPrimitive.of_nulls.Goals as goal

at-kind : (k f : PrimitiveType) → k ≡ f → float_error (physical.Primitive k) ≡ None → float_error (physical.Primitive f) ≡ None
at-kind k f h e = ap (λ x. float_error (physical.Primitive x)) (sym h) ∙ e

pub unreachable-requires : goal.unreachable-requires
unreachable-requires c =
    let e = no-float (type_of c.args.data_type.now) c.args.kind c.args.length c.args.fill c.requires.kind c.requires.unrefused in
    elim c.in-Float16.is [
      | inl h ↦ let q : Some NotYetImplemented ≡ None = at-kind c.args.kind primitives.Float16 h e in absurd cc
      | inr r ↦ elim r [
        | inl h ↦ let q : Some NotYetImplemented ≡ None = at-kind c.args.kind primitives.Float32 h e in absurd cc
        | inr h ↦ let q : Some NotYetImplemented ≡ None = at-kind c.args.kind primitives.Float64 h e in absurd cc
      ]
    ]
