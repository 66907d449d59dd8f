use Rattle.std.proofs.Common.{◌≡◌, ◌∙◌, Some, None, inl, inr, ap, sym, subst, arith}
use Rattle.std.specs.Option.{option_map}
use Rattle.nest_any.specs.Trees.{trees_of}
use Rattle.nest_any.specs.Refusals.{IsOfLists, first_rows, struct_checks}
use Rattle.nest_any.specs.Words.{Pass, physical_type, type_of}
use Rattle.nest_array.proofs.NullMakes.{field-lighter, weight-of}
use Rattle.nest_build.specs.Rows.{encoded_bits}
use Rattle.nest_memory.specs.TypeOf.{field_of}
use Rattle.nest_memory.specs.TypeTree.{item_type, value_type}
use Rattle.nest_memory.specs.declared.datatypes.physical_type.PhysicalType.TheVariants as physical
use Rattle.nest_model.specs.BuilderTree as builders
use Rattle.nest_model.specs.NullKinds.{field_weight, fields_weight, fields-lighter, item-lighter, value-lighter}
use Rattle.json_read.proofs.ChildLaws.{children-grow, field-read, read-of}
use Rattle.json_read.proofs.EmptyLaws.{fields-read, item-read, item-there, keys-hold, lists-hold, no-map, no-union, records-empty, records-fit, value-read, value-there}
use Rattle.json_read.specs.EmptyBuilders.{AreEmptyOf, IsEmptyOf}
use Rattle.json_read.specs.UnsupportedTypes.{unsupported_field, unsupported_fields}
use Rattle.json_read.proofs.builders.+made.Goals as goal

pub children-made-child-requires : goal.children-made-child-requires
children-made-child-requires t c =
    let f = field_of c.index-fields-i.result in
    let u = type_of c.data_type.result.now in
    let e = ap (λ x. field_weight (field_of x)) c.index-fields-i.is in
    let w = field-lighter c.args.fields.now c.loop-i.i c.index-fields-i.result (omega arith) in
    let q = weight-of f u c.data_type.ensures in (
      omega (arith, e, w, q),
      read-of f u c.data_type.ensures
          ∙ ap (λ x. unsupported_field (field_of x)) c.index-fields-i.is
          ∙ field-read c.args.fields.now c.loop-i.i c.index-fields-i.result (omega arith) c.requires,
    )

pub children-loop-i-preserved : goal.children-loop-i-preserved
children-loop-i-preserved t c =
    children-grow _ c.args.fields.now c.loop-i.i c.index-fields-i.result (type_of c.data_type.result.now) _ _ (omega arith) c.index-fields-i.is c.data_type.ensures c.loop-i.invariant c.made-child.ensures.ok c.in_default.ensures.ok

pub made-nested-requires : goal.made-nested-requires
made-nested-requires t c =
    let a = type_of c.args.data_type.now in
    let u = type_of c.in-Some.items.now in
    let item : item_type a ≡ Some u = sym c.item_type.ensures ∙ ap (option_map (λ b. type_of b.now)) c.in-Some.is in
    let lists : IsOfLists (physical_type a) = subst IsOfLists c.to_physical_type.ensures c.in-List.is in
    (omega (arith, item-lighter a u item), (lists-hold a u lists c.requires item, item-read a u item c.requires))

pub made-unreachable-requires : goal.made-unreachable-requires
made-unreachable-requires t c =
    let a = type_of c.args.data_type.now in
    let none : item_type a ≡ None = sym c.item_type.ensures ∙ ap (option_map (λ b. type_of b.now)) c.in-None.is in
    item-there a (subst IsOfLists c.to_physical_type.ensures c.in-List.is) none

pub made-nested-requires-in-Some-value_type : goal.made-nested-requires-in-Some-value_type
made-nested-requires-in-Some-value_type t c =
    let a = type_of c.args.data_type.now in
    let u = type_of c.in-Some-value_type.values.now in
    let value : value_type a ≡ Some u = sym c.value_type.ensures ∙ ap (option_map (λ b. type_of b.now)) c.in-Some-value_type.is in
    let kind : physical_type a ≡ physical.Dictionary c.in-Dictionary.field-0 = sym c.to_physical_type.ensures ∙ c.in-Dictionary.is in
    (omega (arith, value-lighter a u value), (keys-hold c.in-Dictionary.field-0 a u kind c.requires value, (value-read a u value c.requires).1))

pub made-unreachable-requires-in-None-value_type : goal.made-unreachable-requires-in-None-value_type
made-unreachable-requires-in-None-value_type t c =
    let a = type_of c.args.data_type.now in
    let none : value_type a ≡ None = sym c.value_type.ensures ∙ ap (option_map (λ b. type_of b.now)) c.in-None-value_type.is in
    value-there c.in-Dictionary.field-0 a (sym c.to_physical_type.ensures ∙ c.in-Dictionary.is) none

pub made-unreachable-requires-in-Union : goal.made-unreachable-requires-in-Union
made-unreachable-requires-in-Union t c =
    let a = type_of c.args.data_type.now in
    elim c.in-Union.is [
      | inl e ↦ no-union a (sym c.to_physical_type.ensures ∙ e) c.requires
      | inr e ↦ no-map a (sym c.to_physical_type.ensures ∙ e) c.requires
    ]

pub records-children-requires : goal.records-children-requires
records-children-requires t c =
    let a = type_of c.args.data_type.now in
    let e = ap fields_weight c.fields.ensures.fields in
    (omega (arith, e, fields-lighter a), ap unsupported_fields c.fields.ensures.fields ∙ (fields-read a c.requires.kind c.requires.supported).1)

pub records-new-records-requires-clause-complete : goal.records-new-records-requires-clause-complete
records-new-records-requires-clause-complete t c =
    let a = type_of c.args.data_type.now in
    let bs = trees_of c.in-Ok.children.items in
    (records-fit a bs c.requires.kind c.requires.supported (subst (λ fs. AreEmptyOf fs bs) c.fields.ensures.fields c.in-Ok.ensures.ok)).0

pub records-new-records-requires-clause-fit : goal.records-new-records-requires-clause-fit
records-new-records-requires-clause-fit t c =
    let a = type_of c.args.data_type.now in
    let bs = trees_of c.in-Ok.children.items in
    subst (λ u. Pass (struct_checks u bs None)) (sym c.in-Ok-clone.ensures.ok) (records-fit a bs c.requires.kind c.requires.supported (subst (λ fs. AreEmptyOf fs bs) c.fields.ensures.fields c.in-Ok.ensures.ok)).1

pub records-returns-in-Ok-clone-clause-ok : goal.records-returns-in-Ok-clone-clause-ok
records-returns-in-Ok-clone-clause-ok t c =
    let a = type_of c.args.data_type.now in
    let bs = trees_of c.in-Ok.children.items in
    subst (IsEmptyOf a) (sym c.new-records.ensures) (subst (λ u. IsEmptyOf a (builders.struct u (encoded_bits (first_rows bs) None) bs)) (sym c.in-Ok-clone.ensures.ok)
    (records-empty a bs c.requires.kind (subst (λ fs. AreEmptyOf fs bs) c.fields.ensures.fields c.in-Ok.ensures.ok)))
