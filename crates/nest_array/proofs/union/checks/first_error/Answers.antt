use Rattle.std.proofs.Common.{◌≡◌, ◌≤◌, sym, ◌∙◌, subst, arith, rules}
use Rattle.nest_memory.specs.Physical.{physical_type}
use Rattle.nest_memory.specs.declared.datatypes.physical_type.PhysicalType.TheVariants as physical
use Rattle.nest_memory.specs.TypeOf.{type_of}
use Rattle.nest_memory.specs.TypeTree.{FieldTrees}
use Rattle.nest_model.specs.Fits.{EachType, OffsetsCount}
use Rattle.nest_model.specs.Layout.{count_layouts}
use Rattle.nest_array.specs.Seen.{layouts_of}
use Rattle.nest_array.proofs.Children.{layouts-count}
use Rattle.nest_array.proofs.UnionChecks.{First, both-fit, last-first_error, matched, refute}
use Rattle.nest_array.proofs.union.checks.first_error.Goals as goal

pub returns-then-named-fields : goal.returns-then-named-fields
returns-then-named-fields c =
    let p : physical_type (type_of c.args.data_type.now) ≡ physical.Union = search rules in
    (p, λ e. c.if-named-fields.true (c.fields-named.ensures.count ∙ sym e ∙ layouts-count c.args.fields.now))

pub returns-then-fields-gt127 : goal.returns-then-fields-gt127
returns-then-fields-gt127 c =
    let p : physical_type (type_of c.args.data_type.now) ≡ physical.Union = search rules in
    let n = layouts-count c.args.fields.now in
    (p, (n ∙ sym c.if-named-fields.false ∙ c.fields-named.ensures.count, λ h. omega (arith, n, c.if-fields-gt127.true)))

pub returns-then-not-have_types : goal.returns-then-not-have_types
returns-then-not-have_types c =
    let p : physical_type (type_of c.args.data_type.now) ≡ physical.Union = search rules in
    let n = layouts-count c.args.fields.now in
    let few : count_layouts (layouts_of c.args.fields.now) ≤ 127 = omega (arith, n, c.if-fields-gt127.false) in (
      p,
      (
        n ∙ sym c.if-named-fields.false ∙ c.fields-named.ensures.count,
        (few, λ e. refute _ _ c.if-not-have_types.true c.have_types.ensures.1 (subst (λ (fs : FieldTrees). EachType fs (layouts_of c.args.fields.now)) (sym c.fields-named.ensures.fields) e)),
      ),
    )

pub returns-then-not-has_each_offset : goal.returns-then-not-has_each_offset
returns-then-not-has_each_offset c =
    let p : physical_type (type_of c.args.data_type.now) ≡ physical.Union = search rules in
    let n = layouts-count c.args.fields.now in
    let few : count_layouts (layouts_of c.args.fields.now) ≤ 127 = omega (arith, n, c.if-fields-gt127.false) in
    let t = subst (λ (fs : FieldTrees). EachType fs (layouts_of c.args.fields.now)) c.fields-named.ensures.fields (c.have_types.ensures.0 c.if-not-have_types.false) in (
      p,
      (
        n ∙ sym c.if-named-fields.false ∙ c.fields-named.ensures.count,
        (few, (t, λ e. refute _ _ c.if-not-has_each_offset.true c.has_each_offset.ensures.1 (subst (OffsetsCount c.args.offsets.now) (sym c.len.ensures) e))),
      ),
    )

pub returns-then-not-has_mode : goal.returns-then-not-has_mode
returns-then-not-has_mode c =
    let p : physical_type (type_of c.args.data_type.now) ≡ physical.Union = search rules in
    let n = layouts-count c.args.fields.now in
    let few : count_layouts (layouts_of c.args.fields.now) ≤ 127 = omega (arith, n, c.if-fields-gt127.false) in
    let t = subst (λ (fs : FieldTrees). EachType fs (layouts_of c.args.fields.now)) c.fields-named.ensures.fields (c.have_types.ensures.0 c.if-not-have_types.false) in
    let o = subst (OffsetsCount c.args.offsets.now) c.len.ensures (c.has_each_offset.ensures.0 c.if-not-has_each_offset.false) in
    (p, (n ∙ sym c.if-named-fields.false ∙ c.fields-named.ensures.count, (few, (t, (o, refute _ _ c.if-not-has_mode.true c.has_mode.ensures.1)))))

pub returns : goal.returns
returns c =
    let p : physical_type (type_of c.args.data_type.now) ≡ physical.Union = search rules in
    let n = layouts-count c.args.fields.now in
    let few : count_layouts (layouts_of c.args.fields.now) ≤ 127 = omega (arith, n, c.if-fields-gt127.false) in
    let t = subst (λ (fs : FieldTrees). EachType fs (layouts_of c.args.fields.now)) c.fields-named.ensures.fields (c.have_types.ensures.0 c.if-not-have_types.false) in
    let o = subst (OffsetsCount c.args.offsets.now) c.len.ensures (c.has_each_offset.ensures.0 c.if-not-has_each_offset.false) in
    let first : First (type_of c.args.data_type.now) c.args.types.now (layouts_of c.args.fields.now) c.args.offsets.now =
    record { typed = p; as_many = n ∙ sym c.if-named-fields.false ∙ c.fields-named.ensures.count; few = few; types = t; offsets = o; mode = c.has_mode.ensures.0 c.if-not-has_mode.false } in
    matched c.error_by_ids.result _ _ _ _ (λ h. both-fit _ _ _ _ first h) (λ e f. last-first_error _ _ _ _ e first f) c.error_by_ids.ensures
