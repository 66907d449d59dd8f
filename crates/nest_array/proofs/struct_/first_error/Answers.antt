use Rattle.std.proofs.Common.{◌≡◌, ◌<◌, length, true, false, sym, ◌∙◌, subst, arith, rules}
use Rattle.std.proofs.lemmas.Bool.Decides.{nat_tests}
use Rattle.nest_memory.specs.Physical.{physical_type}
use Rattle.nest_memory.specs.declared.datatypes.physical_type.PhysicalType.TheVariants as physical
use Rattle.nest_memory.specs.TypeTree.{FieldTrees}
use Rattle.nest_memory.specs.TypeOf.{type_of}
use Rattle.nest_model.specs.Fits.{EachType, EachLen, ValidityFits}
use Rattle.nest_array.specs.Seen.{layouts_of}
use Rattle.nest_array.proofs.Children.{layouts-count}
use Rattle.nest_array.proofs.struct_.first_error.Goals as goal

pub returns-then-fields-values : goal.returns-then-fields-values
returns-then-fields-values c =
    let p : physical_type (type_of c.args.data_type.now) ≡ physical.Struct = search rules in
    let s : 0 < length c.fields-fields.result.now = search (rules, nat_tests) in
    let k = c.fields-fields.ensures.count in
    let n = layouts-count c.args.values.now in
    (p, (omega (arith, s, k), λ e. c.if-fields-values.true (k ∙ sym e ∙ n)))

pub returns-then-not-have_types : goal.returns-then-not-have_types
returns-then-not-have_types c =
    let p : physical_type (type_of c.args.data_type.now) ≡ physical.Struct = search rules in
    let s : 0 < length c.fields-fields.result.now = search (rules, nat_tests) in
    let k = c.fields-fields.ensures.count in
    let n = layouts-count c.args.values.now in
    let f : c.have_types.result ≡ false = search rules in (
      p,
      (
        omega (arith, s, k),
        (n ∙ sym c.if-fields-values.false ∙ k, λ e. let t : false ≡ true = sym f ∙ c.have_types.ensures.1 (subst (λ (fs : FieldTrees). EachType fs (layouts_of c.args.values.now)) (sym c.fields-fields.ensures.fields) e) in cc),
      ),
    )

pub returns-then-not-have_len : goal.returns-then-not-have_len
returns-then-not-have_len c =
    let p : physical_type (type_of c.args.data_type.now) ≡ physical.Struct = search rules in
    let s : 0 < length c.fields-fields.result.now = search (rules, nat_tests) in
    let k = c.fields-fields.ensures.count in
    let n = layouts-count c.args.values.now in
    let h : c.have_types.result ≡ true = search rules in
    let f : c.have_len.result ≡ false = search rules in
    let t = subst (λ (fs : FieldTrees). EachType fs (layouts_of c.args.values.now)) c.fields-fields.ensures.fields (c.have_types.ensures.0 h) in
    (p, (omega (arith, s, k), (n ∙ sym c.if-fields-values.false ∙ k, (t, λ e. let u : false ≡ true = sym f ∙ c.have_len.ensures.1 (subst (EachLen (layouts_of c.args.values.now)) (sym c.first_count-count.ensures) e) in cc))))

pub returns-then-not-fits : goal.returns-then-not-fits
returns-then-not-fits c =
    let p : physical_type (type_of c.args.data_type.now) ≡ physical.Struct = search rules in
    let s : 0 < length c.fields-fields.result.now = search (rules, nat_tests) in
    let k = c.fields-fields.ensures.count in
    let n = layouts-count c.args.values.now in
    let h : c.have_types.result ≡ true = search rules in
    let l : c.have_len.result ≡ true = search rules in
    let f : c.fits.result ≡ false = search rules in
    let t = subst (λ (fs : FieldTrees). EachType fs (layouts_of c.args.values.now)) c.fields-fields.ensures.fields (c.have_types.ensures.0 h) in
    let m = subst (EachLen (layouts_of c.args.values.now)) c.first_count-count.ensures (c.have_len.ensures.0 l) in
    (p, (omega (arith, s, k), (n ∙ sym c.if-fields-values.false ∙ k, (t, (m, λ e. let u : false ≡ true = sym f ∙ c.fits.ensures.1 (subst (ValidityFits c.args.validity.now) (sym c.first_count-count.ensures) e) in cc)))))

pub returns : goal.returns
returns c =
    let p : physical_type (type_of c.args.data_type.now) ≡ physical.Struct = search rules in
    let s : 0 < length c.fields-fields.result.now = search (rules, nat_tests) in
    let k = c.fields-fields.ensures.count in
    let n = layouts-count c.args.values.now in
    let h : c.have_types.result ≡ true = search rules in
    let l : c.have_len.result ≡ true = search rules in
    let f : c.fits.result ≡ true = search rules in
    let t = subst (λ (fs : FieldTrees). EachType fs (layouts_of c.args.values.now)) c.fields-fields.ensures.fields (c.have_types.ensures.0 h) in
    let m = subst (EachLen (layouts_of c.args.values.now)) c.first_count-count.ensures (c.have_len.ensures.0 l) in
    (p, (omega (arith, s, k), (n ∙ sym c.if-fields-values.false ∙ k, (t, (m, (subst (ValidityFits c.args.validity.now) c.first_count-count.ensures (c.fits.ensures.0 f), tt))))))
