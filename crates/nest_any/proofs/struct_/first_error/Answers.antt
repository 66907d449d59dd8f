use Rattle.std.proofs.Common.{◌≡◌, ◌<◌, length, true, false, sym, ap, ◌∙◌, subst, arith, rules}
use Rattle.std.proofs.lemmas.Bool.Decides.{nat_tests}
use Rattle.nest_memory.specs.Physical.{physical_type}
use Rattle.nest_memory.specs.declared.datatypes.physical_type.PhysicalType.TheVariants as physical
use Rattle.nest_memory.specs.TypeOf.{type_of}
use Rattle.nest_model.specs.Layout.{field_types}
use Rattle.nest_model.specs.BuilderAddRow.{HaveRows}
use Rattle.nest_model.specs.Fits.{ValidityFits}
use Rattle.nest_any.specs.Trees.{tree_of, trees_of}
use Rattle.nest_any.proofs.Types.{children-count}
use Rattle.nest_any.proofs.struct_.first_error.Goals as goal

pub returns-then-fields-values : goal.returns-then-fields-values
returns-then-fields-values c =
    let p : physical_type (type_of c.args.data_type.now) ≡ physical.Struct = search rules in
    let s : 0 < length c.fields-fields.result.now = search (rules, nat_tests) in
    let k = c.fields-fields.ensures.count in
    let n = children-count tree_of c.args.values.now in
    (p, (omega (arith, s, k), λ e. c.if-fields-values.true (k ∙ sym e ∙ n)))

pub returns-then-not-have_types : goal.returns-then-not-have_types
returns-then-not-have_types c =
    let p : physical_type (type_of c.args.data_type.now) ≡ physical.Struct = search rules in
    let s : 0 < length c.fields-fields.result.now = search (rules, nat_tests) in
    let k = c.fields-fields.ensures.count in
    let n = children-count tree_of c.args.values.now in
    let types = ap field_types c.fields-fields.ensures.fields in
    let f : c.have_types.result ≡ false = search rules in
    (p, (omega (arith, s, k), (n ∙ sym c.if-fields-values.false ∙ k, λ e. let t : false ≡ true = sym f ∙ c.have_types.ensures.1 (e ∙ sym types) in cc)))

pub returns-then-not-have_rows : goal.returns-then-not-have_rows
returns-then-not-have_rows c =
    let p : physical_type (type_of c.args.data_type.now) ≡ physical.Struct = search rules in
    let s : 0 < length c.fields-fields.result.now = search (rules, nat_tests) in
    let k = c.fields-fields.ensures.count in
    let n = children-count tree_of c.args.values.now in
    let types = ap field_types c.fields-fields.ensures.fields in
    let h : c.have_types.result ≡ true = search rules in
    let t = c.have_types.ensures.0 h ∙ types in
    let f : c.have_rows.result ≡ false = search rules in
    (p, (omega (arith, s, k), (n ∙ sym c.if-fields-values.false ∙ k, (t, λ e. let u : false ≡ true = sym f ∙ c.have_rows.ensures.1 (subst (HaveRows (trees_of c.args.values.now)) (sym c.first_rows-count.ensures) e) in cc))))

pub returns-then-not-has_bits : goal.returns-then-not-has_bits
returns-then-not-has_bits c =
    let p : physical_type (type_of c.args.data_type.now) ≡ physical.Struct = search rules in
    let s : 0 < length c.fields-fields.result.now = search (rules, nat_tests) in
    let k = c.fields-fields.ensures.count in
    let n = children-count tree_of c.args.values.now in
    let types = ap field_types c.fields-fields.ensures.fields in
    let h : c.have_types.result ≡ true = search rules in
    let t = c.have_types.ensures.0 h ∙ types in
    let l : c.have_rows.result ≡ true = search rules in
    let m = subst (HaveRows (trees_of c.args.values.now)) c.first_rows-count.ensures (c.have_rows.ensures.0 l) in
    let f : c.has_bits.result ≡ false = search rules in
    (p, (omega (arith, s, k), (n ∙ sym c.if-fields-values.false ∙ k, (t, (m, λ e. let u : false ≡ true = sym f ∙ c.has_bits.ensures.1 (subst (ValidityFits c.args.validity.now) (sym c.first_rows-count.ensures) e) in cc)))))

pub returns : goal.returns
returns c =
    let p : physical_type (type_of c.args.data_type.now) ≡ physical.Struct = search rules in
    let s : 0 < length c.fields-fields.result.now = search (rules, nat_tests) in
    let k = c.fields-fields.ensures.count in
    let n = children-count tree_of c.args.values.now in
    let types = ap field_types c.fields-fields.ensures.fields in
    let h : c.have_types.result ≡ true = search rules in
    let t = c.have_types.ensures.0 h ∙ types in
    let l : c.have_rows.result ≡ true = search rules in
    let m = subst (HaveRows (trees_of c.args.values.now)) c.first_rows-count.ensures (c.have_rows.ensures.0 l) in
    let b : c.has_bits.result ≡ true = search rules in
    let v = subst (ValidityFits c.args.validity.now) c.first_rows-count.ensures (c.has_bits.ensures.0 b) in
    (p, (omega (arith, s, k), (n ∙ sym c.if-fields-values.false ∙ k, (t, (m, (v, tt))))))
