use Rattle.std.proofs.Common.{rules, ◌≡◌, ◌∙◌, false, ap, sym, length, arith}
use Rattle.std.specs.Prelude.{nat_eq, vec_len}
use Rattle.nest_memory.specs.TypeOf.{field_list_of}
use Rattle.nest_model.specs.Checks.{first_of}
use Rattle.nest_model.specs.Nulls.{fields_error}
use Rattle.nest_array.proofs.NullErrors.{passed, some-fields, union-comparisons}
use Rattle.nest_array.proofs.nulls.first_error.+first_error.Goals as goal

pub struct_error-returns : goal.struct_error-returns
struct_error-returns t c =
    let v : vec_len c.args.fields.now ≡ length c.args.fields.now.items = omega arith in
    let z : nat_eq (vec_len c.args.fields.now) 0 ≡ false = search rules in
    passed _ _ _ _ (some-fields c.args.fields.now.items _ v z) c.each_error.ensures

pub union_error-returns-in-Some : goal.union_error-returns-in-Some
union_error-returns-in-Some t c =
    let fs = c.args.fields.now.items in
    let rest = fields_error (field_list_of fs) c.args.length c.args.fill in
    let v : c.len.result ≡ length fs = omega arith in
    ap (λ o. first_of o rest) (sym c.in-Some.is) ∙ union-comparisons fs c.len.result _ c.args.mode c.args.length c.own_error.result rest v c.own_error.ensures

pub union_error-returns-in-None : goal.union_error-returns-in-None
union_error-returns-in-None t c =
    let fs = c.args.fields.now.items in
    let rest = fields_error (field_list_of fs) c.args.length c.args.fill in
    let v : c.len.result ≡ length fs = omega arith in
    c.each_error.ensures ∙ ap (λ o. first_of o rest) (sym c.in-None.is) ∙ union-comparisons fs c.len.result _ c.args.mode c.args.length c.own_error.result rest v c.own_error.ensures
