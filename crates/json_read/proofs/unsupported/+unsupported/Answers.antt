use Rattle.std.proofs.Common.{rules, ◌≡◌, ◌∙◌, false, length, sym, subst, arith}
use Rattle.std.specs.Prelude.{nat_eq, vec_len, OnOk, IfErr, None}
use Rattle.json_read.proofs.TypeLaws.{struct-error}
use Rattle.json_read.specs.UnsupportedTypes.{IsNewBuilderError}
use Rattle.json_read.proofs.unsupported.+unsupported.Goals as goal

pub check_struct-returns-clause-ok : goal.check_struct-returns-clause-ok
check_struct-returns-clause-ok t c =
    let fs = c.args.fields.now.items in
    let v : vec_len c.args.fields.now ≡ length fs = omega arith in
    let z : nat_eq (vec_len c.args.fields.now) 0 ≡ false = search rules in
    subst (λ u. OnOk c.check_fields.result (u ≡ None)) (sym (struct-error fs _ v z (sym c.in_ok-have_duplicate_names.ensures.duplicates ∙ c.if-branch.false))) c.check_fields.ensures.ok

pub check_struct-returns-clause-error : goal.check_struct-returns-clause-error
check_struct-returns-clause-error t c =
    let fs = c.args.fields.now.items in
    let v : vec_len c.args.fields.now ≡ length fs = omega arith in
    let z : nat_eq (vec_len c.args.fields.now) 0 ≡ false = search rules in
    subst (λ u. IfErr c.check_fields.result (λ e. IsNewBuilderError e u)) (sym (struct-error fs _ v z (sym c.in_ok-have_duplicate_names.ensures.duplicates ∙ c.if-branch.false))) c.check_fields.ensures.error
