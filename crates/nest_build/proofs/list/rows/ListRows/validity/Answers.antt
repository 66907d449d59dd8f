use Rattle.std.specs.Prelude.{option_map}
use Rattle.std.proofs.Common.{◌≡◌, ◌∙◌, ap, length, sym, subst, rules}
use Rattle.nest_model.specs.BuilderFreeze.{EncodesBits, row_bits}
use Rattle.nest_build.proofs.Rows.{none_shown, row_list-bits, row_list-count}
use Rattle.nest_build.proofs.list.rows.ListRows.validity.Goals as goal

pub returns-clause-bits : goal.returns-clause-bits
returns-clause-bits g c =
    let row_list = row_list-bits c.self.inside.offsets c.self.inside.validity c.args.self.now c.self.view_is c.self.invariant.fits in
    let e : option_map (λ b. b.now) c.as_ref.result ≡ c.self.inside.validity = search rules in
    subst (λ v. EncodesBits v (row_bits c.args.self.now)) (sym e) row_list

pub returns-clause-none : goal.returns-clause-none
returns-clause-none g c = λ z.
    let a = c.self.inside in
    let n = row_list-count a.offsets a.validity c.args.self.now c.self.view_is c.self.invariant.fits in
    let e : option_map (λ b. b.now) c.as_ref.result ≡ a.validity = search rules in
    none_shown (λ b. b.now) c.as_ref.result a.validity e (c.self.invariant.bare (sym n ∙ ap length z))
