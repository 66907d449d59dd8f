use Rattle.std.proofs.Common.{◌≡◌, length, ap, sym, ◌∙◌, subst}
use Rattle.nest_model.specs.Layout as layouts
use Rattle.nest_model.specs.Layout.{layout_type}
use Rattle.nest_model.specs.Meaning.{len}
use Rattle.nest_take.specs.Taken.{IsTaken}
use Rattle.nest_take.proofs.Nested.{null-taken}
use Rattle.nest_take.proofs.null.take.Goals as goal

pub returns-clause-ok : goal.returns-clause-ok
returns-clause-ok c =
    let a = c.args.array.now in
    let is = c.args.indices.now in
    let t = layout_type a in
    let n = subst (λ z. IsTaken z is (layouts.null t (length is))) (sym c.known.ensures.kind) (null-taken t (len a) is c.requires) in
    let e = c.in_ok-data_type.ensures.ok ∙ c.data_type.ensures in
    let k : layouts.null t (length is) ≡ c.new.result = ap (λ u. layouts.null u (length is)) (sym e) ∙ sym c.new.ensures in
    subst (IsTaken a is) k n
