use Rattle.std.proofs.Common.{◌≡◌, ◌+◌, ◌≤◌, ap, ◌∙◌, sym, arith, [], ◌∷◌, ◌++◌}
use Rattle.nest_memory.specs.Rising.{last_of, numbers}
use Rattle.nest_memory.proofs.Rises.{start_push, numbers_push}
use Rattle.nest_memory.proofs.offsets.Offsets.try_push_usize.Goals as goal

pub invariant_of-self-2 : goal.invariant_of-self-2
invariant_of-self-2 g c =
    let shown = ap last_of c.self.view_is in
    let room : last_of (numbers g.O.Offset.value c.self.inside.offsets.items) ≤ c.in-Some.next = omega arith in
    start_push g.O.Offset.value _ _ _ _ c.in_ok-push.ensures.items c.self.invariant room c.in-Some-from_usize.ensures.0

pub returns-clause-ok : goal.returns-clause-ok
returns-clause-ok g c =
    let next : c.in-Some.next ≡ last_of c.args.self.now + c.args.length = omega arith in
    ap (numbers g.O.Offset.value) c.in_ok-push.ensures.items
    ∙ numbers_push g.O.Offset.value _ _ _ (sym c.in-Some-from_usize.ensures.0)
    ∙ λ i. c.self.view_is i ++ next i ∷ []
