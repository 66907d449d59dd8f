use Rattle.std.proofs.Common.{◌+◌, ◌≤◌, false, arith, refl, None}
use Rattle.nest_model.specs.Meaning.{slot}
use Rattle.nest_flat.specs.BareSlots.{bare}
use Rattle.nest_array.proofs.Counts.{same-joined, blocks-decide, rest-decides}
use Rattle.nest_array.proofs.equal.flat.same_bare.Goals as goal

pub returns-in_default-same_blocks-clause-same : goal.returns-in_default-same_blocks-clause-same
returns-in_default-same_blocks-clause-same g c =
    let f = slot (bare (g.A.FlatArray.layout c.args.a)) in
    let h = slot (bare (g.A.FlatArray.layout c.args.b)) in
    rest-decides f h c.args.o c.args.p c.args.n c.in-Some.large false c.in-Some.ensures.same (λ t. cc, λ e. absurd (c.in_default-same_blocks.ensures.differ e)) c.in-Some.ensures.whole.0

pub returns-clause-same : goal.returns-clause-same
returns-clause-same g c =
    let f = slot (bare (g.A.FlatArray.layout c.args.a)) in
    let h = slot (bare (g.A.FlatArray.layout c.args.b)) in
    let large = c.in-Some.large in
    let small = c.in-Some-same_blocks.small in
    let l : large + small ≤ c.args.n = omega (arith, c.in-Some.ensures.whole.0, c.in-Some-same_blocks.ensures.whole.0) in
    let e = same-joined f h c.args.o c.args.p large small (large + small) refl c.in-Some.ensures.same c.in-Some-same_blocks.ensures.same in
    blocks-decide f h c.args.o c.args.p c.args.n (large + small) c.same_blocks-3.result c.is_some.result l e c.is_some.ensures c.same_blocks-3.ensures.whole c.same_blocks-3.ensures.same c.same_blocks-3.ensures.differ
