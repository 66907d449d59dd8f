use mir.Syntax.{w64}
use mir.Val.{to_z, of_z, SFits}
use Rattle.std.proofs.Common.{rules, ◌≡◌, List, ◌∷◌, ◌++◌, sym, ap, ◌∙◌}
use Rattle.std.specs.Prelude.{ℤ}
use Rattle.std.proofs.lemmas.Int.{to_z-of_z}
use Rattle.nest_model.specs.Layout.{Layout}
use Rattle.nest_array.specs.Seen.{layout_of}
use Rattle.nest_array.specs.declared.any.AnyArray.{AnyArray}
use Rattle.ipc.specs.Streams.{known_of}
use Rattle.ipc.proofs.Copies.{copied_more, viewed_ascend}
use Rattle.ipc.proofs.state.clone_entries.Goals as goal

pub loop-id-preserved : goal.loop-id-preserved
loop-id-preserved c =
    let e : ℤ × Layout = (c.in-Some.id.now, layout_of c.in-Some.values.now) in
    let fits : SFits w64 e.0 = search rules in
    let id : to_z w64 (of_z w64 e.0) ≡ e.0 = to_z-of_z w64 e.0 fits in
    let copy = known_of c.loop-id.copy.entries in
    let all = c.args.known.now.entries in
    let here : copy ++ e ∷ known_of c.next.new.self ≡ known_of all = ap (λ (es : List (ℤ × AnyArray)). copy ++ known_of es) (sym c.in-Some.ensures.steps) ∙ c.loop-id.invariant in
    ap (λ (es : List (ℤ × Layout)). es ++ known_of c.next.new.self) (rw id at c.in_ok-insert_clone.ensures)
    ∙ copied_more copy (known_of c.next.new.self) (known_of all) e (viewed_ascend layout_of all c.iter-id-items.ensures.ordered) here
