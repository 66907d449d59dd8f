use mir.Syntax.{w64}
use mir.Val.{to_z, of_z, SFits}
use Rattle.std.proofs.Common.{rules, ◌≡◌, suc, ◌+◌, ◌<◌, [], ◌∷◌, ◌++◌, length, take, true, false, inl, inr, sym, ap, subst, ◌∙◌, arith}
use Rattle.std.specs.Prelude.{ℤ, pos, ◌⊎◌}
use Rattle.std.proofs.lemmas.Int.{to_z-of_z}
use Rattle.std.proofs.lemmas.List.{length-map, map-append}
use Rattle.nest_array.proofs.Children.{weight-at}
use Rattle.nest_array.specs.Seen.{layout_of, layouts_of}
use Rattle.nest_model.specs.Layout.{Layouts, weight}
use Rattle.ipc.specs.PendingDictionaries.{entry_at, is_same}
use Rattle.ipc.specs.EntriesOf.{by_id, entry_of, borrowed_entries_of}
use Rattle.ipc.specs.Visited.{AreVisited}
use Rattle.ipc.proofs.Emitted.{take_one}
use Rattle.ipc.proofs.Visits.{pushed, kept, more_walked}
use Rattle.ipc.proofs.dictionaries.pending.+visit.Goals.{visit_dictionary-then-len-before-via-then-len-before, visit_dictionary-then-len-before-via-else-len-before+then-not-is_emitted}
use Rattle.ipc.proofs.dictionaries.pending.+visit.Goals as goal

pub visit_dictionary-returns-in_ok-push : goal.visit_dictionary-returns-in_ok-push
visit_dictionary-returns-in_ok-push t c =
    let es = by_id c.args.emitted.now.entries in
    let old = c.args.found.now.items in
    let mid = c.visit.new.found.items in
    let id = c.in_ok-id.id in
    let v = layout_of c.values-values.result.now in
    let fits : SFits w64 id = search rules in
    let named : to_z w64 (of_z w64 id) ≡ pos c.args.next = to_z-of_z w64 id fits ∙ c.in_ok-id.ensures.id in
    let next : c.args.next + 1 ≡ suc c.args.next = omega arith in
    let more : borrowed_entries_of c.push.new.self.items ≡ borrowed_entries_of mid ++ (pos c.args.next, v) ∷ [] =
    ap borrowed_entries_of c.in_ok-push.ensures.items ∙ map-append entry_of mid ((to_z w64 (of_z w64 id), c.values-values.result) ∷ []) ∙ ap (λ (k : ℤ). borrowed_entries_of mid ++ (k, v) ∷ []) named in
    let why : (length (borrowed_entries_of old) < length (borrowed_entries_of mid)) ⊎ (is_same (entry_at es (pos c.args.next)) v ≡ false) =
    elim c.then-len-before.branch [
      | visit_dictionary-then-len-before-via-then-len-before w ↦ inl (omega (arith, w.if-len-before.true, c.len-before.ensures, c.len.ensures, length-map old entry_of, length-map mid entry_of))
      | visit_dictionary-then-len-before-via-else-len-before+then-not-is_emitted w ↦ inr (ap (λ (k : ℤ). is_same (entry_at es k) v) (sym named) ∙ sym w.is_emitted.ensures ∙ w.if-not-is_emitted.true)
    ] in
    pushed es c.args.next c.args.array.now v c.known.ensures.kind c.known.ensures.fits c.values-values.ensures (borrowed_entries_of old) (borrowed_entries_of mid) (c.args.next + 1) c.in_ok-behind.behind next c.in_ok-behind.ensures (borrowed_entries_of c.push.new.self.items) more why

pub visit_dictionary-returns-else-not-is_emitted : goal.visit_dictionary-returns-else-not-is_emitted
visit_dictionary-returns-else-not-is_emitted t c =
    let es = by_id c.args.emitted.now.entries in
    let old = c.args.found.now.items in
    let mid = c.visit.new.found.items in
    let id = c.in_ok-id.id in
    let v = layout_of c.values-values.result.now in
    let fits : SFits w64 id = search rules in
    let named : to_z w64 (of_z w64 id) ≡ pos c.args.next = to_z-of_z w64 id fits ∙ c.in_ok-id.ensures.id in
    let next : c.args.next + 1 ≡ suc c.args.next = omega arith in
    let same : is_same (entry_at es (pos c.args.next)) v ≡ true = ap (λ (k : ℤ). is_same (entry_at es k) v) (sym named) ∙ sym c.is_emitted.ensures ∙ c.if-not-is_emitted.false in
    kept es c.args.next c.args.array.now v c.known.ensures.kind c.known.ensures.fits c.values-values.ensures (borrowed_entries_of old) (borrowed_entries_of mid) (c.args.next + 1) c.in_ok-behind.behind next c.in_ok-behind.ensures
    (omega (arith, c.if-len-before.false, c.len-before.ensures, c.len.ensures, length-map old entry_of, length-map mid entry_of)) same

pub visit_each-visit-requires : goal.visit_each-visit-requires
visit_each-visit-requires t c =
    let w = weight-at c.args.arrays.now c.loop-array.array-index c.array-item.result c.loop-array-test.true in
    let e = ap (λ x. weight (layout_of x)) c.array-item.is in
    (omega (arith, w, e), tt)

pub visit_each-loop-array-preserved : goal.visit_each-loop-array-preserved
visit_each-loop-array-preserved t c =
    let es = by_id c.args.emitted.now.entries in
    let xs = c.args.arrays.now in
    let i = c.loop-array.array-index in
    let x = c.array-item.result in
    let old = borrowed_entries_of c.args.found.now.items in
    let new = borrowed_entries_of c.visit.new.found.items in
    let more = more_walked es c.args.next (layouts_of (take i xs)) (layout_of x) old (borrowed_entries_of c.loop-array.found.items) new c.loop-array.next c.in_ok-next.next c.loop-array.invariant c.in_ok-next.ensures in
    subst (λ (cs : Layouts). AreVisited es c.args.next cs old new c.in_ok-next.next) (sym (take_one xs i x c.loop-array-test.true c.array-item.is)) more
