use mir.Syntax.{w64}
use mir.Val.{to_z, of_z, SFits}
use Rattle.std.proofs.Common.{rules, ◌≡◌, ◌+◌, Bool, false, map, drop, sym, ap, ◌∙◌}
use Rattle.std.specs.Prelude.{ℤ, ◌||◌}
use Rattle.std.proofs.lemmas.Int.{to_z-of_z}
use Rattle.nest_array.specs.Seen.{layout_of}
use Rattle.ipc.specs.PendingDictionaries.{entry_at}
use Rattle.ipc.specs.FileDictionaries.{spec_is_replaced, spec_any_replaced}
use Rattle.ipc.specs.EntriesOf.{by_id, entry_of}
use Rattle.ipc.proofs.Batches.{anew_next}
use Rattle.ipc.proofs.dictionaries.batches.any_replaced.Goals as goal

pub loop-id-preserved : goal.loop-id-preserved
loop-id-preserved c =
    let es = by_id c.args.emitted.now.entries in
    let xs = c.args.pending.now in
    let i = c.loop-id.id-index in
    let x = c.loop-id-item.result in
    let fits : SFits w64 x.0 = search rules in
    let named : to_z w64 (of_z w64 x.0) ≡ x.0 = to_z-of_z w64 x.0 fits in
    let rest : Bool = spec_any_replaced es (map entry_of (drop (i + 1) xs)) in
    let not-this : spec_is_replaced (entry_at es x.0) (layout_of x.1.now) ≡ false = ap (λ (k : ℤ). spec_is_replaced (entry_at es k) (layout_of x.1.now)) (sym named) ∙ sym c.in_ok-is_replaced.ensures ∙ c.if-branch.false in
    sym (ap (λ (b : Bool). b || rest) not-this) ∙ sym (anew_next entry_of es xs i x c.loop-id-test.true c.loop-id-item.is) ∙ c.loop-id.invariant
