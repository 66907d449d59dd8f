use mir.Syntax.{w64}
use mir.Val.{to_z, of_z}
use Rattle.std.proofs.Common.{◌≡◌, Option, Some, None, sym, ap, ◌∙◌}
use Rattle.std.proofs.lemmas.Int.{to_z-of_z}
use Rattle.nest_array.specs.Seen.{layout_of}
use Rattle.nest_model.specs.Layout.{Layout}
use Rattle.ipc.specs.PendingDictionaries.{entry_at, is_same}
use Rattle.ipc.specs.EntriesOf.{by_id}
use Rattle.ipc.proofs.Emitted.{entry_found}
use Rattle.ipc.proofs.dictionaries.pending.is_emitted.Goals as goal

pub returns-in-None : goal.returns-in-None
returns-in-None c =
    let es = c.args.emitted.now.entries in
    let id = c.args.id in
    let found : entry_at (by_id es) id ≡ None = entry_found es (to_z w64 (of_z w64 id)) id None (to_z-of_z w64 id c.ranges.id) (sym c.in-None.ensures.value) in
    ap (λ (v : Option Layout). is_same v (layout_of c.args.values.now)) (sym found)

pub returns-in-Some : goal.returns-in-Some
returns-in-Some c =
    let es = c.args.emitted.now.entries in
    let id = c.args.id in
    let last = c.in-Some.last.now in
    let found : entry_at (by_id es) id ≡ Some (layout_of last) = entry_found es (to_z w64 (of_z w64 id)) id (Some last) (to_z-of_z w64 id c.ranges.id) (sym c.in-Some.ensures.value) in
    c.eq.ensures ∙ ap (λ (v : Option Layout). is_same v (layout_of c.args.values.now)) (sym found)
