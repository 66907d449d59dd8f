use mir.Syntax.{w64}
use mir.Val.{to_z, of_z}
use Rattle.std.proofs.Common.{◌≡◌, not, Option, Some, None, sym, ap, ◌∙◌}
use Rattle.std.proofs.lemmas.Int.{to_z-of_z}
use Rattle.nest_array.specs.Seen.{layout_of}
use Rattle.nest_model.specs.Layout.{Layout}
use Rattle.ipc.specs.PendingDictionaries.{entry_at}
use Rattle.ipc.specs.FileDictionaries.{spec_is_replaced}
use Rattle.ipc.specs.EntriesOf.{by_id}
use Rattle.ipc.proofs.Emitted.{entry_found}
use Rattle.ipc.proofs.dictionaries.batches.is_replaced.Goals as goal

pub returns-in-None : goal.returns-in-None
returns-in-None c =
    let es = c.args.emitted.now.entries in
    let id = c.args.id in
    let found : entry_at (by_id es) id ≡ None = entry_found es (to_z w64 (of_z w64 id)) id None (to_z-of_z w64 id c.ranges.id) (sym c.in-None.ensures.value) in
    ap (λ (v : Option Layout). spec_is_replaced v (layout_of c.args.values.now)) (sym found)

pub returns-in_ok-begins_with-in-Some : goal.returns-in_ok-begins_with-in-Some
returns-in_ok-begins_with-in-Some c =
    let es = c.args.emitted.now.entries in
    let id = c.args.id in
    let last = c.in-Some.last.now in
    let found : entry_at (by_id es) id ≡ Some (layout_of last) = entry_found es (to_z w64 (of_z w64 id)) id (Some last) (to_z-of_z w64 id c.ranges.id) (sym c.in-Some.ensures.value) in
    ap not c.in_ok-begins_with-in-Some.ensures ∙ ap (λ (v : Option Layout). spec_is_replaced v (layout_of c.args.values.now)) (sym found)
