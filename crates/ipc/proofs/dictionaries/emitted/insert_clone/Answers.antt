use mir.Syntax.{w64}
use mir.Val.{to_z, of_z}
use Rattle.std.proofs.Common.{◌≡◌, ap, ◌∙◌}
use Rattle.std.proofs.lemmas.Int.{to_z-of_z}
use Rattle.std.specs.Prelude.{ℤ}
use Rattle.std.specs.BTreeMap.{insert_entry}
use Rattle.std.specs.Ordering.{int_cmp}
use Rattle.nest_array.specs.Seen.{layout_of}
use Rattle.nest_model.specs.Layout.{Layout}
use Rattle.ipc.specs.EntriesOf.{by_id}
use Rattle.ipc.proofs.Entries.{viewed_more}
use Rattle.ipc.proofs.dictionaries.emitted.insert_clone.Goals as goal

pub returns-in_ok-insert-in-Ok : goal.returns-in_ok-insert-in-Ok
returns-in_ok-insert-in-Ok c =
    let es = c.args.entries.now.entries in
    let same : to_z w64 (of_z w64 c.args.id) ≡ c.args.id = to_z-of_z w64 c.args.id c.ranges.id in
    let entries : c.insert.new.self.entries ≡ insert_entry int_cmp es c.args.id c.in-Ok.values = c.in_ok-insert-in-Ok.ensures.entries ∙ ap (λ (k : ℤ). insert_entry int_cmp es k c.in-Ok.values) same in
    ap by_id entries ∙ viewed_more layout_of es c.args.id c.in-Ok.values ∙ ap (λ (v : Layout). insert_entry int_cmp (by_id es) c.args.id v) c.in-Ok.ensures.ok
