use mir.Syntax.{w64}
use mir.Val.{to_z, of_z}
use Rattle.std.proofs.Common.{◌≡◌, ap, ◌∙◌}
use Rattle.std.proofs.lemmas.Int.{to_z-of_z}
use Rattle.std.specs.Prelude.{ℤ}
use Rattle.std.specs.BTreeMap.{insert_entry}
use Rattle.std.specs.Ordering.{int_cmp}
use Rattle.nest_array.specs.Seen.{layout_of}
use Rattle.ipc_schema.specs.ProjectedSchemas.{projected_schema_of}
use Rattle.ipc.specs.Streams.{known_of}
use Rattle.ipc.proofs.Entries.{viewed_more}
use Rattle.ipc.proofs.state.DictionaryState.insert_delta.Goals as goal

pub returns-clause-known : goal.returns-clause-known
returns-clause-known c =
    let es = c.args.self.now.known.entries in
    let same : to_z w64 (of_z w64 c.args.id) ≡ c.args.id = to_z-of_z w64 c.args.id c.ranges.id in
    let entries : c.insert.new.self.entries ≡ insert_entry int_cmp es c.args.id c.args.values = c.in_ok-insert.ensures.entries ∙ ap (λ (k : ℤ). insert_entry int_cmp es k c.args.values) same in
    let more : known_of c.insert.new.self.entries ≡ insert_entry int_cmp (known_of es) c.args.id (layout_of c.args.values) = ap known_of entries ∙ viewed_more layout_of es c.args.id c.args.values in
    λ i. record { picked = projected_schema_of c.args.self.now.picked; known = more i; appendable = c.args.self.now.appendable.items }
