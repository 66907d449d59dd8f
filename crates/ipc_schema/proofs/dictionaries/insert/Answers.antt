use Rattle.std.proofs.Common.{◌≡◌, ap, ◌∙◌}
use mir.Syntax.{w64}
use mir.Val.{to_z, of_z}
use Rattle.std.specs.Prelude.{ℤ}
use Rattle.std.proofs.lemmas.Int.{to_z-of_z}
use Rattle.std.specs.BTreeMap.{insert_entry}
use Rattle.std.specs.Ordering.{int_cmp}
use Rattle.ipc_schema.specs.DictionaryModels.{value_type_of, value_types_of}
use Rattle.ipc_schema.proofs.Named.{Named, named_more}
use Rattle.ipc_schema.proofs.dictionaries.insert.Goals as goal

pub returns : goal.returns
returns c =
    let es = c.args.seen.now.named.entries in
    let same : to_z w64 (of_z w64 c.args.id) ≡ c.args.id = to_z-of_z w64 c.args.id c.ranges.id in
    let entries : c.insert.new.self.entries ≡ insert_entry int_cmp es c.args.id c.args.new = c.in_ok-insert.ensures.entries ∙ ap (λ (k : ℤ). insert_entry int_cmp es k c.args.new) same in
    let more : value_types_of c.insert.new.self.entries ≡ insert_entry int_cmp (value_types_of es) c.args.id (value_type_of c.args.new) = ap (λ (l : Named). value_types_of l) entries ∙ named_more es c.args.id c.args.new in
    λ i. record { ids = c.args.seen.now.ids.items; named = more i }
