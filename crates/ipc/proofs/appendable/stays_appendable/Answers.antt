use mir.Syntax.{w64}
use mir.Val.{to_z, of_z}
use Rattle.std.proofs.Common.{rules, ◌≡◌, Bool, false, Option, sym, ap, ◌∙◌}
use Rattle.std.proofs.lemmas.Int.{to_z-of_z}
use Rattle.std.specs.Prelude.{ℤ, not, ◌&&◌}
use Rattle.std.specs.Option.{option_map, option_copied}
use Rattle.std.specs.Map.{lookup}
use Rattle.std.specs.BTreeMap.{is_at}
use Rattle.std.specs.Ordering.{int_cmp, int_eq}
use Rattle.ipc_schema.specs.Dictionaries as spelled
use Rattle.ipc_schema.specs.DictionaryModels.{value_type_of, value_types_of}
use Rattle.ipc_schema.specs.declared.dictionaries.DictionaryValueType.{DictionaryValueType}
use Rattle.ipc.specs.Streams.{spec_has_nested}
use Rattle.ipc.proofs.Entries.{viewed_found}
use Rattle.ipc.proofs.AppendableLaws.{shown, shown_copied}
use Rattle.ipc.proofs.appendable.stays_appendable.Goals as goal

pub returns-then-other-id : goal.returns-then-other-id
returns-then-other-id c =
    let es = c.args.picked.now.dictionaries.named.entries in
    let id : ℤ = c.args.id in
    let other : ℤ = c.args.other in
    let same : to_z w64 (of_z w64 id) ≡ id = to_z-of_z w64 id c.ranges.id in
    let same_other : to_z w64 (of_z w64 other) ≡ other = to_z-of_z w64 other c.ranges.other in
    let apart : int_eq other id ≡ false = search rules in
    let found : option_copied c.get.result ≡ lookup (is_at (int_cmp other)) es = c.get.ensures.value ∙ ap (λ (k : ℤ). lookup (is_at (int_cmp k)) es) same_other in
    let names : shown c.get.result ≡ lookup (is_at (int_cmp other)) (value_types_of es) = shown_copied c.get.result ∙ ap (λ (o : Option DictionaryValueType). option_map value_type_of o) found ∙ sym (viewed_found value_type_of (is_at (int_cmp other)) es) in
    let inside : c.has_nested.result ≡ spec_has_nested (lookup (is_at (int_cmp other)) (value_types_of es)) id = c.has_nested.ensures ∙ ap (λ (k : ℤ). spec_has_nested (shown c.get.result) k) same ∙ ap (λ (o : Option spelled.ValueTypeModel). spec_has_nested o id) names in
    ap (λ (b : Bool). not b) inside ∙ sym (ap (λ (b : Bool). not b && not (spec_has_nested (lookup (is_at (int_cmp other)) (value_types_of es)) id)) apart)
