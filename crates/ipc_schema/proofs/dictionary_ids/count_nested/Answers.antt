use Rattle.std.proofs.Common.{◌≡◌, Option, Some, None, length, sym, ap, ◌∙◌, arith}
use Rattle.std.specs.Option.{option_map}
use Rattle.std.specs.Map.{lookup}
use Rattle.std.specs.BTreeMap.{is_at}
use Rattle.std.specs.Ordering.{int_cmp}
use Rattle.ipc_schema.specs.Dictionaries as spelled
use Rattle.ipc_schema.specs.DictionaryModels.{value_type_of, value_types_of}
use Rattle.ipc_schema.specs.OutermostIds.{nested_count}
use Rattle.ipc_schema.specs.declared.dictionaries.DictionaryValueType.{DictionaryValueType}
use Rattle.ipc_schema.proofs.Named.{named_found}
use Rattle.ipc_schema.proofs.dictionary_ids.count_nested.Goals as goal

pub returns-in-None : goal.returns-in-None
returns-in-None c =
    let test = is_at (int_cmp c.args.id.now) in
    let es = c.args.dictionaries.now.named.entries in
    let none : lookup test es ≡ None = sym c.in-None.ensures.value in
    let found : lookup test (value_types_of es) ≡ None = named_found test es ∙ ap (λ (v : Option DictionaryValueType). option_map value_type_of v) none in
    sym (ap (λ (v : Option spelled.ValueTypeModel). nested_count v) found)

pub returns-in-Some : goal.returns-in-Some
returns-in-Some c =
    let test = is_at (int_cmp c.args.id.now) in
    let es = c.args.dictionaries.now.named.entries in
    let some : lookup test es ≡ Some c.in-Some.values.now = sym c.in-Some.ensures.value in
    let found : lookup test (value_types_of es) ≡ Some (value_type_of c.in-Some.values.now) = named_found test es ∙ ap (λ (v : Option DictionaryValueType). option_map value_type_of v) some in
    let long : c.len.result ≡ length c.in-Some.values.now.inside.items = omega (arith, c.len.ensures, c.in-Some.values.now.inside.ok) in
    long ∙ sym (ap (λ (v : Option spelled.ValueTypeModel). nested_count v) found)
