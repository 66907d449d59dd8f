use mir.Syntax.{w64}
use mir.Val.{to_z, of_z}
use Rattle.std.proofs.Common.{rules, ◌≡◌, Bool, true, false, Option, Some, None, sym, ap, ◌∙◌}
use Rattle.std.proofs.lemmas.Int.{to_z-of_z}
use Rattle.std.specs.Prelude.{ℤ}
use Rattle.std.specs.Option.{option_map}
use Rattle.std.specs.List.{list_any}
use Rattle.std.specs.Map.{lookup}
use Rattle.std.specs.BTreeMap.{is_at}
use Rattle.std.specs.Ordering.{int_cmp}
use Rattle.ipc_schema.specs.Dictionaries as spelled
use Rattle.ipc_schema.specs.DictionaryModels.{value_type_of, value_types_of}
use Rattle.ipc_schema.specs.declared.dictionaries.DictionaryValueType.{DictionaryValueType}
use Rattle.ipc.specs.Streams.{spec_has_dictionary, named_by}
use Rattle.ipc.proofs.Entries.{viewed_found}
use Rattle.ipc.proofs.dictionary.values_named.Goals as goal

pub returns-in-Some : goal.returns-in-Some
returns-in-Some c =
    let es = c.args.picked.now.dictionaries.named.entries in
    let same : to_z w64 (of_z w64 c.args.id) ≡ c.args.id = to_z-of_z w64 c.args.id c.ranges.id in
    let some : lookup (is_at (int_cmp c.args.id)) es ≡ Some c.in-Some.values.now = ap (λ (k : ℤ). lookup (is_at (int_cmp k)) es) (sym same) ∙ sym c.in-Some.ensures.value in
    let found : lookup (is_at (int_cmp c.args.id)) (value_types_of es) ≡ Some (value_type_of c.in-Some.values.now) = viewed_found value_type_of (is_at (int_cmp c.args.id)) es ∙ ap (λ (v : Option DictionaryValueType). option_map value_type_of v) some in
    ap (λ (v : Option spelled.ValueTypeModel). named_by v (list_any spec_has_dictionary c.args.picked.now.steps.items)) found

pub returns-in-None : goal.returns-in-None
returns-in-None c =
    let es = c.args.picked.now.dictionaries.named.entries in
    let same : to_z w64 (of_z w64 c.args.id) ≡ c.args.id = to_z-of_z w64 c.args.id c.ranges.id in
    let none : lookup (is_at (int_cmp c.args.id)) es ≡ None = ap (λ (k : ℤ). lookup (is_at (int_cmp k)) es) (sym same) ∙ sym c.in-None.ensures.value in
    let found : lookup (is_at (int_cmp c.args.id)) (value_types_of es) ≡ None = viewed_found value_type_of (is_at (int_cmp c.args.id)) es ∙ ap (λ (v : Option DictionaryValueType). option_map value_type_of v) none in
    let passed : list_any spec_has_dictionary c.args.picked.now.steps.items ≡ true = search rules in
    ap (λ (v : Option spelled.ValueTypeModel). named_by v (list_any spec_has_dictionary c.args.picked.now.steps.items)) found ∙ ap (λ (b : Bool). named_by None b) passed

pub returns-in-None-2 : goal.returns-in-None-2
returns-in-None-2 c = λ known.
    let es = c.args.picked.now.dictionaries.named.entries in
    let same : to_z w64 (of_z w64 c.args.id) ≡ c.args.id = to_z-of_z w64 c.args.id c.ranges.id in
    let none : lookup (is_at (int_cmp c.args.id)) es ≡ None = ap (λ (k : ℤ). lookup (is_at (int_cmp k)) es) (sym same) ∙ sym c.in-None.ensures.value in
    let found : lookup (is_at (int_cmp c.args.id)) (value_types_of es) ≡ None = viewed_found value_type_of (is_at (int_cmp c.args.id)) es ∙ ap (λ (v : Option DictionaryValueType). option_map value_type_of v) none in
    let passed : list_any spec_has_dictionary c.args.picked.now.steps.items ≡ false = search rules in
    ap (λ (v : Option spelled.ValueTypeModel). named_by v (list_any spec_has_dictionary c.args.picked.now.steps.items)) found ∙ ap (λ (b : Bool). named_by None b) passed
