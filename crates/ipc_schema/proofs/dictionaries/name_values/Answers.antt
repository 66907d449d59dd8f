use mir.Syntax.{w64}
use mir.Val.{to_z, of_z}
use Rattle.std.proofs.Common.{◌≡◌, Bool, Option, ap, ◌∙◌}
use Rattle.std.proofs.lemmas.Int.{to_z-of_z}
use Rattle.std.specs.Prelude.{ℤ}
use Rattle.std.specs.Option.{option_map}
use Rattle.std.specs.Map.{lookup}
use Rattle.std.specs.BTreeMap.{is_at}
use Rattle.std.specs.Ordering.{int_cmp}
use Rattle.ipc_schema.specs.Dictionaries.{spec_same_values}
use Rattle.ipc_schema.specs.DictionaryModels.{value_type_of, value_types_of, seen_of}
use Rattle.ipc_schema.proofs.Named.{name_kept, name_refused}
use Rattle.ipc_schema.proofs.dictionaries.name_values.Goals as goal

pub returns-in-Some-true : goal.returns-in-Some-true
returns-in-Some-true c =
    let at : ℤ → Option Bool = λ id. option_map (λ v. spec_same_values v (value_type_of c.args.new)) (lookup (is_at (int_cmp id)) (value_types_of c.args.seen.now.named.entries)) in
    let same : to_z w64 (of_z w64 c.args.id) ≡ c.args.id = to_z-of_z w64 c.args.id c.ranges.id in
    name_kept c.args.id (value_type_of c.args.new) (seen_of c.args.seen.now) (lookup (is_at (int_cmp c.args.id)) (value_types_of c.args.seen.now.named.entries)) ((rw c.in-Some-true.field-0-test at c.in-Some-true.ensures) ∙ ap at same)

pub returns : goal.returns
returns c = λ known.
    let at : ℤ → Option Bool = λ id. option_map (λ v. spec_same_values v (value_type_of c.args.new)) (lookup (is_at (int_cmp id)) (value_types_of c.args.seen.now.named.entries)) in
    let same : to_z w64 (of_z w64 c.args.id) ≡ c.args.id = to_z-of_z w64 c.args.id c.ranges.id in
    name_refused c.args.id (value_type_of c.args.new) (seen_of c.args.seen.now) (lookup (is_at (int_cmp c.args.id)) (value_types_of c.args.seen.now.named.entries)) ((rw c.in-Some-false.field-0-test at c.in-Some-false.ensures) ∙ ap at same)
