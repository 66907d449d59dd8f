-- The value types of ids in the Rust map and in its model.
use Rattle.std.proofs.Common.{◌≡◌, Bool, true, false, cond, List, [], ◌∷◌, Option, Some, None, Ok, Err, refl, sym, ap, ◌∙◌}
use Rattle.std.specs.Prelude.{ℤ, unwrap_or}
use Rattle.std.specs.Option.{option_map}
use Rattle.std.specs.Map.{lookup}
use Rattle.std.specs.BTreeMap.{insert_entry}
use Rattle.std.specs.Ordering.{int_cmp, match_ordering}
use Rattle.std.specs.declared.cmp.Ordering.{Ordering}
use Rattle.std.specs.declared.cmp.Ordering.TheVariants.{Less, Equal, Greater}
use Rattle.ipc_flatbuf.specs.declared.error.IpcReadError.TheVariants.{DictionaryType}
use Rattle.ipc_schema.specs.Dictionaries as spelled
use Rattle.ipc_schema.specs.Dictionaries.{spec_same_values, spec_name_values}
use Rattle.ipc_schema.specs.DictionaryModels.{value_type_of, value_types_of}
use Rattle.ipc_schema.specs.declared.dictionaries.DictionaryValueType.{DictionaryValueType}

abbrev pub Named : Type 0
Named = List (ℤ × DictionaryValueType)

abbrev SpelledNamed : Type 0
SpelledNamed = List (ℤ × spelled.ValueTypeModel)

found_both : (b : Bool) (v : DictionaryValueType) (m : Option spelled.ValueTypeModel) (n : Option DictionaryValueType) → m ≡ option_map value_type_of n → cond b (Some (value_type_of v)) m ≡ option_map value_type_of (cond b (Some v) n)
found_both true v m n same = refl
found_both false v m n same = same

pub named_found : (test : ℤ → Bool) (es : Named) → lookup test (value_types_of es) ≡ option_map value_type_of (lookup test es)
named_found test [] = refl
named_found test (e ∷ es) = found_both (test e.0) e.1 (lookup test (value_types_of es)) (lookup test es) (named_found test es)

match_both : (o : Ordering) (a b c : Named) → value_types_of (match_ordering o a b c) ≡ match_ordering o (value_types_of a) (value_types_of b) (value_types_of c)
match_both Less a b c = refl
match_both Equal a b c = refl
match_both Greater a b c = refl

pub named_more : (es : Named) (id : ℤ) (new : DictionaryValueType) → value_types_of (insert_entry int_cmp es id new) ≡ insert_entry int_cmp (value_types_of es) id (value_type_of new)
named_more [] id new = refl
named_more (e ∷ es) id new =
    match_both (int_cmp id e.0) ((id, new) ∷ e ∷ es) ((e.0, new) ∷ es) (e ∷ insert_entry int_cmp es id new)
    ∙ ap (λ (rest : SpelledNamed). match_ordering (int_cmp id e.0) ((id, value_type_of new) ∷ value_types_of (e ∷ es)) ((e.0, value_type_of new) ∷ value_types_of es) ((e.0, value_type_of e.1) ∷ rest)) (named_more es id new)

pub name_kept : (id : ℤ) (new : spelled.ValueTypeModel) (seen : spelled.DictionaryTypesModel) (old : Option spelled.ValueTypeModel) → Some true ≡ option_map (λ v. spec_same_values v new) old → spec_name_values id new seen old ≡ Ok seen
name_kept id new seen None h = absurd (cc h)
name_kept id new seen (Some v) h =
    let same : spec_same_values v new ≡ true = sym (ap (λ (b : Option Bool). unwrap_or b false) h) in
    rw same refl

pub name_refused : (id : ℤ) (new : spelled.ValueTypeModel) (seen : spelled.DictionaryTypesModel) (old : Option spelled.ValueTypeModel) → Some false ≡ option_map (λ v. spec_same_values v new) old → spec_name_values id new seen old ≡ Err DictionaryType
name_refused id new seen None h = absurd (cc h)
name_refused id new seen (Some v) h =
    let differs : spec_same_values v new ≡ false = sym (ap (λ (b : Option Bool). unwrap_or b true) h) in
    rw differs refl
