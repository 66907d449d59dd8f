-- The outermost ids of fields are those of the dictionaries of the record batch.
use Rattle.std.proofs.Common.{◌≡◌, ℕ, zero, suc, ◌+◌, ◌≤◌, Bool, true, false, cond, ltb, List, [], ◌∷◌, ◌++◌, length, drop, Option, Some, None, refl, sym, ap, ◌∙◌, append_assoc, arith}
use Rattle.std.specs.Prelude.{ℤ, pos}
use Rattle.std.specs.BTreeMap.{is_at}
use Rattle.std.specs.List.{AllByRecursion}
use Rattle.std.specs.Map.{lookup}
use Rattle.std.specs.Ordering.{int_cmp}
use Rattle.std.proofs.lemmas.Bool.{le-ltb}
use Rattle.std.proofs.lemmas.List.{append-nil, drop_at}
use Rattle.nest_memory.specs.TypeTree.{TypeTree, FieldTree, field_type}
use Rattle.ipc_schema.specs.Dictionaries.{ValueTypeModel, no_dictionaries}
use Rattle.ipc_schema.specs.Types.{spec_children_of}
use Rattle.ipc_schema.specs.Extensions.{spec_storage_type, spec_table_type}
use Rattle.ipc_schema.specs.DictionaryIds.{index_type_of, next_after, next_after_own, total, each_from, count_dictionaries, ids_from, own_value_types, flattened, value_types_from, types_after_all}
use Rattle.ipc_schema.specs.DictionaryIdLaws.{Keys, ids_more, AreWithin, within_more, greater, named_within, all_within}
use Rattle.ipc_schema.specs.OutermostIds.{ValueTypes, nested_count, spec_count_nested, spec_outermost_ids, no_outermost_ids, outermost_first}

-- ---- the dictionary ids of columns

-- the id of the field where it is dictionary-encoded, else those of its children
abbrev pub own_id_or : Keys → ℕ → List ℤ → List ℤ
own_id_or None next inside = inside
own_id_or (Some keys) next inside = pos next ∷ []

-- the dictionary ids of a field, to a depth, without those nested in a value type
unfoldable pub column_ids_from : ℕ → ℕ → FieldTree → List ℤ
column_ids_from zero next f = []
column_ids_from (suc depth) next f = own_id_or (index_type_of (spec_storage_type (field_type f))) next (flattened (each_from (count_dictionaries depth) (column_ids_from depth) (next_after_own (field_type f) next) (spec_children_of (spec_table_type (field_type f)))))

abbrev pub column_ids : List FieldTree → List ℤ
column_ids fields = flattened (each_from (count_dictionaries 64) (column_ids_from 64) 0 fields)

-- ---- lookup

-- each id has its value type
abbrev pub Has : ValueTypes → ValueTypes → Type 0
Has named some = AllByRecursion (λ e. lookup (is_at (int_cmp e.0)) named ≡ Some e.1) some

has_parts : (named xs ys : ValueTypes) → Has named (xs ++ ys) → Has named xs × Has named ys
has_parts named [] ys has = (tt, has)
has_parts named (x ∷ xs) ys (one, has) = let parts = has_parts named xs ys has in ((one, parts.0), parts.1)

has_both : (named xs ys : ValueTypes) → Has named xs → Has named ys → Has named (xs ++ ys)
has_both named [] ys xs-are ys-are = ys-are
has_both named (x ∷ xs) ys (one, has) ys-are = (one, has_both named xs ys has ys-are)

one_found : (b : Bool) (v w : ValueTypeModel) (old new : Option ValueTypeModel) → (old ≡ Some w → new ≡ Some w) → cond b (Some v) old ≡ Some w → cond b (Some v) new ≡ Some w
one_found true v w old new more h = h
one_found false v w old new more h = more h

found_in_front : (test : ℤ → Bool) (w : ValueTypeModel) (xs ys : ValueTypes) → lookup test xs ≡ Some w → lookup test (xs ++ ys) ≡ Some w
found_in_front test w [] ys h = absurd (cc h)
found_in_front test w (x ∷ xs) ys h = one_found (test x.0) x.1 w (lookup test xs) (lookup test (xs ++ ys)) (found_in_front test w xs ys) h

has_in_front : (xs ys some : ValueTypes) → Has xs some → Has (xs ++ ys) some
has_in_front xs ys [] has = tt
has_in_front xs ys (e ∷ es) (one, has) = (found_in_front (is_at (int_cmp e.0)) e.1 xs ys one, has_in_front xs ys es has)

-- an id greater than all before it is found after them
found_behind : (k n : ℕ) (xs ys : ValueTypes) → AreWithin 0 n xs → n ≤ k → lookup (is_at (int_cmp (pos k))) (xs ++ ys) ≡ lookup (is_at (int_cmp (pos k))) ys
found_behind k n [] ys are le = refl
found_behind k n (x ∷ xs) ys (one, rest) le = rw (one.1, greater k one.0 (omega (arith, one.3, le))) (found_behind k n xs ys rest le)

has_behind : (n end : ℕ) (xs ys some : ValueTypes) → AreWithin 0 n xs → AreWithin n end some → Has ys some → Has (xs ++ ys) some
has_behind n end xs ys [] front are has = tt
has_behind n end xs ys (e ∷ es) front (one, rest) (found, has) =
    let same : lookup (is_at (int_cmp e.0)) (xs ++ ys) ≡ lookup (is_at (int_cmp e.0)) ys = rw one.1 (found_behind one.0 n xs ys front one.2) in
    (same ∙ found, has_behind n end xs ys es front rest has)

has_together : (n end : ℕ) (xs ys : ValueTypes) → AreWithin 0 n xs → AreWithin n end ys → Has xs xs → Has ys ys → Has (xs ++ ys) (xs ++ ys)
has_together n end xs ys front are xs-has ys-has = has_both (xs ++ ys) xs ys (has_in_front xs ys xs xs-has) (has_behind n end xs ys ys front are ys-has)

own_within : (keys : Keys) (id inner : ℕ) (values : TypeTree) → AreWithin 0 (next_after keys id) (own_value_types keys id values inner)
own_within None id inner values = tt
own_within (Some keys) id inner values = ((id, refl, omega arith, omega arith), tt)

own_has : (keys : Keys) (id inner : ℕ) (values : TypeTree) → Has (own_value_types keys id values inner) (own_value_types keys id values inner)
own_has None id inner values = tt
own_has (Some keys) id inner values = let a : ltb id id ≡ false = le-ltb id id (omega arith) in (rw a refl, tt)

each_has : (depth : ℕ) → ((next : ℕ) (f : FieldTree) → Has (value_types_from depth next f) (value_types_from depth next f)) → (next : ℕ) (fs : List FieldTree)
    → Has (flattened (each_from (count_dictionaries depth) (value_types_from depth) next fs)) (flattened (each_from (count_dictionaries depth) (value_types_from depth) next fs))
unfolding each_from flattened
each_has depth one next [] = tt
each_has depth one next (f ∷ fs) =
    let end : ℕ = next + count_dictionaries depth f in
    let front : AreWithin 0 end (value_types_from depth next f) = within_more 0 end next end (value_types_from depth next f) (omega arith) (omega arith) (named_within depth next f) in
    has_together end (end + total (count_dictionaries depth) fs) (value_types_from depth next f) (flattened (each_from (count_dictionaries depth) (value_types_from depth) end fs)) front (all_within depth end fs) (one next f) (each_has depth one end fs)

named_has : (depth next : ℕ) (f : FieldTree) → Has (value_types_from depth next f) (value_types_from depth next f)
unfolding value_types_from
named_has zero next f = tt
named_has (suc depth) next f =
    let keys : Keys = index_type_of (spec_storage_type (field_type f)) in
    let cs : List FieldTree = spec_children_of (spec_table_type (field_type f)) in
    let inner : ℕ = total (count_dictionaries depth) cs in
    let own : ValueTypes = own_value_types keys next (spec_table_type (field_type f)) inner in
    has_together (next_after keys next) (next_after keys next + inner) own (flattened (each_from (count_dictionaries depth) (value_types_from depth) (next_after keys next) cs)) (own_within keys next inner (spec_table_type (field_type f))) (all_within depth (next_after keys next) cs)
    (own_has keys next inner (spec_table_type (field_type f))) (each_has depth (named_has depth) (next_after keys next) cs)

-- each id of the fields has a value type
pub all_are_found : (depth next : ℕ) (fs : List FieldTree) → Has (flattened (each_from (count_dictionaries depth) (value_types_from depth) next fs)) (flattened (each_from (count_dictionaries depth) (value_types_from depth) next fs))
all_are_found depth next fs = each_has depth (named_has depth) next fs

-- ---- the outermost ids

abbrev IsOuter : ℕ → FieldTree → Type 0
IsOuter depth f = (next : ℕ) (named : ValueTypes) (rest : List ℤ) → Has named (value_types_from depth next f) → spec_outermost_ids named (ids_from next (count_dictionaries depth f) ++ rest) ≡ column_ids_from depth next f ++ spec_outermost_ids named rest

each_outer : (depth : ℕ) → ((f : FieldTree) → IsOuter depth f) → (fs : List FieldTree) (next : ℕ) (named : ValueTypes) (rest : List ℤ) → Has named (flattened (each_from (count_dictionaries depth) (value_types_from depth) next fs))
    → spec_outermost_ids named (ids_from next (total (count_dictionaries depth) fs) ++ rest) ≡ flattened (each_from (count_dictionaries depth) (column_ids_from depth) next fs) ++ spec_outermost_ids named rest
unfolding total each_from flattened ids_from
each_outer depth one [] next named rest has = refl
each_outer depth one (f ∷ fs) next named rest has =
    let n : ℕ = count_dictionaries depth f in
    let m : ℕ = total (count_dictionaries depth) fs in
    let own : List ℤ = column_ids_from depth next f in
    let others : List ℤ = flattened (each_from (count_dictionaries depth) (column_ids_from depth) (next + n) fs) in
    let parts = has_parts named (value_types_from depth next f) (flattened (each_from (count_dictionaries depth) (value_types_from depth) (next + n) fs)) has in
    let split : ids_from next (n + m) ++ rest ≡ ids_from next n ++ (ids_from (next + n) m ++ rest) = ap (λ (l : List ℤ). l ++ rest) (ids_more next n m) ∙ append_assoc (ids_from next n) (ids_from (next + n) m) rest in
    ap (λ (l : List ℤ). spec_outermost_ids named l) split
    ∙ one f next named (ids_from (next + n) m ++ rest) parts.0
    ∙ ap (λ (l : List ℤ). own ++ l) (each_outer depth one fs (next + n) named rest parts.1)
    ∙ sym (append_assoc own others (spec_outermost_ids named rest))

by_keys : (depth : ℕ) → ((f : FieldTree) → IsOuter depth f) → (keys : Keys) (next : ℕ) (values : TypeTree) (cs : List FieldTree) (named : ValueTypes) (rest : List ℤ)
    → Has named (own_value_types keys next values (total (count_dictionaries depth) cs) ++ flattened (each_from (count_dictionaries depth) (value_types_from depth) (next_after keys next) cs))
    → spec_outermost_ids named (ids_from next (next_after keys (total (count_dictionaries depth) cs)) ++ rest) ≡ own_id_or keys next (flattened (each_from (count_dictionaries depth) (column_ids_from depth) (next_after keys next) cs)) ++ spec_outermost_ids named rest
unfolding ids_from
by_keys depth one None next values cs named rest has = each_outer depth one cs next named rest has
by_keys depth one (Some keys) next values cs named rest has =
    let n : ℕ = total (count_dictionaries depth) cs in
    let inside : List ℤ = ids_from (suc next) n in
    let count : spec_count_nested named (pos next) ≡ length inside = ap nested_count has.0 in
    let left : drop (spec_count_nested named (pos next)) (inside ++ rest) ≡ rest = drop_at inside rest (spec_count_nested named (pos next)) (sym count) in
    outermost_first named (pos next) (inside ++ rest) ∙ ap (λ (l : List ℤ). pos next ∷ spec_outermost_ids named l) left

own_outer : (depth : ℕ) (f : FieldTree) → IsOuter depth f
unfolding count_dictionaries value_types_from column_ids_from ids_from
own_outer zero f next named rest has = refl
own_outer (suc depth) f next named rest has = by_keys depth (own_outer depth) (index_type_of (spec_storage_type (field_type f))) next (spec_table_type (field_type f)) (spec_children_of (spec_table_type (field_type f))) named rest has

-- of consecutive ids, among any others and followed by any others
pub outermost_is : (depth next : ℕ) (fs : List FieldTree) (named : ValueTypes) (rest : List ℤ) → Has named (flattened (each_from (count_dictionaries depth) (value_types_from depth) next fs))
    → spec_outermost_ids named (ids_from next (total (count_dictionaries depth) fs) ++ rest) ≡ flattened (each_from (count_dictionaries depth) (column_ids_from depth) next fs) ++ spec_outermost_ids named rest
outermost_is depth next fs named rest has = each_outer depth (own_outer depth) fs next named rest has

-- of a schema
pub outermost_ids_are_column_ids : (fs : List FieldTree) → spec_outermost_ids (types_after_all 64 0 fs no_dictionaries).named (types_after_all 64 0 fs no_dictionaries).ids ≡ column_ids fs
outermost_ids_are_column_ids fs =
    let named : ValueTypes = flattened (each_from (count_dictionaries 64) (value_types_from 64) 0 fs) in
    let ids : List ℤ = ids_from 0 (total (count_dictionaries 64) fs) in
    ap (λ (l : List ℤ). spec_outermost_ids named l) (sym (append-nil ids)) ∙ outermost_is 64 0 fs named [] (all_are_found 64 0 fs) ∙ ap (λ (l : List ℤ). column_ids fs ++ l) (no_outermost_ids named) ∙ append-nil (column_ids fs)
