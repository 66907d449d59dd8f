-- The dictionaries of fields with consecutive ids: each id is new and has its value type.
use Rattle.std.proofs.Common.{◌≡◌, ℕ, zero, suc, ◌+◌, ◌<◌, ◌≤◌, Bool, true, false, ltb, List, [], ◌∷◌, ◌++◌, length, drop, Option, Some, None, Ok, refl, ap, ◌∙◌, subst, append_assoc, arith}
use Rattle.std.specs.Prelude.{ℤ, pos, ◌||◌, is_some}
use Rattle.std.specs.BTreeMap.{insert_entry, is_at}
use Rattle.std.specs.List.{AllByRecursion, list_any}
use Rattle.std.specs.Map.{lookup}
use Rattle.std.specs.Ordering.{int_cmp}
use Rattle.std.specs.declared.cmp.Ordering.TheVariants.{Less, Greater}
use Rattle.std.proofs.lemmas.Bool.{lt-ltb, le-ltb}
use Rattle.nest_memory.specs.TypeTree as types
use Rattle.nest_memory.specs.TypeTree.{TypeTree, FieldTree, field_type, logical_type}
use Rattle.nest_memory.specs.declared.datatypes.IntegerType.{IntegerType}
use Rattle.ipc_schema.specs.Dictionaries.{ValueTypeModel, DictionaryTypesModel, no_dictionaries, spec_record_id, spec_record_values, spec_with_encoding}
use Rattle.ipc_schema.specs.Types.{spec_children_of}
use Rattle.ipc_schema.specs.Extensions.{spec_storage_type, values_type, spec_table_type}
use Rattle.ipc_schema.specs.StoredTypes.{spec_other_storage}
use Rattle.ipc_schema.specs.DictionaryIds.{index_type_of, encoding_with_id, next_after, total, each_from, count_dictionaries, count_all, spec_has_dictionary, have_dictionary, ids_from, own_value_types, flattened, value_types_from, with_ids_from, types_after_all}

abbrev pub Keys : Type 0
Keys = Option (IntegerType × Bool)

-- the encoding and the value type give the type
pub encoding_round_trips : (id : ℕ) (type : TypeTree) → spec_with_encoding (encoding_with_id id (index_type_of type)) (values_type type) ≡ type
encoding_round_trips id types.null = refl
encoding_round_trips id types.boolean = refl
encoding_round_trips id types.int8 = refl
encoding_round_trips id types.int16 = refl
encoding_round_trips id types.int32 = refl
encoding_round_trips id types.int64 = refl
encoding_round_trips id types.uint8 = refl
encoding_round_trips id types.uint16 = refl
encoding_round_trips id types.uint32 = refl
encoding_round_trips id types.uint64 = refl
encoding_round_trips id types.float16 = refl
encoding_round_trips id types.float32 = refl
encoding_round_trips id types.float64 = refl
encoding_round_trips id (types.timestamp a b) = refl
encoding_round_trips id types.date32 = refl
encoding_round_trips id types.date64 = refl
encoding_round_trips id (types.time32 a) = refl
encoding_round_trips id (types.time64 a) = refl
encoding_round_trips id (types.duration a) = refl
encoding_round_trips id (types.interval a) = refl
encoding_round_trips id types.binary = refl
encoding_round_trips id (types.fixed_size_binary a) = refl
encoding_round_trips id types.large_binary = refl
encoding_round_trips id types.utf8 = refl
encoding_round_trips id types.large_utf8 = refl
encoding_round_trips id (types.list a) = refl
encoding_round_trips id (types.fixed_size_list a b) = refl
encoding_round_trips id (types.large_list a) = refl
encoding_round_trips id (types.struct a) = refl
encoding_round_trips id (types.union a b c) = refl
encoding_round_trips id (types.map a b) = refl
encoding_round_trips id (types.dictionary a b c) = refl
encoding_round_trips id (types.decimal a b) = refl
encoding_round_trips id (types.decimal256 a b) = refl
encoding_round_trips id (types.extension a b c) = refl

-- ---- consecutive ids

pub ids_more : (next a b : ℕ) → ids_from next (a + b) ≡ ids_from next a ++ ids_from (next + a) b
unfolding ids_from
ids_more next zero b =
    let k : 0 + b ≡ b = omega arith in
    let e : next ≡ next + 0 = omega arith in
    ap (λ (n : ℕ). ids_from next n) k ∙ ap (λ (n : ℕ). ids_from n b) e
ids_more next (suc a) b =
    let k : suc a + b ≡ suc (a + b) = omega arith in
    let e : suc next + a ≡ next + suc a = omega arith in
    ap (λ (n : ℕ). ids_from next n) k ∙ ap (λ (l : List ℤ). pos next ∷ l) (ids_more (suc next) a b ∙ ap (λ (n : ℕ). ids_from (suc next) a ++ ids_from n b) e)

-- ---- their value types

-- each id is in a range
abbrev pub AreWithin : ℕ → ℕ → List (ℤ × ValueTypeModel) → Type 0
AreWithin first end named = AllByRecursion (λ e. (id : ℕ) × (e.0 ≡ pos id) × (first ≤ id) × (id < end)) named

pub within_more : (first end a b : ℕ) (named : List (ℤ × ValueTypeModel)) → first ≤ a → b ≤ end → AreWithin a b named → AreWithin first end named
within_more first end a b [] low high are = tt
within_more first end a b (e ∷ es) low high (one, rest) = ((one.0, one.1, omega (arith, one.2), omega (arith, one.3)), within_more first end a b es low high rest)

pub within_both : (first end : ℕ) (xs ys : List (ℤ × ValueTypeModel)) → AreWithin first end xs → AreWithin first end ys → AreWithin first end (xs ++ ys)
within_both first end [] ys xs-are ys-are = ys-are
within_both first end (x ∷ xs) ys (one, rest) ys-are = (one, within_both first end xs ys rest ys-are)

pub greater : (n k : ℕ) → k < n → int_cmp (pos n) (pos k) ≡ Greater
greater n k lt =
    let a : ltb n k ≡ false = le-ltb n k (omega arith) in
    let b : ltb k n ≡ true = lt-ltb k n lt in
    rw (a, b) refl

less : (n k : ℕ) → n < k → int_cmp (pos n) (pos k) ≡ Less
less n k lt =
    let a : ltb n k ≡ true = lt-ltb n k lt in
    rw a refl

-- a new id is absent, and is inserted before the greater ones
none_of_greater : (n end : ℕ) (named : List (ℤ × ValueTypeModel)) → AreWithin (suc n) end named → lookup (is_at (int_cmp (pos n))) named ≡ None
none_of_greater n end [] are = refl
none_of_greater n end (e ∷ es) (one, rest) = rw (one.1, less n one.0 (omega (arith, one.2))) (none_of_greater n end es rest)

pub is_new : (n end : ℕ) (old inside : List (ℤ × ValueTypeModel)) → AreWithin 0 n old → AreWithin (suc n) end inside → lookup (is_at (int_cmp (pos n))) (old ++ inside) ≡ None
is_new n end [] inside old-are are = none_of_greater n end inside are
is_new n end (e ∷ es) inside (one, rest) are = rw (one.1, greater n one.0 one.3) (is_new n end es inside rest are)

first_of_greater : (n end : ℕ) (new : ValueTypeModel) (named : List (ℤ × ValueTypeModel)) → AreWithin (suc n) end named → insert_entry int_cmp named (pos n) new ≡ (pos n, new) ∷ named
first_of_greater n end new [] are = refl
first_of_greater n end new (e ∷ es) (one, rest) = rw (one.1, less n one.0 (omega (arith, one.2))) refl

pub goes_between : (n end : ℕ) (new : ValueTypeModel) (old inside : List (ℤ × ValueTypeModel)) → AreWithin 0 n old → AreWithin (suc n) end inside → insert_entry int_cmp (old ++ inside) (pos n) new ≡ old ++ (pos n, new) ∷ inside
goes_between n end new [] inside old-are are = first_of_greater n end new inside are
goes_between n end new (e ∷ es) inside (one, rest) are = rw (one.1, greater n one.0 one.3) (ap (λ (l : List (ℤ × ValueTypeModel)). (pos one.0, e.1) ∷ l) (goes_between n end new es inside rest are))

-- ---- of one field

behind_one : {A : Type 0} (xs : List A) (x : A) (ys : List A) → drop (suc (length xs)) ((xs ++ x ∷ []) ++ ys) ≡ ys
behind_one [] x ys = refl
behind_one (y ∷ xs) x ys = behind_one xs x ys

-- after the ids of its children the id of a field is added, and it is new
pub own_is_new : (keys : Keys) (id inner end : ℕ) (values : TypeTree) (seen : DictionaryTypesModel) (inside : List (ℤ × ValueTypeModel)) → AreWithin 0 id seen.named → AreWithin (next_after keys id) end inside → spec_other_storage values ≡ None
    → spec_record_values (encoding_with_id id keys) values (length seen.ids) (with_ids_from (next_after keys id) inner inside (spec_record_id (encoding_with_id id keys) seen)) ≡ Ok (with_ids_from id (next_after keys inner) (own_value_types keys id values inner ++ inside) seen)
unfolding ids_from
own_is_new None id inner end values seen inside old are plain = refl
own_is_new (Some keys) id inner end values seen inside old are plain =
    rw (plain, behind_one seen.ids (pos id) (ids_from (suc id) inner), is_new id end seen.named inside old are, goes_between id end (record { values = logical_type values; inside = ids_from (suc id) inner }) seen.named inside old are, append_assoc seen.ids (pos id ∷ []) (ids_from (suc id) inner)) refl

own_within : (keys : Keys) (id inner : ℕ) (values : TypeTree) → AreWithin id (next_after keys id + inner) (own_value_types keys id values inner)
own_within None id inner values = tt
own_within (Some keys) id inner values = ((id, refl, omega arith, omega arith), tt)

pub behind_counts : (keys : Keys) (next n : ℕ) → next_after keys next + n ≡ next + next_after keys n
behind_counts None next n = refl
behind_counts (Some keys) next n = omega arith

pub behind_is : (keys : Keys) (n : ℕ) → n ≤ next_after keys n
behind_is None n = omega arith
behind_is (Some keys) n = omega arith

pub behind_at_most : (keys : Keys) (n : ℕ) → next_after keys n ≤ 1 + n
behind_at_most None n = omega arith
behind_at_most (Some keys) n = omega arith

-- ---- of fields

each_within : (count : FieldTree → ℕ) (named : ℕ → FieldTree → List (ℤ × ValueTypeModel)) → ((next : ℕ) (f : FieldTree) → AreWithin next (next + count f) (named next f))
    → (next : ℕ) (fs : List FieldTree) → AreWithin next (next + total count fs) (flattened (each_from count named next fs))
unfolding total each_from flattened
each_within count named one next [] = tt
each_within count named one next (f ∷ fs) =
    let first = within_more next (next + (count f + total count fs)) next (next + count f) (named next f) (omega arith) (omega arith) (one next f) in
    let rest = within_more next (next + (count f + total count fs)) (next + count f) (next + count f + total count fs) (flattened (each_from count named (next + count f) fs)) (omega arith) (omega arith) (each_within count named one (next + count f) fs) in
    within_both next (next + (count f + total count fs)) (named next f) (flattened (each_from count named (next + count f) fs)) first rest

pub named_within : (depth next : ℕ) (f : FieldTree) → AreWithin next (next + count_dictionaries depth f) (value_types_from depth next f)
unfolding count_dictionaries value_types_from
named_within zero next f = tt
named_within (suc depth) next f =
    let keys : Keys = index_type_of (spec_storage_type (field_type f)) in
    let cs : List FieldTree = spec_children_of (spec_table_type (field_type f)) in
    let inner : ℕ = total (count_dictionaries depth) cs in
    let end : ℕ = next + next_after keys inner in
    let counts = behind_counts keys next inner in
    let own = within_more next end next (next_after keys next + inner) (own_value_types keys next (spec_table_type (field_type f)) inner) (omega arith) (omega (arith, counts)) (own_within keys next inner (spec_table_type (field_type f))) in
    let inside = within_more next end (next_after keys next) (next_after keys next + inner) (flattened (each_from (count_dictionaries depth) (value_types_from depth) (next_after keys next) cs)) (omega (arith, behind_is keys next)) (omega (arith, counts))
    (each_within (count_dictionaries depth) (value_types_from depth) (named_within depth) (next_after keys next) cs) in
    within_both next end (own_value_types keys next (spec_table_type (field_type f)) inner) (flattened (each_from (count_dictionaries depth) (value_types_from depth) (next_after keys next) cs)) own inside

pub all_within : (depth next : ℕ) (fs : List FieldTree) → AreWithin next (next + total (count_dictionaries depth) fs) (flattened (each_from (count_dictionaries depth) (value_types_from depth) next fs))
all_within depth next fs = each_within (count_dictionaries depth) (value_types_from depth) (named_within depth) next fs

pub each_long : {A : Type 0} (count : FieldTree → ℕ) (make : ℕ → FieldTree → A) (next : ℕ) (fs : List FieldTree) → length (each_from count make next fs) ≡ length fs
unfolding each_from
each_long count make next [] = refl
each_long count make next (f ∷ fs) = ap suc (each_long count make (next + count f) fs)

-- ---- without dictionaries

or_parts : (a b : Bool) → (a || b) ≡ false → (a ≡ false) × (b ≡ false)
or_parts true b h = absurd (cc h)
or_parts false b h = (refl, h)

behind_none : (keys : Keys) (n : ℕ) → is_some keys ≡ false → next_after keys n ≡ n
behind_none None n h = refl
behind_none (Some keys) n h = absurd (cc h)

each_none : (depth : ℕ) → ((f : FieldTree) → spec_has_dictionary depth f ≡ false → count_dictionaries depth f ≡ 0) → (fs : List FieldTree) → list_any (spec_has_dictionary depth) fs ≡ false → total (count_dictionaries depth) fs ≡ 0
unfolding total
each_none depth one [] none = refl
each_none depth one (f ∷ fs) none =
    let parts = or_parts (spec_has_dictionary depth f) (list_any (spec_has_dictionary depth) fs) none in
    omega (arith, one f parts.0, each_none depth one fs parts.1)

none_counted : (depth : ℕ) (f : FieldTree) → spec_has_dictionary depth f ≡ false → count_dictionaries depth f ≡ 0
unfolding spec_has_dictionary count_dictionaries
none_counted zero f none = refl
none_counted (suc depth) f none =
    let cs : List FieldTree = spec_children_of (spec_table_type (field_type f)) in
    let keys : Keys = index_type_of (spec_storage_type (field_type f)) in
    let parts = or_parts (is_some keys) (list_any (spec_has_dictionary depth) cs) none in
    behind_none keys (total (count_dictionaries depth) cs) parts.0 ∙ each_none depth (none_counted depth) cs parts.1

none_within : (named : List (ℤ × ValueTypeModel)) → AreWithin 0 0 named → named ≡ []
none_within [] are = refl
none_within (e ∷ es) (one, rest) = absurd (omega (arith, one.3))

-- there are no dictionaries
pub none_seen : (fs : List FieldTree) → have_dictionary fs ≡ false → types_after_all 64 0 fs no_dictionaries ≡ no_dictionaries
unfolding ids_from
none_seen fs none =
    let count : count_all fs ≡ 0 = each_none 64 (none_counted 64) fs none in
    let end : 0 + count_all fs ≡ 0 = omega (arith, count) in
    let named : flattened (each_from (count_dictionaries 64) (value_types_from 64) 0 fs) ≡ [] = none_within _ (subst (λ (n : ℕ). AreWithin 0 n (flattened (each_from (count_dictionaries 64) (value_types_from 64) 0 fs))) end (all_within 64 0 fs)) in
    rw (count, named) refl
