-- The ids of a written schema name the dictionaries of its columns: columns are numbered as the fields of their data types.
use Rattle.std.proofs.Common.{◌≡◌, ℕ, zero, suc, ◌+◌, Bool, true, false, List, [], ◌∷◌, ◌++◌, map, Option, Some, None, Ok, refl, sym, ap, subst, ◌∙◌, arith}
use Rattle.std.specs.Prelude.{ℤ, pos, is_some, not}
use Rattle.std.specs.BTreeMap.{is_at}
use Rattle.std.specs.List.{AllByRecursion}
use Rattle.std.specs.Map.{lookup}
use Rattle.std.specs.Ordering.{int_cmp}
use Rattle.std.proofs.lemmas.List.{append-nil, map-append}
use Rattle.nest_memory.specs.Physical.{physical_type, binary_of_width, utf8_of_width}
use Rattle.nest_memory.specs.TypeTree as types
use Rattle.nest_memory.specs.TypeTree.{Letters, TypeTree, FieldTree, FieldTrees, field, no_fields, more_fields, field_type, logical_type, item_type, fields_of, value_type}
use Rattle.nest_memory.specs.declared.datatypes.IntegerType.{IntegerType}
use Rattle.nest_memory.specs.declared.datatypes.physical_type.PhysicalType.{PhysicalType}
use Rattle.nest_memory.specs.declared.datatypes.physical_type.PhysicalType.TheVariants as physical
use Rattle.nest_model.specs.Array.{IsArray, AreArrays}
use Rattle.nest_model.specs.FactLaws.{binary-facts, text-facts, fixed_size_binary-facts, fixed_size_list-facts, list-facts, map-facts, struct-facts, union-facts, dictionary-facts}
use Rattle.nest_model.specs.Fits.{EachType, IsLogically}
use Rattle.nest_model.specs.Layout.{Layout, Layouts, null, boolean, primitive, binary, utf8, fixed_size_binary, fixed_size_list, list as list_of, map as map_of, struct, union, dictionary, no_layouts, more_layouts, layout_type}
use Rattle.ipc_flatbuf.specs.declared.error.IpcWriteError.TheVariants as write_errors
use Rattle.ipc_schema.specs.Dictionaries.{ValueTypeModel}
use Rattle.nest_memory.specs.declared.datatypes.floats.Precision.{Precision}
use Rattle.nest_memory.specs.declared.datatypes.floats.Precision.TheVariants.{Half, Single, Double}
use Rattle.nest_memory.specs.Floats.{spec_bits_type, spec_float_type, spec_precision_of, spec_is_float}
use Rattle.nest_memory.specs.FloatLaws.{float_is}
use Rattle.ipc_schema.specs.Extensions.{spec_storage_type, values_type, spec_table_type, spec_is_extension}
use Rattle.ipc_schema.specs.FieldLaws.{split, own_and_inner}
use Rattle.ipc_schema.specs.WriteChecks.{and_then_check, spec_require, spec_check_type, is_not_nested_extension, spec_is_plain_value_type, spec_can_encode, spec_has_no_reserved_key, spec_check_own, spec_check_each, spec_check_field, check_fields}
use Rattle.ipc_schema.specs.DictionaryIds.{index_type_of, next_after, total, each_from, count_dictionaries as count_type_dictionaries, ids_from, own_value_types, flattened, value_types_from}
use Rattle.ipc_schema.specs.DictionaryIdLaws.{Keys}
use Rattle.ipc_schema.specs.OutermostIds.{ValueTypes, spec_outermost_ids, no_outermost_ids}
use Rattle.ipc_schema.specs.OutermostIdLaws.{own_id_or, column_ids_from, Has, all_are_found, outermost_is, outermost_ids_are_column_ids}
use Rattle.ipc_flatbuf.specs.StoredArrays.{reads_as_stored}
use Rattle.ipc_schema.specs.StoredArrays.{stored_arrays}
use Rattle.ipc_schema.specs.StoredArrayLaws.{values_read_as_stored}
use Rattle.ipc_schema.specs.TypeLaws.{both, passes}
use Rattle.ipc_schema.specs.Types.{spec_children_of, field_list}
use Rattle.ipc.specs.DictionaryEntries.{DictionaryEntries, count_dictionaries, count_each_dictionaries, own_entries, each_own, columns_own, entries_in, each_entries, columns_entries}
use Rattle.ipc.specs.KnownDictionaryLaws.{all_both, all_parts}
use Rattle.ipc.specs.SchemaIds.{entry_ids, IsNamed, seen_of_fields, AreNamed}

-- ---- data types

-- it has no child types
abbrev is_flat : PhysicalType → Bool
is_flat physical.FixedSizeList = false
is_flat physical.List = false
is_flat physical.LargeList = false
is_flat physical.Struct = false
is_flat physical.Union = false
is_flat physical.Map = false
is_flat (physical.Dictionary key) = false
is_flat type = true

abbrev has_fields : PhysicalType → Bool
has_fields physical.Struct = true
has_fields physical.Union = true
has_fields type = false

-- no dictionary encodes it
abbrev IsKeyless : TypeTree → Type 0
IsKeyless t = index_type_of (logical_type t) ≡ None

flat_type : (t : TypeTree) → is_flat (physical_type t) ≡ true → IsKeyless t × (spec_children_of (logical_type t) ≡ [])
flat_type (types.list f) h = absurd (cc h)
flat_type (types.large_list f) h = absurd (cc h)
flat_type (types.fixed_size_list f size) h = absurd (cc h)
flat_type (types.struct fs) h = absurd (cc h)
flat_type (types.union fs ids mode) h = absurd (cc h)
flat_type (types.map f sorted) h = absurd (cc h)
flat_type (types.dictionary key values ordered) h = absurd (cc h)
flat_type (types.extension title type metadata) h = flat_type type h
flat_type t h = (refl, refl)

-- the only child of a list is the field of its items
record HasItems (t u : TypeTree) : Type 0 where
  item : FieldTree
  keyless : IsKeyless t
  children : spec_children_of (logical_type t) ≡ item ∷ []
  typed : field_type item ≡ u

item_is : (f : FieldTree) (t u : TypeTree) → IsKeyless t → spec_children_of (logical_type t) ≡ f ∷ [] → Some (field_type f) ≡ Some u → HasItems t u
item_is f t u keyless children h = record { item = f; keyless = keyless; children = children; typed = cc }

item_has : (title : Letters) (type : TypeTree) (metadata : Option Letters) (u : TypeTree) → HasItems type u → HasItems (types.extension title type metadata) u
item_has title type metadata u h = record { item = h.item; keyless = h.keyless; children = h.children; typed = h.typed }

items_of : (t u : TypeTree) → item_type t ≡ Some u → HasItems t u
items_of (types.list f) u h = item_is f (types.list f) u refl refl h
items_of (types.large_list f) u h = item_is f (types.large_list f) u refl refl h
items_of (types.fixed_size_list f size) u h = item_is f (types.fixed_size_list f size) u refl refl h
items_of (types.map f sorted) u h = item_is f (types.map f sorted) u refl refl h
items_of (types.extension title type metadata) u h = item_has title type metadata u (items_of type u h)
items_of t u h = absurd (cc h)

fielded_type : (t : TypeTree) → has_fields (physical_type t) ≡ true → IsKeyless t × (spec_children_of (logical_type t) ≡ field_list (fields_of t))
fielded_type (types.struct fs) h = (refl, refl)
fielded_type (types.union fs ids mode) h = (refl, refl)
fielded_type (types.extension title type metadata) h = fielded_type type h
fielded_type t h = absurd (cc h)

-- of a dictionary
record HasValues (t u : TypeTree) : Type 0 where
  key : IntegerType
  values : TypeTree
  ordered : Bool
  is : logical_type t ≡ types.dictionary key values ordered
  logically : logical_type u ≡ logical_type values

values_has : (title : Letters) (type : TypeTree) (metadata : Option Letters) (u : TypeTree) → HasValues type u → HasValues (types.extension title type metadata) u
values_has title type metadata u h = record { key = h.key; values = h.values; ordered = h.ordered; is = h.is; logically = h.logically }

values_are : (t u : TypeTree) → IsLogically (value_type t) u → HasValues t u
values_are (types.dictionary key values ordered) u h = record { key = key; values = values; ordered = ordered; is = refl; logically = h }
values_are (types.extension title type metadata) u h = values_has title type metadata u (values_are type u h)
values_are t u h = absurd h

not_back : (b : Bool) → not b ≡ true → b ≡ false
not_back true h = absurd (cc h)
not_back false h = refl

-- a type and its logical type have the same keys, values and children, unless it is an extension type
record IsAlike (t u : TypeTree) : Type 0 where
  keys : index_type_of t ≡ index_type_of u
  children : spec_children_of (values_type t) ≡ spec_children_of (values_type u)
  values : (key : IntegerType) (v : TypeTree) (ordered : Bool) → u ≡ types.dictionary key v ordered → t ≡ u

same_alike : (t : TypeTree) → IsAlike t t
same_alike t = record { keys = refl; children = refl; values = λ key v ordered is. refl }

no_number : (key : IntegerType) (v : TypeTree) (ordered : Bool) (p : Precision) → spec_bits_type p ≡ types.dictionary key v ordered → ⊥
no_number key v ordered Half is = cc is
no_number key v ordered Single is = cc is
no_number key v ordered Double is = cc is

float_alike : (p : Precision) → IsAlike (spec_float_type p) (logical_type (spec_float_type p))
float_alike Half = record { keys = refl; children = refl; values = λ key v ordered is. absurd (no_number key v ordered Half is) }
float_alike Single = record { keys = refl; children = refl; values = λ key v ordered is. absurd (no_number key v ordered Single is) }
float_alike Double = record { keys = refl; children = refl; values = λ key v ordered is. absurd (no_number key v ordered Double is) }

floats_alike : (t : TypeTree) (precision : Option Precision) → spec_precision_of t ≡ precision → is_some precision ≡ true → IsAlike t (logical_type t)
floats_alike t None is some = absurd (cc some)
floats_alike t (Some p) is some = subst (λ (u : TypeTree). IsAlike u (logical_type u)) (sym (float_is t p is)) (float_alike p)

not_float : (b : Bool) → not b ≡ false → b ≡ true
not_float true h = refl
not_float false h = absurd (cc h)

no_extension : (t : TypeTree) → spec_is_extension t ≡ false → IsAlike t (logical_type t)
no_extension (types.extension title type metadata) h = floats_alike (types.extension title type metadata) (spec_precision_of (types.extension title type metadata)) refl (not_float (spec_is_float (types.extension title type metadata)) h)
no_extension t h = same_alike t

-- the storage type of a written field
stored_alone : (t : TypeTree) → is_not_nested_extension t ≡ true → IsAlike (spec_storage_type t) (logical_type t)
stored_alone (types.extension title type metadata) h = by_kind (spec_is_float (types.extension title type metadata)) refl
  where
    by_kind : (float : Bool) → spec_is_float (types.extension title type metadata) ≡ float → IsAlike (spec_storage_type (types.extension title type metadata)) (logical_type type)
    by_kind true e = rw e (floats_alike (types.extension title type metadata) (spec_precision_of (types.extension title type metadata)) refl e)
    by_kind false e = rw e (no_extension type (not_back (spec_is_extension type) (rw e at h)))
stored_alone t h = same_alike t

keyless_values : (t : TypeTree) → index_type_of t ≡ None → values_type t ≡ t
keyless_values (types.dictionary key values ordered) h = absurd (cc h)
keyless_values t h = refl

float_plain : (p : Precision) → IsKeyless (spec_float_type p) × (spec_children_of (spec_float_type p) ≡ spec_children_of (logical_type (spec_float_type p)))
float_plain Half = (refl, refl)
float_plain Single = (refl, refl)
float_plain Double = (refl, refl)

floats_plain : (t : TypeTree) (precision : Option Precision) → spec_precision_of t ≡ precision → is_some precision ≡ true → IsKeyless t × (spec_children_of t ≡ spec_children_of (logical_type t))
floats_plain t None is some = absurd (cc some)
floats_plain t (Some p) is some = subst (λ (u : TypeTree). IsKeyless u × (spec_children_of u ≡ spec_children_of (logical_type u))) (sym (float_is t p is)) (float_plain p)

plain_type : (t : TypeTree) → spec_is_plain_value_type t ≡ true → IsKeyless t × (spec_children_of t ≡ spec_children_of (logical_type t))
plain_type (types.dictionary key values ordered) h = absurd (cc h)
plain_type (types.extension title type metadata) h = floats_plain (types.extension title type metadata) (spec_precision_of (types.extension title type metadata)) refl h
plain_type t h = (refl, refl)

record IsFree (t : TypeTree) : Type 0 where
  alone : IsAlike (spec_storage_type t) (logical_type t)
  encodes : spec_can_encode (spec_storage_type t) ≡ true

free_form : (f : FieldTree) → spec_check_own f ≡ Ok tt → IsFree (field_type f)
unfolding spec_check_own
free_form (field name type nullable entries) h =
    let free = spec_require (spec_has_no_reserved_key type entries) write_errors.Extension in
    let encodes = spec_require (spec_can_encode (spec_storage_type type)) write_errors.Dictionary in
    let first = both (spec_require (is_not_nested_extension type) write_errors.Extension) (and_then_check encodes (and_then_check free (spec_check_type (spec_table_type type)))) h in
    let second = both encodes (and_then_check free (spec_check_type (spec_table_type type))) first.1 in
    record { alone = stored_alone type (passes (is_not_nested_extension type) write_errors.Extension first.0); encodes = passes (spec_can_encode (spec_storage_type type)) write_errors.Dictionary second.0 }

-- ---- fields and arrays

abbrev IsFound : ValueTypes → ℤ × ValueTypeModel → Type 0
IsFound all e = lookup (is_at (int_cmp e.0)) all ≡ Some e.1

-- from any id on, fields have as many dictionaries, the same ids of their own, and name these entries
record Agree (depth : ℕ) (fs : List FieldTree) (n : ℕ) (own entries : ℕ → DictionaryEntries) : Type 0 where
  count : total (count_type_dictionaries depth) fs ≡ n
  ids : (next : ℕ) → flattened (each_from (count_type_dictionaries depth) (column_ids_from depth) next fs) ≡ entry_ids (own next)
  named : (next : ℕ) (all : ValueTypes) → Has all (flattened (each_from (count_type_dictionaries depth) (value_types_from depth) next fs)) → AllByRecursion (IsNamed all) (entries next)

abbrev AgreeWith : ℕ → List FieldTree → Layout → Type 0
AgreeWith depth fs a = Agree depth fs (count_dictionaries a) (λ next. own_entries next a) (λ next. entries_in next a)

none_agree : (depth : ℕ) → Agree depth [] 0 (λ next. []) (λ next. [])
unfolding total each_from flattened
none_agree depth = record { count = refl; ids = λ next. refl; named = λ next all has. tt }

module _ (depth : ℕ) (f : FieldTree) (fs : List FieldTree) (n m : ℕ) (own own-more entries entries-more : ℕ → DictionaryEntries) where
  more_ids : Agree depth (f ∷ []) n own entries → Agree depth fs m own-more entries-more → (next : ℕ) → flattened (each_from (count_type_dictionaries depth) (column_ids_from depth) next (f ∷ fs)) ≡ entry_ids (own next ++ own-more (next + n))
  unfolding total each_from flattened
  more_ids one rest next =
      let here : count_type_dictionaries depth f ≡ n = omega (arith, one.count) in
      let first : column_ids_from depth next f ≡ entry_ids (own next) = sym (append-nil (column_ids_from depth next f)) ∙ one.ids next in
      (λ w. first w ++ flattened (each_from (count_type_dictionaries depth) (column_ids_from depth) (next + here w) fs))
      ∙ ap (λ (l : List ℤ). entry_ids (own next) ++ l) (rest.ids (next + n))
      ∙ sym (map-append (λ (e : ℤ × Layout). e.0) (own next) (own-more (next + n)))

  more_named : Agree depth (f ∷ []) n own entries → Agree depth fs m own-more entries-more → (next : ℕ) (all : ValueTypes) → Has all (flattened (each_from (count_type_dictionaries depth) (value_types_from depth) next (f ∷ fs)))
      → AllByRecursion (IsNamed all) (entries next ++ entries-more (next + n))
  unfolding total each_from flattened
  more_named one rest next all has =
      let here : count_type_dictionaries depth f ≡ n = omega (arith, one.count) in
      let parts = all_parts (IsFound all) (value_types_from depth next f) (flattened (each_from (count_type_dictionaries depth) (value_types_from depth) (next + count_type_dictionaries depth f) fs)) has in
      let first = subst (Has all) (sym (append-nil (value_types_from depth next f))) parts.0 in
      let behind-first = subst (λ (k : ℕ). Has all (flattened (each_from (count_type_dictionaries depth) (value_types_from depth) (next + k) fs))) here parts.1 in
      all_both (IsNamed all) (entries next) (entries-more (next + n)) (one.named next all first) (rest.named (next + n) all behind-first)

  more_agree : Agree depth (f ∷ []) n own entries → Agree depth fs m own-more entries-more → Agree depth (f ∷ fs) (n + m) (λ next. own next ++ own-more (next + n)) (λ next. entries next ++ entries-more (next + n))
  unfolding total
  more_agree one rest = record { count = omega (arith, one.count, rest.count); ids = more_ids one rest; named = more_named one rest }

-- a field without a dictionary agrees as its children do
keyless_agrees : (depth : ℕ) (f : FieldTree) (n : ℕ) (own entries : ℕ → DictionaryEntries) → index_type_of (spec_storage_type (field_type f)) ≡ None → Agree depth (spec_children_of (spec_table_type (field_type f))) n own entries → Agree (suc depth) (f ∷ []) n own entries
unfolding total each_from flattened count_type_dictionaries column_ids_from value_types_from
keyless_agrees depth f n own entries none inner =
    let cs : List FieldTree = spec_children_of (spec_table_type (field_type f)) in
    let m : ℕ = total (count_type_dictionaries depth) cs in
    let keys : Keys = index_type_of (spec_storage_type (field_type f)) in
    let counted : next_after keys m ≡ m = ap (λ (k : Keys). next_after k m) none in
    record {
      count = omega (arith, counted, inner.count);
      ids = λ next. append-nil (column_ids_from (suc depth) next f) ∙ ap (λ (k : Keys). own_id_or k next (flattened (each_from (count_type_dictionaries depth) (column_ids_from depth) (next_after k next) cs))) none ∙ inner.ids next;
      named = λ next all has.
          let one = subst (Has all) (append-nil (value_types_from (suc depth) next f)) has in
          inner.named next all (subst (λ (k : Keys). Has all (own_value_types k next (spec_table_type (field_type f)) m ++ flattened (each_from (count_type_dictionaries depth) (value_types_from depth) (next_after k next) cs))) none one);
    }

-- a field with one names its values, and the ids nested in them
module _ (depth : ℕ) (f : FieldTree) (t : TypeTree) (ks c : Layout) (inner : AgreeWith depth (spec_children_of (spec_table_type (field_type f))) c) (logical : logical_type (layout_type c) ≡ logical_type (spec_table_type (field_type f))) (stored : reads_as_stored (stored_arrays (logical_type (spec_table_type (field_type f)))) ≡ true) where
  inside_outer : (next : ℕ) (all : ValueTypes) → Has all (flattened (each_from (count_type_dictionaries depth) (value_types_from depth) next (spec_children_of (spec_table_type (field_type f))))) → spec_outermost_ids all (ids_from next (count_dictionaries c)) ≡ entry_ids (own_entries next c)
  inside_outer next all has =
      let cs : List FieldTree = spec_children_of (spec_table_type (field_type f)) in
      let m : ℕ = total (count_type_dictionaries depth) cs in
      let own : List ℤ = flattened (each_from (count_type_dictionaries depth) (column_ids_from depth) next cs) in
      ap (λ (k : ℕ). spec_outermost_ids all (ids_from next k)) (sym inner.count)
      ∙ ap (λ (l : List ℤ). spec_outermost_ids all l) (sym (append-nil (ids_from next m)))
      ∙ outermost_is depth next cs all [] has
      ∙ ap (λ (l : List ℤ). own ++ l) (no_outermost_ids all)
      ∙ append-nil own
      ∙ inner.ids next

  keyed_named : (keys : Keys) (key : IntegerType × Bool) → keys ≡ Some key → (next : ℕ) (all : ValueTypes) → Has all (own_value_types keys next (spec_table_type (field_type f)) (total (count_type_dictionaries depth) (spec_children_of (spec_table_type (field_type f))))
      ++ flattened (each_from (count_type_dictionaries depth) (value_types_from depth) (next_after keys next) (spec_children_of (spec_table_type (field_type f))))) → AllByRecursion (IsNamed all) (entries_in next (dictionary t ks c))
  keyed_named None key is next all has = absurd (cc is)
  keyed_named (Some k) key is next all has =
      let values : TypeTree = spec_table_type (field_type f) in
      let found = has.0 ∙ (λ w. Some (record { values = sym logical w; inside = ids_from (suc next) (inner.count w) })) in
      let one : IsNamed all (pos next, c) = record { id = next; number = refl; values = found; outer = inside_outer (suc next) all has.1; stored = subst (λ (t : TypeTree). reads_as_stored (stored_arrays t) ≡ true) (sym logical) stored } in
      all_both (IsNamed all) (entries_in (suc next) c) ((pos next, c) ∷ []) (inner.named (suc next) all has.1) (one, tt)

  keyed_agrees : (key : IntegerType × Bool) → index_type_of (spec_storage_type (field_type f)) ≡ Some key → AgreeWith (suc depth) (f ∷ []) (dictionary t ks c)
  unfolding total each_from flattened count_type_dictionaries column_ids_from value_types_from
  keyed_agrees key some =
      let cs : List FieldTree = spec_children_of (spec_table_type (field_type f)) in
      let m : ℕ = total (count_type_dictionaries depth) cs in
      let keys : Keys = index_type_of (spec_storage_type (field_type f)) in
      let counted : next_after keys m ≡ suc m = ap (λ (k : Keys). next_after k m) some in
      record {
        count = omega (arith, counted, inner.count);
        ids = λ next. append-nil (column_ids_from (suc depth) next f) ∙ ap (λ (k : Keys). own_id_or k next (flattened (each_from (count_type_dictionaries depth) (column_ids_from depth) (next_after k next) cs))) some;
        named = λ next all has. keyed_named keys key some next all (subst (Has all) (append-nil (value_types_from (suc depth) next f)) has);
      }

-- ---- arrays

-- the child arrays agree with the child types, and the array with a field of its data type
record Agrees (a : Layout) : Type 0 where
  inside : IsKeyless (layout_type a) → (depth : ℕ) → spec_check_each (spec_check_field depth) (spec_children_of (logical_type (layout_type a))) ≡ Ok tt → AgreeWith depth (spec_children_of (logical_type (layout_type a))) a
  whole : (depth : ℕ) (f : FieldTree) → field_type f ≡ layout_type a → spec_check_field depth f ≡ Ok tt → AgreeWith depth (f ∷ []) a

abbrev EachAgrees : Layouts → Type 0
EachAgrees cs = (depth : ℕ) (fs : FieldTrees) → EachType fs cs → spec_check_each (spec_check_field depth) (field_list fs) ≡ Ok tt → Agree depth (field_list fs) (count_each_dictionaries cs) (λ next. each_own next cs) (λ next. each_entries next cs)

no_depth : (f : FieldTree) → spec_check_field 0 f ≡ Ok tt → ⊥
unfolding spec_check_field
no_depth f form = cc form

abbrev Inside : Layout → Type 0
Inside a = (depth : ℕ) → spec_check_each (spec_check_field depth) (spec_children_of (logical_type (layout_type a))) ≡ Ok tt → AgreeWith depth (spec_children_of (logical_type (layout_type a))) a

whole_agrees : (a : Layout) → IsKeyless (layout_type a) → Inside a → (depth : ℕ) (f : FieldTree) → field_type f ≡ layout_type a → spec_check_field depth f ≡ Ok tt → AgreeWith depth (f ∷ []) a
whole_agrees a keyless inside zero f typed form = absurd (no_depth f form)
whole_agrees a keyless inside (suc depth) f typed form =
    let parts = own_and_inner depth f form in
    let free = free_form f parts.0 in
    let none : index_type_of (spec_storage_type (field_type f)) ≡ None = free.alone.keys ∙ ap (λ (t : TypeTree). index_type_of (logical_type t)) typed ∙ keyless in
    let children : spec_children_of (spec_table_type (field_type f)) ≡ spec_children_of (logical_type (layout_type a)) =
    free.alone.children ∙ ap (λ (t : TypeTree). spec_children_of (values_type (logical_type t))) typed ∙ ap spec_children_of (keyless_values (logical_type (layout_type a)) keyless) in
    let inner = inside depth (subst (λ (fs : List FieldTree). spec_check_each (spec_check_field depth) fs ≡ Ok tt) children parts.1) in
    keyless_agrees depth f (count_dictionaries a) (λ next. own_entries next a) (λ next. entries_in next a) none (subst (λ (fs : List FieldTree). AgreeWith depth fs a) (sym children) inner)

agrees_by : (a : Layout) → IsKeyless (layout_type a) → Inside a → Agrees a
agrees_by a keyless inside = record { inside = λ none. inside; whole = whole_agrees a keyless inside }

flat_agrees : (a : Layout) → is_flat (physical_type (layout_type a)) ≡ true → ((depth : ℕ) → AgreeWith depth [] a) → Agrees a
flat_agrees a flat none =
    let type = flat_type (layout_type a) flat in
    agrees_by a type.0 (λ depth form. subst (λ (fs : List FieldTree). AgreeWith depth fs a) (sym type.1) (none depth))

-- an array of items agrees as they do
items_agree : (a c : Layout) → item_type (layout_type a) ≡ Some (layout_type c) → Agrees c → ((depth : ℕ) (fs : List FieldTree) → AgreeWith depth fs c → AgreeWith depth fs a) → Agrees a
items_agree a c items below same =
    let has = items_of (layout_type a) (layout_type c) items in
    agrees_by a has.keyless (λ depth form.
    let one = split (spec_check_field depth) has.item [] (subst (λ (fs : List FieldTree). spec_check_each (spec_check_field depth) fs ≡ Ok tt) has.children form) in
    subst (λ (fs : List FieldTree). AgreeWith depth fs a) (sym has.children) (same depth (has.item ∷ []) (below.whole depth has.item has.typed one.0)))

fields_agree : (a : Layout) (cs : Layouts) → has_fields (physical_type (layout_type a)) ≡ true → EachType (fields_of (layout_type a)) cs → EachAgrees cs
    → ((depth : ℕ) (fs : List FieldTree) → Agree depth fs (count_each_dictionaries cs) (λ next. each_own next cs) (λ next. each_entries next cs) → AgreeWith depth fs a) → Agrees a
fields_agree a cs fielded typed below same =
    let type = fielded_type (layout_type a) fielded in
    agrees_by a type.0 (λ depth form.
    let all = below depth (fields_of (layout_type a)) typed (subst (λ (fs : List FieldTree). spec_check_each (spec_check_field depth) fs ≡ Ok tt) type.1 form) in
    subst (λ (fs : List FieldTree). AgreeWith depth fs a) (sym type.1) (same depth (field_list (fields_of (layout_type a))) all))

-- a dictionary array agrees by its values
values_agree : (t : TypeTree) (ks c : Layout) → HasValues t (layout_type c) → Agrees c → (depth : ℕ) (f : FieldTree) → field_type f ≡ t → spec_check_field depth f ≡ Ok tt → AgreeWith depth (f ∷ []) (dictionary t ks c)
values_agree t ks c has below zero f typed form = absurd (no_depth f form)
values_agree t ks c has below (suc depth) f typed form =
    let parts = own_and_inner depth f form in
    let free = free_form f parts.0 in
    let logically : logical_type (field_type f) ≡ types.dictionary has.key has.values has.ordered = ap logical_type typed ∙ has.is in
    let same : spec_storage_type (field_type f) ≡ types.dictionary has.key has.values has.ordered = free.alone.values has.key has.values has.ordered logically ∙ logically in
    let plain = plain_type has.values (sym (ap spec_can_encode same) ∙ free.encodes) in
    let table : spec_table_type (field_type f) ≡ has.values = ap values_type same in
    let logical : logical_type (layout_type c) ≡ logical_type (spec_table_type (field_type f)) = has.logically ∙ ap logical_type (sym table) in
    let keyless : IsKeyless (layout_type c) = ap index_type_of (has.logically) ∙ plain.0 in
    let children : spec_children_of (spec_table_type (field_type f)) ≡ spec_children_of (logical_type (layout_type c)) = ap spec_children_of table ∙ plain.1 ∙ ap spec_children_of (sym has.logically) in
    let inner = below.inside keyless depth (subst (λ (fs : List FieldTree). spec_check_each (spec_check_field depth) fs ≡ Ok tt) children parts.1) in
    keyed_agrees depth f t ks c (subst (λ (fs : List FieldTree). AgreeWith depth fs c) (sym children) inner) logical (values_read_as_stored (suc depth) f form) (has.key, has.ordered) (ap index_type_of same)

dictionary_agrees : (t : TypeTree) (ks c : Layout) → HasValues t (layout_type c) → Agrees c → Agrees (dictionary t ks c)
dictionary_agrees t ks c has below =
    record { inside = λ none. let keyed : index_type_of (logical_type t) ≡ Some (has.key, has.ordered) = ap index_type_of has.is in absurd (cc (sym keyed ∙ none)); whole = values_agree t ks c has below }

flat_by : (t : TypeTree) (p : PhysicalType) → physical_type t ≡ p → is_flat p ≡ true → is_flat (physical_type t) ≡ true
flat_by t p typed flat = ap is_flat typed ∙ flat

flat_binary : (large : Bool) → is_flat (binary_of_width large) ≡ true
flat_binary true = refl
flat_binary false = refl

flat_text : (large : Bool) → is_flat (utf8_of_width large) ≡ true
flat_text true = refl
flat_text false = refl

mutual
  agrees : (a : Layout) → IsArray a → Agrees a
  agrees (null t n) h = flat_agrees (null t n) (flat_by t _ h.0.1.0 refl) none_agree
  agrees (boolean t bs va) h = flat_agrees (boolean t bs va) (flat_by t _ h.0.1.1.0 refl) none_agree
  agrees (primitive k t vs va) h = flat_agrees (primitive k t vs va) (flat_by t _ h.0.1.1.0 refl) none_agree
  agrees (binary large t os bs va) h = flat_agrees (binary large t os bs va) (flat_by t _ (binary-facts large t os bs va h.0).typed (flat_binary large)) none_agree
  agrees (utf8 large t os bs va) h = flat_agrees (utf8 large t os bs va) (flat_by t _ (text-facts large t os bs va h.0).typed (flat_text large)) none_agree
  agrees (fixed_size_binary t bs va) h = flat_agrees (fixed_size_binary t bs va) (flat_by t _ (fixed_size_binary-facts t bs va h.0).typed refl) none_agree
  agrees (fixed_size_list t c va) h = items_agree (fixed_size_list t c va) c (fixed_size_list-facts t c va h.0).items (agrees c h.1) (λ depth fs is. is)
  agrees (list_of large t os c va) h = items_agree (list_of large t os c va) c (list-facts large t os c va h.0).items (agrees c h.1) (λ depth fs is. is)
  agrees (map_of t os c va) h = items_agree (map_of t os c va) c (map-facts t os c va h.0).entries (agrees c h.1) (λ depth fs is. is)
  agrees (struct t cs va) h = fields_agree (struct t cs va) cs (ap has_fields (struct-facts t cs va h.0).typed) (struct-facts t cs va h.0).each_type (each_agrees cs h.1) (λ depth fs is. is)
  agrees (union t ks cs os start) h =
      fields_agree (union t ks cs os start) cs (ap has_fields (union-facts t ks cs os start h.0).typed) (union-facts t ks cs os start h.0).each_type (each_agrees cs h.1) (λ depth fs is. is)
  agrees (dictionary t ks c) h = dictionary_agrees t ks c (values_are t (layout_type c) (dictionary-facts t ks c h.0).value_typed) (agrees c h.1)

  each_agrees : (cs : Layouts) → AreArrays cs → EachAgrees cs
  each_agrees no_layouts h depth no_fields typed form = none_agree depth
  each_agrees no_layouts h depth (more_fields f fs) typed form = absurd typed
  each_agrees (more_layouts c cs) h depth no_fields typed form = absurd typed
  each_agrees (more_layouts c cs) h depth (more_fields f fs) typed form =
      let parts = split (spec_check_field depth) f (field_list fs) form in
      let one = (agrees c h.0).whole depth f (sym typed.0) parts.0 in
      let rest = each_agrees cs h.1 depth fs typed.1 parts.1 in
      more_agree depth f (field_list fs) (count_dictionaries c) (count_each_dictionaries cs) (λ next. own_entries next c) (λ next. each_own next cs) (λ next. entries_in next c) (λ next. each_entries next cs) one rest

-- ---- columns

abbrev columns_count : List Layout → ℕ
columns_count [] = 0
columns_count (a ∷ columns) = count_dictionaries a + columns_count columns

columns_agree : (depth : ℕ) (fs : List FieldTree) (columns : List Layout) → spec_check_each (spec_check_field depth) fs ≡ Ok tt → map field_type fs ≡ map layout_type columns → AllByRecursion IsArray columns
    → Agree depth fs (columns_count columns) (λ next. columns_own next columns) (λ next. columns_entries next columns)
columns_agree depth [] [] form typed arrays = none_agree depth
columns_agree depth [] (a ∷ columns) form typed arrays = absurd (cc typed)
columns_agree depth (f ∷ fs) [] form typed arrays = absurd (cc typed)
columns_agree depth (f ∷ fs) (a ∷ columns) form typed (one, arrays) =
    let parts = split (spec_check_field depth) f fs form in
    let first : field_type f ≡ layout_type a = cc typed in
    let others : map field_type fs ≡ map layout_type columns = cc typed in
    let here = (agrees a one).whole depth f first parts.0 in
    let rest = columns_agree depth fs columns parts.1 others arrays in
    more_agree depth f fs (count_dictionaries a) (columns_count columns) (λ next. own_entries next a) (λ next. columns_own next columns) (λ next. entries_in next a) (λ next. columns_entries next columns) here rest

-- each id of columns names its values in the schema of their fields
pub are_named : (fields : List FieldTree) (columns : List Layout) → check_fields fields ≡ Ok tt → map field_type fields ≡ map layout_type columns → AllByRecursion IsArray columns → AreNamed fields columns
are_named fields columns form typed arrays =
    let agreed = columns_agree 64 fields columns form typed arrays in
    record { each = agreed.named 0 (seen_of_fields fields).named (all_are_found 64 0 fields); outer = outermost_ids_are_column_ids fields ∙ agreed.ids 0 }
