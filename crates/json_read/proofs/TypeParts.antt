-- What the types of lists and of structs are made of.
use Rattle.std.specs.Prelude.{Option, Some, None}
use Rattle.std.proofs.Common.{◌≡◌, ℕ, zero, suc, true, false, List, ℤ, refl, sym, ap, ◌∙◌, subst, inl, inr}
use Rattle.json.specs.Json.{Items}
use Rattle.nest_any.specs.Lent.{builder_at}
use Rattle.nest_any.specs.Refusals.{IsListBuilder, IsOfLists}
use Rattle.nest_array.specs.SeenScalar.{shown_type}
use Rattle.nest_build.specs.Children.{list_child}
use Rattle.json_read.specs.DistinctNames.{HasDistinctFieldNames, FieldHasDistinctFieldNames, FieldsHaveDistinctFieldNames}
use Rattle.json_read.specs.FlatValues.{first_error}
use Rattle.json_write.specs.Formats.{format_of_type}
use Rattle.json_write.specs.declared.format.ValueFormat.{ValueFormat}
use Rattle.json_read.specs.JsonSlots.{array_slot, array_error, json_item_count, values_physical_type, list_length_error}
use Rattle.json_read.specs.declared.value_error.ValueError.{ValueError}
use Rattle.nest_memory.specs.Physical.{physical_type}
use Rattle.nest_memory.specs.TypeTree as types
use Rattle.nest_memory.specs.TypeTree.{TypeTree, FieldTree, field, FieldTrees, no_fields, more_fields, item_type, fields_of, fixed_size, size_of}
use Rattle.nest_memory.specs.declared.datatypes.physical_type.PhysicalType.TheVariants as physical
use Rattle.nest_model.specs.BuilderTree.{BuilderTree, BuilderTrees, flat, list, fixed_size_list, dictionary, struct, no_builders, more_builders, builder_type, builder_types}
use Rattle.nest_model.specs.BuilderComplete.{IsComplete}
use Rattle.nest_model.specs.Layout.{field_types}
use Rattle.nest_model.specs.Slot as slots
use Rattle.nest_model.specs.Slot.{Slots}
use Rattle.json_write.specs.JsonText.{items_type, members_of}
use Rattle.json_write.specs.TypedSlots.{HaveDistinctNames, slot_kind}

pub of-lists : (b : BuilderTree) → IsListBuilder b → IsOfLists (physical_type (builder_type b))
of-lists (flat t xs) k = absurd k
of-lists (list true t rows c) k = inr (inl k)
of-lists (list false t rows c) k = inl k
of-lists (fixed_size_list t bits c) k = inr (inr k)
of-lists (dictionary i t keys c) k = absurd k
of-lists (struct t bits cs) k = absurd k

pub list-slot : (t : TypeTree) (zs : List ℤ) (ss : Slots) → IsOfLists (physical_type t) → array_slot (slot_kind t) zs ss ≡ slots.list ss
list-slot (types.list f) zs ss h = refl
list-slot (types.large_list f) zs ss h = refl
list-slot (types.fixed_size_list f s) zs ss h = refl
list-slot (types.extension n t m) zs ss h = list-slot t zs ss h
list-slot t zs ss (inl e) = absurd cc
list-slot t zs ss (inr (inl e)) = absurd cc
list-slot t zs ss (inr (inr e)) = absurd cc

first-none : (a : Option ValueError) → a ≡ first_error a None
first-none None = refl
first-none (Some e) = refl

list-error-in : (v : ValueFormat) (t : TypeTree) (js : Items) (inside : Option ValueError) (n : ℕ) → IsOfLists (physical_type t) → n ≡ json_item_count js → array_error (values_physical_type t) (size_of (shown_type t)) v js inside ≡ first_error inside (list_length_error (fixed_size t) n)
list-error-in v (types.list f) js inside n h e = first-none inside
list-error-in v (types.large_list f) js inside n h e = first-none inside
list-error-in v (types.fixed_size_list f s) js inside n h e = ap (λ m. first_error inside (list_length_error (Some s) m)) (sym e)
list-error-in v (types.extension m t d) js inside n h e = list-error-in v t js inside n h e
list-error-in v t js inside n (inl h) e = absurd cc
list-error-in v t js inside n (inr (inl h)) e = absurd cc
list-error-in v t js inside n (inr (inr h)) e = absurd cc

pub list-error : (t : TypeTree) (js : Items) (inside : Option ValueError) (n : ℕ) → IsOfLists (physical_type t) → n ≡ json_item_count js → array_error (values_physical_type t) (size_of (shown_type t)) (format_of_type t) js inside ≡ first_error inside (list_length_error (fixed_size t) n)
list-error t js inside n h e = list-error-in (format_of_type t) t js inside n h e

item-apart : (f : FieldTree) (u : TypeTree) → Some (types.field_type f) ≡ Some u → FieldHasDistinctFieldNames f → (types.field_type f ≡ u) × HasDistinctFieldNames u
item-apart (field n t b es) u e a =
    let p : t ≡ u = cc in
    (p, subst HasDistinctFieldNames p a)

item-parts : (t u : TypeTree) → IsOfLists (physical_type t) → item_type t ≡ Some u → HasDistinctFieldNames t → (items_type t ≡ u) × HasDistinctFieldNames u
item-parts (types.list f) u h e a = item-apart f u e a
item-parts (types.large_list f) u h e a = item-apart f u e a
item-parts (types.fixed_size_list f s) u h e a = item-apart f u e a
item-parts (types.extension n t m) u h e a = item-parts t u h e a
item-parts t u (inl h) e a = absurd cc
item-parts t u (inr (inl h)) e a = absurd cc
item-parts t u (inr (inr h)) e a = absurd cc

-- the items of a list's type are of its child's
pub child-parts : (b : BuilderTree) → IsListBuilder b → IsComplete b → HasDistinctFieldNames (builder_type b) → (items_type (builder_type b) ≡ builder_type (list_child b)) × HasDistinctFieldNames (builder_type (list_child b)) × IsComplete (list_child b)
child-parts (flat t xs) k w a = absurd k
child-parts (list large t rows c) k w a =
    let p = item-parts t (builder_type c) (of-lists (list large t rows c) k) w.1 a in
    (p.0, p.1, w.0)
child-parts (fixed_size_list t bits c) k w a =
    let p = item-parts t (builder_type c) (of-lists (fixed_size_list t bits c) k) w.1 a in
    (p.0, p.1, w.0)
child-parts (dictionary i t keys c) k w a = absurd k
child-parts (struct t bits cs) k w a = absurd k

pub struct-members : (t : TypeTree) → physical_type t ≡ physical.Struct → members_of t ≡ fields_of t
struct-members (types.dictionary l t b) e = cc
struct-members (types.extension n t m) e = struct-members t e
struct-members (types.union fs ids mode) e = cc
struct-members t e = refl

pub struct-lies : (t : TypeTree) → physical_type t ≡ physical.Struct → values_physical_type t ≡ physical.Struct
struct-lies (types.dictionary l t b) e = cc
struct-lies (types.extension n t m) e = struct-lies t e
struct-lies t e = e

pub struct-apart : (t : TypeTree) → physical_type t ≡ physical.Struct → HasDistinctFieldNames t → HaveDistinctNames (fields_of t) × FieldsHaveDistinctFieldNames (fields_of t)
struct-apart (types.struct fs) e a = a
struct-apart (types.extension n t m) e a = struct-apart t e a
struct-apart t e a = absurd cc

field-apart : (f : FieldTree) (u : TypeTree) → u ≡ types.field_type f → FieldHasDistinctFieldNames f → HasDistinctFieldNames u
field-apart (field n t b es) u e a = subst HasDistinctFieldNames (sym e) a

pub child-apart : (fs : FieldTrees) (cs : BuilderTrees) (i : ℕ) (c : BuilderTree) → builder_types cs ≡ field_types fs → FieldsHaveDistinctFieldNames fs → builder_at cs i ≡ Some c → HasDistinctFieldNames (builder_type c)
child-apart fs no_builders i c e a p = absurd cc
child-apart no_fields (more_builders d cs) i c e a p = absurd cc
child-apart (more_fields f fs) (more_builders d cs) zero c e a p =
    let q : d ≡ c = cc in
    let r : builder_type d ≡ types.field_type f = cc in
    field-apart f (builder_type c) (ap builder_type (sym q) ∙ r) a.0
child-apart (more_fields f fs) (more_builders d cs) (suc i) c e a p = child-apart fs cs i c (let r : builder_types cs ≡ field_types fs = cc in r) a.1 p
