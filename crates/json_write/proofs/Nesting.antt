-- The text of lists, structs and unions, one more part at a time.
use Rattle.std.specs.Prelude.{Some, not, if◌then◌else◌, ◌⊎◌, List as Seq}
use Rattle.std.proofs.Common.{◌≡◌, ℕ, zero, suc, ◌+◌, ◌<◌, ◌≤◌, Bool, true, false, nat_lt, List, [], ◌∷◌, ◌++◌, length, get_or, codes, refl, sym, ap, ◌∙◌, subst, inl, inr, arith, append_assoc, append-nil, lt-ltb}
use Rattle.std.proofs.lemmas.Option.{same_Some}
use Rattle.json.specs.Print.{quoted}
use Rattle.nest_array.proofs.Picks.{IsUnionOf}
use Rattle.nest_array.specs.Seen.{layout_of, layouts_of}
use Rattle.nest_array.specs.WindowParts.{WindowParts, window_parts, window_slots}
use Rattle.nest_array.specs.declared.any.AnyArray.{AnyArray}
use Rattle.nest_memory.specs.Physical.{physical_type}
use Rattle.nest_memory.specs.TypeOf.{field_of, field_list_of, count_fields-field_list_of}
use Rattle.nest_memory.specs.TypeTree as types
use Rattle.nest_memory.specs.TypeTree.{TypeTree, FieldTrees, count_fields, field_type, fields_of, item_type}
use Rattle.nest_memory.specs.declared.datatypes.IntegerType.{IntegerType}
use Rattle.nest_memory.specs.declared.datatypes.field.Field.{Field}
use Rattle.nest_memory.specs.declared.datatypes.physical_type.PhysicalType.TheVariants as physical
use Rattle.nest_model.specs.Accessors.{validity_of, offsets_of, child_of, children_of, types_of, union_offsets_of, start_of}
use Rattle.nest_model.specs.Array.{TopFits}
use Rattle.nest_model.specs.FactLaws.{list-facts, map-facts, fixed_size_list-facts, union-facts}
use Rattle.nest_model.specs.Fits.{EachCovers, EachType}
use Rattle.nest_model.specs.Layout as layouts
use Rattle.nest_model.specs.Layout.{Layout, layout_type, count_layouts, weight, weight_all}
use Rattle.nest_model.specs.Meaning.{run, slot, each, len, where_valid}
use Rattle.nest_model.specs.Nullness.{is_null_at}
use Rattle.nest_model.specs.Part.{valid_at}
use Rattle.nest_model.specs.Reads.{items-cut}
use Rattle.nest_model.specs.Slot as slots
use Rattle.nest_model.specs.Slot.{Slot, Slots, seal}
use Rattle.json_write.specs.JsonText.{items_type, members_of, field_name, field_name_at, comma, json_of_slot, json_items, json_members, json_list, json_of_window, slot_json}

-- whether an item follows another
abbrev is_after : Bool → ℕ → Bool
is_after after zero = after
is_after after (suc k) = true

after-true : (k : ℕ) → is_after true k ≡ true
after-true zero = refl
after-true (suc k) = refl

after-lt : (k : ℕ) → is_after false k ≡ nat_lt 0 k
after-lt zero = refl
after-lt (suc k) = sym (lt-ltb 0 (suc k) (omega arith))

items-more : (t : TypeTree) (after : Bool) (f : ℕ → Slot) (o k : ℕ)
    → json_items t after (seal (run f o (suc k))) ≡ json_items t after (seal (run f o k)) ++ (comma (is_after after k) ++ json_of_slot t (f (o + k)))
items-more t after f o zero =
    let z : o ≡ o + 0 = omega arith in
    ap (λ x. comma after ++ x) (append-nil (json_of_slot t (f o)) ∙ ap (λ i. json_of_slot t (f i)) z)
items-more t after f o (suc k) =
    let z : suc o + k ≡ o + suc k = omega arith in
    let ih = items-more t true f (suc o) k ∙ ap (λ b. json_items t true (seal (run f (suc o) k)) ++ (comma b ++ json_of_slot t (f (suc o + k)))) (after-true k) in
    ap (λ x. comma after ++ (json_of_slot t (f o) ++ x)) (ih ∙ ap (λ i. json_items t true (seal (run f (suc o) k)) ++ (comma true ++ json_of_slot t (f i))) z)
    ∙ ap (λ x. comma after ++ x) (sym (append_assoc (json_of_slot t (f o)) (json_items t true (seal (run f (suc o) k))) _))
    ∙ sym (append_assoc (comma after) _ _)

-- the text of k items, the separator and the next item
pub items-next : (t : TypeTree) (f : ℕ → Slot) (o k : ℕ)
    → (json_items t false (seal (run f o k)) ++ comma (nat_lt 0 k)) ++ json_of_slot t (f (o + k)) ≡ json_items t false (seal (run f o (k + 1)))
items-next t f o k =
    let z : suc k ≡ k + 1 = omega arith in
    append_assoc (json_items t false (seal (run f o k))) (comma (nat_lt 0 k)) (json_of_slot t (f (o + k)))
    ∙ ap (λ b. json_items t false (seal (run f o k)) ++ (comma b ++ json_of_slot t (f (o + k)))) (sym (after-lt k))
    ∙ sym (items-more t false f o k)
    ∙ ap (λ n. json_items t false (seal (run f o n))) z

-- the items have the item type
pub items-type-of : (t u : TypeTree) → item_type t ≡ Some u → items_type t ≡ u
items-type-of (types.list f) u e = same_Some _ _ e
items-type-of (types.fixed_size_list f s) u e = same_Some _ _ e
items-type-of (types.large_list f) u e = same_Some _ _ e
items-type-of (types.map f b) u e = same_Some _ _ e
items-type-of (types.extension n t m) u e = items-type-of t u e
items-type-of t u e = cc

row-cases : (t : TypeTree) (ss : List Slot) (v r : Bool) → r ≡ not v → (if r then codes "null" else json_list (items_type t) ss) ≡ json_of_slot t (if v then slots.list (seal ss) else slots.null)
row-cases t ss true true e = cc
row-cases t ss true false e = refl
row-cases t ss false true e = refl
row-cases t ss false false e = cc

-- a list slot, by the window of its items
pub record IsRow (a : Layout) (i : ℕ) (r : Bool) (w : WindowParts) : Type 0 where
  pub items : slot a i ≡ where_valid (validity_of a) i (slots.list (seal (window_slots w)))
  pub nulls : r ≡ not (valid_at (validity_of a) i)
  pub typed : item_type (layout_type a) ≡ Some (layout_type w.array)
  pub within : w.offset + w.count ≤ len w.array

pub row-text : (a c : Layout) (i o n : ℕ) (r : Bool) (w : WindowParts) → IsRow a i r w → c ≡ w.array → o ≡ w.offset → n ≡ w.count
    → (if r then codes "null" else json_list (layout_type c) (run (slot c) o n)) ≡ slot_json a i
row-text a c i o n r w h e p q =
    ap (λ b. if r then codes "null" else json_list (layout_type b) (run (slot b) o n)) e
    ∙ ap (λ m. if r then codes "null" else json_list (layout_type w.array) (run (slot w.array) m n)) p
    ∙ ap (λ m. if r then codes "null" else json_list (layout_type w.array) (run (slot w.array) w.offset m)) q
    ∙ ap (λ ss. if r then codes "null" else json_list (layout_type w.array) ss) (items-cut w.array w.offset w.count h.within)
    ∙ ap (λ u. if r then codes "null" else json_list u (window_slots w)) (sym (items-type-of (layout_type a) (layout_type w.array) h.typed))
    ∙ row-cases (layout_type a) (window_slots w) (valid_at (validity_of a) i) r h.nulls
    ∙ sym (ap (json_of_slot (layout_type a)) h.items)

-- slots of each list layout
pub list-row : (l : Bool) (a : Layout) (i o n : ℕ) (r : Bool) (w : WindowParts) → TopFits a → a ≡ layouts.list l (layout_type a) (offsets_of a) (child_of a) (validity_of a)
    → w ≡ window_parts (child_of a) o n → w.offset + w.count ≤ len w.array → slot a i ≡ where_valid (validity_of a) i (slots.list (seal (window_slots w))) → r ≡ is_null_at a i → IsRow a i r w
list-row l a i o n r w f k p h s e =
    record {
      items = s;
      nulls = e ∙ ap (λ b. is_null_at b i) k;
      typed = (list-facts l (layout_type a) (offsets_of a) (child_of a) (validity_of a) (subst TopFits k f)).items ∙ ap (λ (x : WindowParts). Some (layout_type x.array)) (sym p);
      within = h;
    }

pub map-row : (a : Layout) (i o n : ℕ) (r : Bool) (w : WindowParts) → TopFits a → a ≡ layouts.map (layout_type a) (offsets_of a) (child_of a) (validity_of a)
    → w ≡ window_parts (child_of a) o n → w.offset + w.count ≤ len w.array → slot a i ≡ where_valid (validity_of a) i (slots.list (seal (window_slots w))) → r ≡ is_null_at a i → IsRow a i r w
map-row a i o n r w f k p h s e =
    record {
      items = s;
      nulls = e ∙ ap (λ b. is_null_at b i) k;
      typed = (map-facts (layout_type a) (offsets_of a) (child_of a) (validity_of a) (subst TopFits k f)).entries ∙ ap (λ (x : WindowParts). Some (layout_type x.array)) (sym p);
      within = h;
    }

pub fixed-row : (a : Layout) (i o n : ℕ) (r : Bool) (w : WindowParts) → TopFits a → a ≡ layouts.fixed_size_list (layout_type a) (child_of a) (validity_of a)
    → w ≡ window_parts (child_of a) o n → w.offset + w.count ≤ len w.array → slot a i ≡ where_valid (validity_of a) i (slots.list (seal (window_slots w))) → r ≡ is_null_at a i → IsRow a i r w
fixed-row a i o n r w f k p h s e =
    record {
      items = s;
      nulls = e ∙ ap (λ b. is_null_at b i) k;
      typed = (fixed_size_list-facts (layout_type a) (child_of a) (validity_of a) (subst TopFits k f)).items ∙ ap (λ (x : WindowParts). Some (layout_type x.array)) (sym p);
      within = h;
    }

-- the members of a type that is no dictionary are its fields
pub members-type : (t : TypeTree) → ((k : IntegerType) → physical_type t ≡ physical.Dictionary k → ⊥) → members_of t ≡ fields_of t
members-type (types.dictionary k t b) h = absurd (h k refl)
members-type (types.extension n t m) h = members-type t h
members-type t h = refl

struct-no-dictionary : (t : TypeTree) → physical_type t ≡ physical.Struct → (k : IntegerType) → physical_type t ≡ physical.Dictionary k → ⊥
struct-no-dictionary t e k f = let g = sym e ∙ f in cc

union-no-dictionary : (t : TypeTree) → physical_type t ≡ physical.Union → (k : IntegerType) → physical_type t ≡ physical.Dictionary k → ⊥
union-no-dictionary t e k f = let g = sym e ∙ f in cc

pub record-text : (t : TypeTree) (fs : FieldTrees) (ss : Slots) (s : Slot) → physical_type t ≡ physical.Struct → fs ≡ fields_of t → s ≡ slots.record_of ss
    → (codes "{" ++ json_members fs false ss) ++ codes "}" ≡ json_of_slot t s
record-text t fs ss s p e h =
    ap (λ gs. 123 ∷ (json_members gs false ss ++ 125 ∷ [])) (e ∙ sym (members-type t (struct-no-dictionary t p)))
    ∙ sym (ap (json_of_slot t) h)

-- the first field and its child
pub record First (x : AnyArray) (f : Field) (fs : Seq Field) (cs : Seq AnyArray) (i : ℕ) : Type 0 where
  pub typed : layout_type (layout_of x) ≡ field_type (field_of f)
  pub rest_typed : EachType (field_list_of fs) (layouts_of cs)
  pub within : i + 1 ≤ len (layout_of x)
  pub rest_within : EachCovers (layouts_of cs) (i + 1)
  pub lighter : weight (layout_of x) + weight_all (layouts_of cs) + 1 ≡ weight_all (layouts_of (x ∷ cs))

pub first-member : (x : AnyArray) (f : Field) (all fs : Seq Field) (every cs : Seq AnyArray) (i : ℕ) → all ≡ f ∷ fs → every ≡ x ∷ cs
    → EachType (field_list_of all) (layouts_of every) → EachCovers (layouts_of every) (i + 1) → First x f fs cs i
first-member x f all fs every cs i e h t k =
    let u : EachType (field_list_of (f ∷ fs)) (layouts_of (x ∷ cs)) = subst (λ ys. EachType (field_list_of (f ∷ fs)) (layouts_of ys)) h (subst (λ gs. EachType (field_list_of gs) (layouts_of every)) e t) in
    let c : EachCovers (layouts_of (x ∷ cs)) (i + 1) = subst (λ ys. EachCovers (layouts_of ys) (i + 1)) h k in
    record { typed = u.0; rest_typed = u.1; within = c.0; rest_within = c.1; lighter = refl }

pub text-step : (d s q x r : List ℕ) → ((((d ++ s) ++ q) ++ codes ":") ++ x) ++ r ≡ d ++ (s ++ (q ++ 58 ∷ (x ++ r)))
text-step d s q x r =
    append_assoc (((d ++ s) ++ q) ++ codes ":") x r
    ∙ append_assoc ((d ++ s) ++ q) (codes ":") (x ++ r)
    ∙ append_assoc (d ++ s) q (58 ∷ (x ++ r))
    ∙ append_assoc d s (q ++ 58 ∷ (x ++ r))

pub member-text : (x : AnyArray) (f : Field) (all fs : Seq Field) (every cs : Seq AnyArray) (i : ℕ) (after : Bool) (done name whole : List ℕ) → all ≡ f ∷ fs → every ≡ x ∷ cs
    → layout_type (layout_of x) ≡ field_type (field_of f) → name ≡ field_name (field_of f)
    → done ++ json_members (field_list_of all) after (each (layouts_of every) i) ≡ whole
    → ((((done ++ comma after) ++ quoted name) ++ codes ":") ++ slot_json (layout_of x) i) ++ json_members (field_list_of fs) true (each (layouts_of cs) i) ≡ whole
member-text x f all fs every cs i after done name whole e h t q w =
    let rest = json_members (field_list_of fs) true (each (layouts_of cs) i) in
    text-step done (comma after) (quoted name) (slot_json (layout_of x) i) rest
    ∙ ap (λ n. done ++ (comma after ++ (quoted n ++ 58 ∷ (slot_json (layout_of x) i ++ rest)))) q
    ∙ ap (λ u. done ++ (comma after ++ (quoted (field_name (field_of f)) ++ 58 ∷ (json_of_slot u (slot (layout_of x) i) ++ rest)))) t
    ∙ sym (ap (λ gs. done ++ json_members (field_list_of gs) after (each (layouts_of every) i)) e ∙ ap (λ ys. done ++ json_members (field_list_of (f ∷ fs)) after (each (layouts_of ys) i)) h)
    ∙ w

-- no child or no field is left
pub members-none : (all : Seq Field) (every : Seq AnyArray) (i : ℕ) (after : Bool) (done whole : List ℕ) → EachType (field_list_of all) (layouts_of every) → (length all ≡ 0) ⊎ (length every ≡ 0)
    → done ++ json_members (field_list_of all) after (each (layouts_of every) i) ≡ whole → done ≡ whole
members-none [] [] i after done whole t e w = sym (append-nil done) ∙ w
members-none [] (x ∷ xs) i after done whole t e w = absurd t
members-none (f ∷ fs) [] i after done whole t e w = absurd t
members-none (f ∷ fs) (x ∷ xs) i after done whole t (inl e) w = absurd (omega arith)
members-none (f ∷ fs) (x ∷ xs) i after done whole t (inr e) w = absurd (omega arith)

-- the name of the selected field of a union
pub name-shown : (fs : Seq Field) (k : ℕ) (d : Field) → k < length fs → field_name_at (field_list_of fs) k ≡ field_name (field_of (get_or fs k d))
name-shown [] k d h = absurd (omega arith)
name-shown (f ∷ fs) zero d h = refl
name-shown (f ∷ fs) (suc k) d h = name-shown fs k d (omega arith)

pub pick-text : (t : TypeTree) (k : ℕ) (name : List ℕ) (c : Layout) (i : ℕ) (s : Slot) → physical_type t ≡ physical.Union → name ≡ field_name_at (fields_of t) k → s ≡ slots.pick k (layout_type c) (slot c i)
    → (((codes "{" ++ quoted name) ++ codes ":") ++ slot_json c i) ++ codes "}" ≡ json_of_slot t s
pick-text t k name c i s p e h =
    append_assoc ((codes "{" ++ quoted name) ++ codes ":") (slot_json c i) (codes "}")
    ∙ append_assoc (codes "{" ++ quoted name) (codes ":") (slot_json c i ++ codes "}")
    ∙ ap (λ n. 123 ∷ (quoted n ++ 58 ∷ (slot_json c i ++ codes "}"))) (e ∙ ap (λ gs. field_name_at gs k) (sym (members-type t (union-no-dictionary t p))))
    ∙ sym (ap (json_of_slot t) h)

-- the index of a field of a union
pub name-place : (a : Layout) (fs : Seq Field) (k : ℕ) → TopFits a → IsUnionOf a → field_list_of fs ≡ fields_of (layout_type a) → k < count_layouts (children_of a) → k < length fs
name-place a fs k h u e l =
    let f = union-facts (layout_type a) (types_of a) (children_of a) (union_offsets_of a) (start_of a) (subst TopFits u h) in
    let n = count_fields-field_list_of fs in
    let m = ap count_fields e in
    omega (arith, f.as_many, n, m, l)

pub union-typed : (a : Layout) → TopFits a → IsUnionOf a → physical_type (layout_type a) ≡ physical.Union
union-typed a h u = (union-facts (layout_type a) (types_of a) (children_of a) (union_offsets_of a) (start_of a) (subst TopFits u h)).typed

-- the text of a window
pub window-text : (c : Layout) (o n : ℕ) (w : WindowParts) → c ≡ w.array → o ≡ w.offset → n ≡ w.count → w.offset + w.count ≤ len w.array
    → json_list (layout_type c) (run (slot c) o n) ≡ json_of_window w
window-text c o n w e p q h =
    ap (λ b. json_list (layout_type b) (run (slot b) o n)) e
    ∙ ap (λ m. json_list (layout_type w.array) (run (slot w.array) m n)) p
    ∙ ap (λ m. json_list (layout_type w.array) (run (slot w.array) w.offset m)) q
    ∙ ap (json_list (layout_type w.array)) (items-cut w.array w.offset w.count h)
