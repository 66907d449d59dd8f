-- Arrays over the same child arrays are the same array, and so are dictionary arrays over extended values.
use Rattle.std.proofs.Common.{◌≡◌, ℕ, zero, suc, ◌+◌, ◌-◌, ◌*◌, ◌/◌, ◌<◌, ◌≤◌, Bool, List, ◌++◌, length, get_or, Some, None, refl, sym, ap, subst, ◌∙◌, arith, length-append}
use Rattle.std.specs.Prelude.{ℤ, pos, Option, if◌then◌else◌}
use Rattle.std.proofs.lemmas.List.{get_or_append_left}
use Rattle.nest_memory.specs.Rising.{last_of}
use Rattle.nest_memory.specs.TypeTree.{TypeTree, size_of, ids_of}
use Rattle.nest_model.specs.Accessors.{validity_of, key_at}
use Rattle.nest_model.specs.Array.{AreOffsets, TopFits}
use Rattle.nest_model.specs.Fits.{EachLen, EachCovers, EachValidNames, Names, SlotsThere, child_len}
use Rattle.nest_model.specs.Layout.{Layout, Layouts, fixed_size_list, list as list_of, map as map_of, struct, union, dictionary, no_layouts, more_layouts, layout_type}
use Rattle.nest_model.specs.Meaning.{len, first_len, slot, each, picked, run, slots_of}
use Rattle.nest_model.specs.Part.{Validity, begin, extent, count_rows, valid_at, field_named, to_index}
use Rattle.nest_model.specs.Reads.{slots-length, slot-place}
use Rattle.nest_model.specs.Runs.{run-ext, product-fits}
use Rattle.nest_model.specs.SameArray.{IsSameArray}
use Rattle.nest_model.specs.SameArrayLaws.{same-len, same-slot, same-from_places}
use Rattle.nest_model.specs.Slot as slots
use Rattle.nest_model.specs.Slot.{Slot, seal}
use Rattle.ipc_arrays.specs.RoundTripLaws.{of_same, place_named}
use Rattle.ipc_arrays.specs.ReplacedValues.{IsExtendedBy, same_where_valid}

-- the same child arrays in order
abbrev pub EachSame : Layouts → Layouts → Type 0
EachSame no_layouts no_layouts = Unit {0}
EachSame no_layouts (more_layouts d ds) = ⊥
EachSame (more_layouts c cs) no_layouts = ⊥
EachSame (more_layouts c cs) (more_layouts d ds) = IsSameArray c d × EachSame cs ds

-- ---- lists, maps

row_same : (os : List ℕ) (c d : Layout) (i : ℕ) → AreOffsets os → last_of os ≤ len c → IsSameArray c d → i < count_rows os → run (slot c) (begin os i) (extent os i) ≡ run (slot d) (begin os i) (extent os i)
row_same os c d i are within h lt =
    run-ext (slot c) (slot d) (begin os i) (begin os i) (extent os i)
    (λ j k.
    let end = are.1 (i + 1) (length os - 1) (omega arith) (omega arith) in
    let inside : begin os i + j < len c = omega (arith, end, within) in
    same-slot c d (begin os i + j) h inside)

pub list_same : (large : Bool) (t : TypeTree) (os : List ℕ) (c d : Layout) (va : Validity) → AreOffsets os → last_of os ≤ len c → IsSameArray c d → IsSameArray (list_of large t os c va) (list_of large t os d va)
list_same large t os c d va are within h =
    same-from_places (list_of large t os c va) (list_of large t os d va) refl refl (λ i lt. λ w. if valid_at va i then slots.list (seal (row_same os c d i are within h lt w)) else slots.null)

pub map_same : (t : TypeTree) (os : List ℕ) (c d : Layout) (va : Validity) → AreOffsets os → last_of os ≤ len c → IsSameArray c d → IsSameArray (map_of t os c va) (map_of t os d va)
map_same t os c d va are within h =
    same-from_places (map_of t os c va) (map_of t os d va) refl refl (λ i lt. λ w. if valid_at va i then slots.list (seal (row_same os c d i are within h lt w)) else slots.null)

-- ---- fixed-size lists

sized_row : (c d : Layout) (size i : ℕ) → IsSameArray c d → i < len c / size → run (slot c) (i * size) size ≡ run (slot d) (i * size) size
sized_row c d size i h lt =
    let whole : i * size + 1 * size ≤ len c = product-fits i 1 (len c) size (omega arith) in
    let one : 1 * size ≡ size = omega arith in
    run-ext (slot c) (slot d) (i * size) (i * size) size (λ j k. same-slot c d (i * size + j) h (omega (arith, whole, one)))

pub sized_same : (t : TypeTree) (c d : Layout) (va : Validity) → IsSameArray c d → IsSameArray (fixed_size_list t c va) (fixed_size_list t d va)
sized_same t c d va h =
    same-from_places (fixed_size_list t c va) (fixed_size_list t d va) refl (ap (λ (n : ℕ). n / size_of t) (same-len c d h)) (λ i lt. λ w. if valid_at va i then slots.list (seal (sized_row c d (size_of t) i h lt w)) else slots.null)

-- ---- structs

first_same : (cs ds : Layouts) → EachSame cs ds → first_len cs ≡ first_len ds
first_same no_layouts no_layouts h = refl
first_same no_layouts (more_layouts d ds) h = absurd h
first_same (more_layouts c cs) no_layouts h = absurd h
first_same (more_layouts c cs) (more_layouts d ds) h = same-len c d h.0

fields_same : (cs ds : Layouts) (n i : ℕ) → EachSame cs ds → EachLen cs n → i < n → each cs i ≡ each ds i
fields_same no_layouts no_layouts n i h long lt = refl
fields_same no_layouts (more_layouts d ds) n i h long lt = absurd h
fields_same (more_layouts c cs) no_layouts n i h long lt = absurd h
fields_same (more_layouts c cs) (more_layouts d ds) n i h long lt =
    let inside : i < len c = omega (arith, long.0) in
    λ w. slots.more_slots (same-slot c d i h.0 inside w) (fields_same cs ds n i h.1 long.1 lt w)

pub struct_same : (t : TypeTree) (cs ds : Layouts) (va : Validity) → TopFits (struct t cs va) → EachSame cs ds → IsSameArray (struct t cs va) (struct t ds va)
struct_same t cs ds va fits h =
    same-from_places (struct t cs va) (struct t ds va) refl (first_same cs ds h) (λ i lt. λ w. if valid_at va i then slots.record_of (fields_same cs ds (first_len cs) i h fits.1.1.1.1.1.0 lt w) else slots.null)

-- ---- unions

pick_same : (f : ℕ) (c d : Layout) (i : ℕ) → IsSameArray c d → i < len c → slots.pick f (layout_type c) (slot c i) ≡ slots.pick f (layout_type d) (slot d i)
pick_same f c d i h lt = λ w. slots.pick f (h.0 w) (same-slot c d i h lt w)

picked_covered : (f : ℕ) (cs ds : Layouts) (n k i : ℕ) → EachSame cs ds → EachCovers cs n → i < n → picked f cs k i ≡ picked f ds k i
picked_covered f no_layouts no_layouts n k i h covers lt = refl
picked_covered f no_layouts (more_layouts d ds) n k i h covers lt = absurd h
picked_covered f (more_layouts c cs) no_layouts n k i h covers lt = absurd h
picked_covered f (more_layouts c cs) (more_layouts d ds) n zero i h covers lt = pick_same f c d i h.0 (omega (arith, covers.0))
picked_covered f (more_layouts c cs) (more_layouts d ds) n (suc k) i h covers lt = picked_covered f cs ds n k i h.1 covers.1 lt

picked_there : (f : ℕ) (cs ds : Layouts) (k i : ℕ) → EachSame cs ds → i < child_len cs (Some k) → picked f cs k i ≡ picked f ds k i
picked_there f no_layouts no_layouts k i h lt = refl
picked_there f no_layouts (more_layouts d ds) k i h lt = absurd h
picked_there f (more_layouts c cs) no_layouts k i h lt = absurd h
picked_there f (more_layouts c cs) (more_layouts d ds) zero i h lt = pick_same f c d i h.0 lt
picked_there f (more_layouts c cs) (more_layouts d ds) (suc k) i h lt = picked_there f cs ds k i h.1 lt

pick_at : (t : TypeTree) (ks : List ℤ) (cs ds : Layouts) (os : Option (List ℤ)) (start i : ℕ) → SlotsThere (ids_of t) ks cs os start → EachSame cs ds → i < length ks → slot (union t ks cs os start) i ≡ slot (union t ks ds os start) i
pick_at t ks cs ds None start i there h lt =
    of_same (field_named (ids_of t) (get_or ks i (pos 0))) (λ f. picked f cs f (start + i)) (λ f. picked f ds f (start + i))
    (λ f m. picked_covered f cs ds (start + length ks) f (start + i) h there (omega arith))
pick_at t ks cs ds (Some os) start i there h lt =
    let offset : ℤ = get_or os i (pos 0) in
    of_same (field_named (ids_of t) (get_or ks i (pos 0))) (λ f. picked f cs f (to_index offset)) (λ f. picked f ds f (to_index offset))
    (λ f m. picked_there f cs ds f (to_index offset) h (place_named offset (child_len cs (Some f)) (subst (λ (o : Option ℕ). Names offset (child_len cs o)) m (there i lt))))

pub union_same : (t : TypeTree) (ks : List ℤ) (cs ds : Layouts) (os : Option (List ℤ)) (start : ℕ) → TopFits (union t ks cs os start) → EachSame cs ds → IsSameArray (union t ks cs os start) (union t ks ds os start)
union_same t ks cs ds os start fits h =
    same-from_places (union t ks cs os start) (union t ks ds os start) refl refl (λ i lt. pick_at t ks cs ds os start i fits.1.1.1.1.1.1.1.1.1.1.0 h lt)

-- ---- dictionary arrays

grown_slot : (c d : Layout) (p : ℕ) → IsExtendedBy c d → p < len c → slot c p ≡ slot d p
grown_slot c d p h lt =
    let long : length (slots_of d) ≡ len d = slots-length d in
    let short : length (slots_of c) ≡ len c = slots-length c in
    let inside : p < length (slots_of c) = omega arith in
    let all : length (slots_of d) ≡ length (slots_of c ++ h.more) = ap length h.slots in
    let further : p < len d = omega (arith, length-append (slots_of c) h.more) in
    sym (slot-place c p slots.null lt)
    ∙ sym (get_or_append_left (slots_of c) h.more slots.null p inside)
    ∙ ap (λ (ss : List Slot). get_or ss p slots.null) (sym h.slots)
    ∙ slot-place d p slots.null further

pub keyed_same : (t : TypeTree) (ks c d : Layout) → EachValidNames (validity_of ks) ks (len c) → IsExtendedBy c d → IsSameArray (dictionary t ks c) (dictionary t ks d)
keyed_same t ks c d named h =
    same-from_places (dictionary t ks c) (dictionary t ks d) refl refl
    (λ i lt.
    same_where_valid (valid_at (validity_of ks) i) (slot c (to_index (key_at ks i))) (slot d (to_index (key_at ks i)))
    (λ valid. grown_slot c d (to_index (key_at ks i)) h (place_named (key_at ks i) (len c) (named i lt valid))))
