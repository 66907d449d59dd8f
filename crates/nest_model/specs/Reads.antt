-- The slots of each kind in terms of the children's lists of slots: sublists and indices of them.
use Rattle.std.specs.Prelude.{Option, Some, None, if◌then◌else◌}
use Rattle.std.proofs.Common.{◌≡◌, ℕ, zero, suc, ◌+◌, ◌-◌, ◌*◌, ◌<◌, ◌≤◌, ℤ, pos, negsuc, Bool, true, false, List, length, get_or, refl, ap, sym, ◌∙◌, arith}
use Rattle.std.proofs.lemmas.List.Elements.{All-get_or}
use Rattle.nest_memory.specs.TypeTree.{TypeTree, size_of, ids_of}
use Rattle.nest_memory.specs.Sublist.{sublist}
use Rattle.nest_memory.specs.Rising.{last_of}
use Rattle.nest_model.specs.Part.{Validity, valid_at, count_rows, begin, extent, to_index, field_named}
use Rattle.nest_model.specs.Layout.{Layout, Layouts, fixed_size_list, list, map, struct, union, dictionary, no_layouts, more_layouts, layout_type, count_layouts}
use Rattle.nest_model.specs.Slot as slots
use Rattle.nest_model.specs.Slot.{Slot, seal}
use Rattle.nest_model.specs.Accessors.{validity_of, child_at, key_at}
use Rattle.nest_model.specs.Meaning.{run, len, first_len, union_index, slot, each, of_field, picked, slots_of, fields_at, where_valid, IsPick}
use Rattle.nest_model.specs.Runs.{product-fits, cut-run, length-run, get_or-run}
use Rattle.nest_model.specs.Fits.{EachLen, EachCovers, Names, MeansField, SlotsThere, child_len}
use Rattle.nest_model.specs.Array.{AreOffsets, TopFits}

pub slots-length : (a : Layout) → length (slots_of a) ≡ len a
slots-length a = length-run (slot a) 0 (len a)

-- The item of the list of slots at an index is the slot at that index.
pub slot-place : (a : Layout) (i : ℕ) (d : Slot) → i < len a → get_or (slots_of a) i d ≡ slot a i
slot-place a i d h = get_or-run (slot a) 0 (len a) i d h ∙ ap (slot a) (let e : 0 + i ≡ i = omega arith in e)

pub items-cut : (c : Layout) (o n : ℕ) → o + n ≤ len c → run (slot c) o n ≡ sublist (slots_of c) o n
items-cut c o n h = ap (λ q. run (slot c) q n) (let e : o ≡ 0 + o = omega arith in e) ∙ sym (cut-run (slot c) 0 (len c) o n h)

pub extent-fits : (os : List ℕ) (m i : ℕ) → AreOffsets os → last_of os ≤ m → i < count_rows os → begin os i + extent os i ≤ m
extent-fits os m i h l k =
    let a = h.1 i (i + 1) (omega arith) (omega arith) in
    let b = h.1 (i + 1) (length os - 1) (omega arith) (omega arith) in
    omega arith

pub list-slot : (l : Bool) (t : TypeTree) (os : List ℕ) (c : Layout) (va : Validity) (i : ℕ) → TopFits (list l t os c va) → i < count_rows os
    → slot (list l t os c va) i ≡ where_valid va i (slots.list (seal (sublist (slots_of c) (begin os i) (extent os i))))
list-slot l t os c va i h k = ap (λ ss. where_valid va i (slots.list (seal ss))) (items-cut c (begin os i) (extent os i) (extent-fits os (len c) i h.0 h.1.0 k))

pub map-slot : (t : TypeTree) (os : List ℕ) (c : Layout) (va : Validity) (i : ℕ) → TopFits (map t os c va) → i < count_rows os
    → slot (map t os c va) i ≡ where_valid va i (slots.list (seal (sublist (slots_of c) (begin os i) (extent os i))))
map-slot t os c va i h k = ap (λ ss. where_valid va i (slots.list (seal ss))) (items-cut c (begin os i) (extent os i) (extent-fits os (len c) i h.0 h.1.0 k))

pub fixed_size_list-slot : (t : TypeTree) (c : Layout) (va : Validity) (i : ℕ) → i < len (fixed_size_list t c va)
    → slot (fixed_size_list t c va) i ≡ where_valid va i (slots.list (seal (sublist (slots_of c) (i * size_of t) (size_of t))))
fixed_size_list-slot t c va i k =
    let p = product-fits i 1 (len c) (size_of t) (omega arith) in
    let e : 1 * size_of t ≡ size_of t = omega arith in
    ap (λ ss. where_valid va i (slots.list (seal ss))) (items-cut c (i * size_of t) (size_of t) (omega arith))

each-row : (cs : Layouts) (n i : ℕ) → EachLen cs n → i < n → each cs i ≡ fields_at cs i
each-row no_layouts n i h k = refl
each-row (more_layouts c cs) n i h k =
    let a = slot-place c i slots.null (omega arith) in
    let b = each-row cs n i h.1 k in
    cc

pub struct-slot : (t : TypeTree) (cs : Layouts) (va : Validity) (i : ℕ) → TopFits (struct t cs va) → i < first_len cs
    → slot (struct t cs va) i ≡ where_valid va i (slots.record_of (fields_at cs i))
struct-slot t cs va i h k = ap (λ ss. where_valid va i (slots.record_of ss)) (each-row cs (first_len cs) i h.1.1.1.1.1.0 k)

names-place : (z : ℤ) (n : ℕ) → Names z n → to_index z < n
names-place (pos k) n h = h
names-place (negsuc k) n h = absurd h

-- A union's slot is the pick of the field that its type id names, with the slot of that field's child.
pick-child : (f : ℕ) (cs : Layouts) (k i : ℕ) → k < count_layouts cs → i < len (child_at cs k)
    → picked f cs k i ≡ slots.pick f (layout_type (child_at cs k)) (get_or (slots_of (child_at cs k)) i slots.null)
pick-child f no_layouts k i h l = absurd (omega arith)
pick-child f (more_layouts c cs) zero i h l = ap (slots.pick f (layout_type c)) (sym (slot-place c i slots.null l))
pick-child f (more_layouts c cs) (suc k) i h l = pick-child f cs k i (omega arith) l

covers-child : (cs : Layouts) (n f : ℕ) → EachCovers cs n → f < count_layouts cs → n ≤ len (child_at cs f)
covers-child no_layouts n f h k = absurd (omega arith)
covers-child (more_layouts c cs) n zero h k = h.0
covers-child (more_layouts c cs) n (suc f) h k = covers-child cs n f h.1 (omega arith)

child_len-child : (cs : Layouts) (f : ℕ) → f < count_layouts cs → child_len cs (Some f) ≡ len (child_at cs f)
child_len-child no_layouts f k = absurd (omega arith)
child_len-child (more_layouts c cs) zero k = refl
child_len-child (more_layouts c cs) (suc f) k = child_len-child cs f (omega arith)

there-place : (ids : Option (List ℤ)) (ks : List ℤ) (cs : Layouts) (os : Option (List ℤ)) (start i f : ℕ) → SlotsThere ids ks cs os start → i < length ks
    → field_named ids (get_or ks i (pos 0)) ≡ Some f → f < count_layouts cs → union_index os start i < len (child_at cs f)
there-place ids ks cs None start i f h k e g = let a = covers-child cs (start + length ks) f h g in omega arith
there-place ids ks cs (Some os) start i f h k e g =
    let a = names-place (get_or os i (pos 0)) (child_len cs (field_named ids (get_or ks i (pos 0)))) (h i k) in
    let b = ap (child_len cs) e ∙ child_len-child cs f g in
    omega arith

means-some : (o : Option ℕ) (n : ℕ) → MeansField o n → (f : ℕ) × (o ≡ Some f) × (f < n)
means-some None n h = absurd h
means-some (Some f) n h = (f, refl, h)

pub union-slot : (t : TypeTree) (ks : List ℤ) (cs : Layouts) (os : Option (List ℤ)) (start i : ℕ) → TopFits (union t ks cs os start) → i < length ks
    → (f : ℕ) × IsPick t ks cs os start i f
union-slot t ks cs os start i h k =
    let g = h.1.1.1.1.1.1.1.1.1 in
    let m = means-some (field_named (ids_of t) (get_or ks i (pos 0))) (count_layouts cs)
    (All-get_or (λ z. MeansField (field_named (ids_of t) z) (count_layouts cs)) ks i (pos 0) k g.0) in
    let p = there-place (ids_of t) ks cs os start i m.0 g.1.0 k m.1 m.2 in (
      m.0,
      record {
        means = m.1;
        field_there = m.2;
        slot_there = p;
        picks = ap (λ o. of_field o (λ f. picked f cs f (union_index os start i))) m.1 ∙ pick-child m.0 cs m.0 (union_index os start i) m.2 p;
      },
    )

where-valid : (b : Bool) (x y z : Slot) → (b ≡ true → x ≡ y) → (if b then x else z) ≡ (if b then y else z)
where-valid true x y z h = h refl
where-valid false x y z h = refl

pub dictionary-slot : (t : TypeTree) (ks c : Layout) (i : ℕ) → TopFits (dictionary t ks c) → i < len ks
    → slot (dictionary t ks c) i ≡ where_valid (validity_of ks) i (get_or (slots_of c) (to_index (key_at ks i)) slots.null)
dictionary-slot t ks c i h k =
    where-valid (valid_at (validity_of ks) i) (slot c (to_index (key_at ks i))) (get_or (slots_of c) (to_index (key_at ks i)) slots.null) slots.null
    (λ v. sym (slot-place c (to_index (key_at ks i)) slots.null (names-place (key_at ks i) (len c) (h.1.1.1.1 i k v))))
