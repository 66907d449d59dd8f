-- Arrays with taken children.
use Rattle.std.specs.Prelude.{Some}
use Rattle.std.specs.List.{All}
use Rattle.std.proofs.Common.{◌≡◌, ℕ, suc, ◌+◌, ◌*◌, ◌/◌, ◌%◌, ◌<◌, ◌≤◌, Bool, true, List, get_or, length, refl, ap, sym, ◌∙◌, subst, arith}
use Rattle.std.proofs.lemmas.List.Elements.{All-get_or}
use Rattle.std.proofs.lemmas.List.{get_or-map}
use Rattle.std.proofs.Math.Nat.{mul-div_cancel}
use Rattle.nest_memory.specs.Sublist.{sublist}
use Rattle.nest_memory.specs.Rising.{last_of}
use Rattle.nest_memory.specs.TypeTree.{TypeTree, FieldTrees, no_fields, more_fields, size_of, fields_of}
use Rattle.nest_model.specs.Array.{AreOffsets, TopFits}
use Rattle.nest_model.specs.SelectedLaws.{length-selected}
use Rattle.nest_model.specs.FactLaws.{list-facts, map-facts, fixed_size_list-facts, fixed_size_binary-facts, struct-facts}
use Rattle.nest_model.specs.Fits.{Fits, ValidityFits, EachType, EachLen}
use Rattle.nest_model.specs.Layout.{Layout, Layouts, null, fixed_size_binary, fixed_size_list, list, map, struct, no_layouts, more_layouts, layout_type, count_layouts}
use Rattle.nest_model.specs.Meaning.{len, first_len, slot, each, slots_of}
use Rattle.nest_model.specs.Part.{Validity, valid_at, begin, extent, count_rows}
use Rattle.nest_model.specs.Reads.{slots-length, slot-place, list-slot, map-slot, fixed_size_list-slot}
use Rattle.nest_model.specs.Runs.{length-cut, product-fits, product-exact}
use Rattle.nest_model.specs.Slot as slots
use Rattle.nest_model.specs.Slot.{Slot, Slots, seal}
use Rattle.nest_take.specs.Indices.{AreBelow, count_at, item_indices, items_at, block_indices, blocks_at, taken_validity}
use Rattle.nest_take.specs.Taken.{IsTaken, EachReaches, EachTaken}
use Rattle.nest_take.proofs.At.{taken-fits}
use Rattle.nest_take.proofs.Flats.{mask-same}
use Rattle.nest_take.proofs.Pieces.{ends, ends-last, ends-rows, rows-within, row-items, items-length, count-valid, selected-pieces, blocks-length, block-cut, pieces-below}
use Rattle.nest_take.proofs.Rows.{taken}
use Rattle.nest_take.proofs.SpanRows.{validity-rows}

-- as many slots as indices, each the one at its index
pub taken-len : (a b : Layout) (is : List ℕ) → IsTaken a is b → len b ≡ length is
taken-len a b is t = sym (slots-length b) ∙ ap length t.slots ∙ length-selected (slots_of a) is

pub taken-slot : (a b : Layout) (is : List ℕ) (j : ℕ) → IsTaken a is b → AreBelow is (len a) → j < length is → slot b j ≡ slot a (get_or is j 0)
taken-slot a b is j t h k =
    let l = taken-len a b is t in
    sym (slot-place b j slots.null (omega arith))
    ∙ ap (λ ss. get_or ss j slots.null) t.slots
    ∙ get_or-map (λ p. get_or (slots_of a) p slots.null) is j 0 slots.null k
    ∙ slot-place a (get_or is j 0) slots.null (All-get_or (λ p. p < len a) is j 0 k h)

pub null-taken : (t : TypeTree) (n : ℕ) (is : List ℕ) → AreBelow is n → IsTaken (null t n) is (null t (length is))
null-taken t n is h = taken (null t n) (null t (length is)) is h refl (λ j k. refl) refl

-- the items of a row of lists or maps
rows-in : (c : Layout) (os : List ℕ) (va : Validity) (is : List ℕ) → AreOffsets os → last_of os ≤ len c → AreBelow is (count_rows os)
    → All (λ i. begin os i + count_at os va i ≤ length (slots_of c)) is
rows-in c os va is h l b = rows-within os va (length (slots_of c)) is h (let e = slots-length c in omega arith) b

pub list-indices : (c : Layout) (os : List ℕ) (va : Validity) (is : List ℕ) → AreOffsets os → last_of os ≤ len c → AreBelow is (count_rows os)
    → AreBelow (item_indices os va is) (len c)
list-indices c os va is h l b = pieces-below (len c) (begin os) (count_at os va) is (rows-within os va (len c) is h l b)

items-slots : (c d : Layout) (os : List ℕ) (va : Validity) (is : List ℕ) → All (λ i. begin os i + count_at os va i ≤ length (slots_of c)) is
    → IsTaken c (item_indices os va is) d → slots_of d ≡ items_at (slots_of c) os va is
items-slots c d os va is w t = t.slots ∙ selected-pieces (slots_of c) (begin os) (count_at os va) is w

items-count : (c d : Layout) (os : List ℕ) (va : Validity) (is : List ℕ) → All (λ i. begin os i + count_at os va i ≤ length (slots_of c)) is
    → IsTaken c (item_indices os va is) d → last_of (ends (count_at os va) is) ≤ len d
items-count c d os va is w t =
    let e = ap length (items-slots c d os va is w t) in
    let f = items-length (slots_of c) os va is w in
    let g = ends-last (count_at os va) is in
    let l = slots-length d in
    omega arith

row-same : (c d : Layout) (os : List ℕ) (va : Validity) (is : List ℕ) (j : ℕ) → All (λ i. begin os i + count_at os va i ≤ length (slots_of c)) is
    → IsTaken c (item_indices os va is) d → j < length is → valid_at va (get_or is j 0) ≡ true
    → slots.list (seal (sublist (slots_of d) (begin (ends (count_at os va) is) j) (extent (ends (count_at os va) is) j)))
    ≡ slots.list (seal (sublist (slots_of c) (begin os (get_or is j 0)) (extent os (get_or is j 0))))
row-same c d os va is j w t k v =
    let es = ends (count_at os va) is in
    let i = get_or is j 0 in
    ap (λ ss. slots.list (seal (sublist ss (begin es j) (extent es j)))) (items-slots c d os va is w t)
    ∙ ap (λ ss. slots.list (seal ss)) (row-items (slots_of c) os va is j w k ∙ ap (sublist (slots_of c) (begin os i)) (count-valid os va i v))

-- the parts of taken lists
abbrev pub list_at : Bool → TypeTree → List ℕ → Layout → Validity → List ℕ → Layout
list_at large t os d va is = list large t (ends (count_at os va) is) d (taken_validity va is)

list-core : (large : Bool) (t : TypeTree) (os : List ℕ) (c d : Layout) (va : Validity) (is : List ℕ) → TopFits (list large t os c va) → AreBelow is (count_rows os)
    → AreOffsets (ends (count_at os va) is) → IsTaken c (item_indices os va is) d
    → Fits (list_at large t os d va is) × IsTaken (list large t os c va) is (list_at large t os d va is)
list-core large t os c d va is h b o g =
    let f = list-facts large t os c va h in
    let w = rows-in c os va is f.rising f.within b in
    let es = ends (count_at os va) is in
    let v = taken_validity va is in
    let fits : Fits (list_at large t os d va is) = (items-count c d os va is w g, (validity-rows os va is, (f.typed, (f.items ∙ ap Some (sym g.same_type), tt)))) in (
      fits,
      taken (list large t os c va) (list_at large t os d va is) is b (ends-rows (count_at os va) is)
          (λ j k.
          let i = get_or is j 0 in
          let r : j < count_rows es = omega (arith, ends-rows (count_at os va) is) in
          list-slot large t es d v j (o, fits) r
          ∙ mask-same va v is j _ _ refl k (row-same c d os va is j w g k)
          ∙ sym (list-slot large t os c va i h (b j 0 k)))
          refl,
    )

pub list-taken : (large : Bool) (a : Layout) (u : TypeTree) (os es : List ℕ) (c d : Layout) (va v : Validity) (is ps : List ℕ) → TopFits a → a ≡ list large (layout_type a) os c va → AreBelow is (len a)
    → u ≡ layout_type a → es ≡ ends (count_at os va) is → AreOffsets es → v ≡ taken_validity va is → ps ≡ item_indices os va is → IsTaken c ps d
    → Fits (list large u es d v) × IsTaken a is (list large u es d v)
list-taken large a u os es c d va v is ps h e b p q o r s g =
    let t = layout_type a in
    let x = list-core large t os c d va is (subst TopFits e h) (subst (λ z. AreBelow is (len z)) e b) (subst AreOffsets q o) (subst (λ z. IsTaken c z d) s g) in
    let y : list_at large t os d va is ≡ list large u es d v = cc in
    subst (λ z. Fits z × IsTaken a is z) y (subst (λ z. Fits (list_at large t os d va is) × IsTaken z is (list_at large t os d va is)) (sym e) x)

abbrev pub map_at : TypeTree → List ℕ → Layout → Validity → List ℕ → Layout
map_at t os d va is = map t (ends (count_at os va) is) d (taken_validity va is)

map-core : (t : TypeTree) (os : List ℕ) (c d : Layout) (va : Validity) (is : List ℕ) → TopFits (map t os c va) → AreBelow is (count_rows os)
    → AreOffsets (ends (count_at os va) is) → IsTaken c (item_indices os va is) d
    → Fits (map_at t os d va is) × IsTaken (map t os c va) is (map_at t os d va is)
map-core t os c d va is h b o g =
    let f = map-facts t os c va h in
    let w = rows-in c os va is f.rising f.within b in
    let es = ends (count_at os va) is in
    let v = taken_validity va is in
    let fits : Fits (map_at t os d va is) = (items-count c d os va is w g, (f.typed, (f.pairs, (f.entries ∙ ap Some (sym g.same_type), (validity-rows os va is, tt))))) in (
      fits,
      taken (map t os c va) (map_at t os d va is) is b (ends-rows (count_at os va) is)
          (λ j k.
          let i = get_or is j 0 in
          let r : j < count_rows es = omega (arith, ends-rows (count_at os va) is) in
          map-slot t es d v j (o, fits) r
          ∙ mask-same va v is j _ _ refl k (row-same c d os va is j w g k)
          ∙ sym (map-slot t os c va i h (b j 0 k)))
          refl,
    )

pub map-taken : (a : Layout) (u : TypeTree) (os es : List ℕ) (c d : Layout) (va v : Validity) (is ps : List ℕ) → TopFits a → a ≡ map (layout_type a) os c va → AreBelow is (len a)
    → u ≡ layout_type a → es ≡ ends (count_at os va) is → AreOffsets es → v ≡ taken_validity va is → ps ≡ item_indices os va is → IsTaken c ps d
    → Fits (map u es d v) × IsTaken a is (map u es d v)
map-taken a u os es c d va v is ps h e b p q o r s g =
    let t = layout_type a in
    let x = map-core t os c d va is (subst TopFits e h) (subst (λ z. AreBelow is (len z)) e b) (subst AreOffsets q o) (subst (λ z. IsTaken c z d) s g) in
    let y : map_at t os d va is ≡ map u es d v = cc in
    subst (λ z. Fits z × IsTaken a is z) y (subst (λ z. Fits (map_at t os d va is) × IsTaken z is (map_at t os d va is)) (sym e) x)

-- fixed-size rows
pub blocks-within : (s m : ℕ) (is : List ℕ) → AreBelow is (m / s) → All (λ i. i * s + s ≤ m) is
blocks-within s m is h j d k =
    let i = get_or is j d in
    let a = h j d k in
    let p = product-fits i 1 m s (omega arith) in
    let e : 1 * s ≡ s = omega arith in
    omega arith

pub block-indices-below : (s m : ℕ) (is : List ℕ) → AreBelow is (m / s) → AreBelow (block_indices s is) m
block-indices-below s m is h = pieces-below m (λ i. i * s) (λ i. s) is (blocks-within s m is h)

block-lengths : {A : Type 0} (xs : List A) (s : ℕ) (is : List ℕ) → All (λ i. i * s + s ≤ length xs) is → All (λ i. length (sublist xs (i * s) s) ≡ s) is
block-lengths xs s is h j d k = length-cut xs (get_or is j d * s) s (h j d k)

abbrev pub sized_at : TypeTree → Layout → Validity → List ℕ → Layout
sized_at t d va is = fixed_size_list t d (taken_validity va is)

sized-core : (t : TypeTree) (c d : Layout) (va : Validity) (is : List ℕ) → TopFits (fixed_size_list t c va) → AreBelow is (len c / size_of t)
    → IsTaken c (block_indices (size_of t) is) d
    → Fits (sized_at t d va is) × IsTaken (fixed_size_list t c va) is (sized_at t d va is)
sized-core t c d va is h b g =
    let s = size_of t in
    let f = fixed_size_list-facts t c va h in
    let w = blocks-within s (len c) is b in
    let w' : All (λ i. i * s + s ≤ length (slots_of c)) is = λ j x k. let y = w j x k in let z = slots-length c in omega arith in
    let bl = block-lengths (slots_of c) s is w' in
    let es = g.slots ∙ selected-pieces (slots_of c) (λ i. i * s) (λ i. s) is w' in
    let l : len d ≡ length is * s = sym (slots-length d) ∙ ap length es ∙ blocks-length (λ i. sublist (slots_of c) (i * s) s) s is bl in
    let n : len d / s ≡ length is = ap (λ z. z / s) l ∙ mul-div_cancel (length is) f.sized in
    let m : len d % s ≡ 0 = ap (λ z. z % s) l ∙ product-exact (length is) s in
    let v = taken_validity va is in
    let fits : Fits (sized_at t d va is) = (f.typed, (f.sized, (f.items ∙ ap Some (sym g.same_type), (m, (subst (ValidityFits v) (sym n) (taken-fits va is), tt))))) in (
      fits,
      taken (fixed_size_list t c va) (sized_at t d va is) is b n
          (λ j k.
          let i = get_or is j 0 in
          let r : j < len (fixed_size_list t d v) = omega arith in
          fixed_size_list-slot t d v j r
          ∙ mask-same va v is j (slots.list (seal (sublist (slots_of d) (j * s) s))) (slots.list (seal (sublist (slots_of c) (i * s) s))) refl k
          (λ _. ap (λ ss. slots.list (seal (sublist ss (j * s) s))) es ∙ ap (λ ss. slots.list (seal ss)) (block-cut (λ p. sublist (slots_of c) (p * s) s) s is j bl k))
          ∙ sym (fixed_size_list-slot t c va i (b j 0 k)))
          refl,
    )

pub sized-taken : (a : Layout) (u : TypeTree) (s : ℕ) (c d : Layout) (va v : Validity) (is ps : List ℕ) → TopFits a → a ≡ fixed_size_list (layout_type a) c va → AreBelow is (len a)
    → u ≡ layout_type a → s ≡ size_of (layout_type a) → v ≡ taken_validity va is → ps ≡ block_indices s is → IsTaken c ps d
    → Fits (fixed_size_list u d v) × IsTaken a is (fixed_size_list u d v)
sized-taken a u s c d va v is ps h e b p q r k g =
    let t = layout_type a in
    let m = k ∙ ap (λ z. block_indices z is) q in
    let x = sized-core t c d va is (subst TopFits e h) (subst (λ z. AreBelow is (len z)) e b) (subst (λ z. IsTaken c z d) m g) in
    let y : sized_at t d va is ≡ fixed_size_list u d v = cc in
    subst (λ z. Fits z × IsTaken a is z) y (subst (λ z. Fits (sized_at t d va is) × IsTaken z is (sized_at t d va is)) (sym e) x)

-- fixed-size binary
abbrev pub fixed_at : TypeTree → List ℕ → Validity → List ℕ → Layout
fixed_at t bs va is = fixed_size_binary t (blocks_at bs (size_of t) is) (taken_validity va is)

fixed-core : (t : TypeTree) (bs : List ℕ) (va : Validity) (is : List ℕ) → TopFits (fixed_size_binary t bs va) → AreBelow is (length bs / size_of t)
    → Fits (fixed_at t bs va is) × IsTaken (fixed_size_binary t bs va) is (fixed_at t bs va is)
fixed-core t bs va is h b =
    let s = size_of t in
    let f = fixed_size_binary-facts t bs va h in
    let w = blocks-within s (length bs) is b in
    let bl = block-lengths bs s is w in
    let l = blocks-length (λ i. sublist bs (i * s) s) s is bl in
    let n : length (blocks_at bs s is) / s ≡ length is = ap (λ z. z / s) l ∙ mul-div_cancel (length is) f.sized in
    let m : length (blocks_at bs s is) % s ≡ 0 = ap (λ z. z % s) l ∙ product-exact (length is) s in
    let v = taken_validity va is in
    let fits : Fits (fixed_at t bs va is) = (f.typed, (f.sized, (m, (subst (ValidityFits v) (sym n) (taken-fits va is), tt)))) in (
      fits,
      taken (fixed_size_binary t bs va) (fixed_at t bs va is) is b n
          (λ j k.
          let i = get_or is j 0 in
          mask-same va v is j (slots.bytes (sublist (blocks_at bs s is) (j * s) s)) (slots.bytes (sublist bs (i * s) s)) refl k
          (λ _. ap slots.bytes (block-cut (λ p. sublist bs (p * s) s) s is j bl k)))
          refl,
    )

pub fixed-taken : (a : Layout) (u : TypeTree) (s : ℕ) (bs cs : List ℕ) (va v : Validity) (is : List ℕ) → TopFits a → a ≡ fixed_size_binary (layout_type a) bs va → AreBelow is (len a)
    → u ≡ layout_type a → s ≡ size_of (layout_type a) → cs ≡ blocks_at bs s is → v ≡ taken_validity va is
    → Fits (fixed_size_binary u cs v) × IsTaken a is (fixed_size_binary u cs v)
fixed-taken a u s bs cs va v is h e b p q k r =
    let t = layout_type a in
    let m = k ∙ ap (λ z. blocks_at bs z is) q in
    let x = fixed-core t bs va is (subst TopFits e h) (subst (λ z. AreBelow is (len z)) e b) in
    let y : fixed_at t bs va is ≡ fixed_size_binary u cs v = cc in
    subst (λ z. Fits z × IsTaken a is z) y (subst (λ z. Fits (fixed_at t bs va is) × IsTaken z is (fixed_at t bs va is)) (sym e) x)

-- structs
pub each-reaches : (cs : Layouts) (n : ℕ) (is : List ℕ) → EachLen cs n → AreBelow is n → EachReaches cs is
each-reaches no_layouts n is h b = tt
each-reaches (more_layouts c cs) n is h b = (subst (AreBelow is) (sym h.0) b, each-reaches cs n is h.1 b)

each-same : (cs ds : Layouts) (is : List ℕ) (j : ℕ) → EachReaches cs is → EachTaken cs is ds → j < length is → each ds j ≡ each cs (get_or is j 0)
each-same no_layouts no_layouts is j h t k = refl
each-same no_layouts (more_layouts d ds) is j h t k = absurd t
each-same (more_layouts c cs) no_layouts is j h t k = absurd t
each-same (more_layouts c cs) (more_layouts d ds) is j h t k =
    let a = taken-slot c d is j t.0 h.0 k in
    let b = each-same cs ds is j h.1 t.1 k in
    cc

pub each-count : (cs ds : Layouts) (is : List ℕ) → EachTaken cs is ds → count_layouts ds ≡ count_layouts cs
each-count no_layouts no_layouts is t = refl
each-count no_layouts (more_layouts d ds) is t = absurd t
each-count (more_layouts c cs) no_layouts is t = absurd t
each-count (more_layouts c cs) (more_layouts d ds) is t = ap suc (each-count cs ds is t.1)

pub each-type : (fs : FieldTrees) (cs ds : Layouts) (is : List ℕ) → EachType fs cs → EachTaken cs is ds → EachType fs ds
each-type no_fields no_layouts no_layouts is h t = tt
each-type fs no_layouts (more_layouts d ds) is h t = absurd t
each-type fs (more_layouts c cs) no_layouts is h t = absurd t
each-type no_fields (more_layouts c cs) (more_layouts d ds) is h t = absurd h
each-type (more_fields f fs) no_layouts no_layouts is h t = absurd h
each-type (more_fields f fs) (more_layouts c cs) (more_layouts d ds) is h t = (t.0.same_type ∙ h.0, each-type fs cs ds is h.1 t.1)

pub each-len : (cs ds : Layouts) (is : List ℕ) → EachTaken cs is ds → EachLen ds (length is)
each-len no_layouts no_layouts is t = tt
each-len no_layouts (more_layouts d ds) is t = absurd t
each-len (more_layouts c cs) no_layouts is t = absurd t
each-len (more_layouts c cs) (more_layouts d ds) is t = (taken-len c d is t.0, each-len cs ds is t.1)

first-of : (ds : Layouts) (n : ℕ) → EachLen ds n → 0 < count_layouts ds → first_len ds ≡ n
first-of no_layouts n h k = absurd (omega arith)
first-of (more_layouts d ds) n h k = h.0

abbrev pub record_at : TypeTree → Layouts → Validity → List ℕ → Layout
record_at t ds va is = struct t ds (taken_validity va is)

record-core : (t : TypeTree) (cs ds : Layouts) (va : Validity) (is : List ℕ) → TopFits (struct t cs va) → AreBelow is (first_len cs) → EachTaken cs is ds
    → Fits (record_at t ds va is) × IsTaken (struct t cs va) is (record_at t ds va is)
record-core t cs ds va is h b g =
    let f = struct-facts t cs va h in
    let n = each-count cs ds is g in
    let l = each-len cs ds is g in
    let q : first_len ds ≡ length is = first-of ds (length is) l (let a = f.as_many in let c = f.some_field in omega arith) in
    let v = taken_validity va is in
    let fits : Fits (record_at t ds va is) = (f.typed, (f.some_field, (n ∙ f.as_many, (each-type (fields_of t) cs ds is f.each_type g, (subst (EachLen ds) (sym q) l, (subst (ValidityFits v) (sym q) (taken-fits va is), tt)))))) in (
      fits,
      taken (struct t cs va) (record_at t ds va is) is b q
          (λ j k. mask-same va v is j (slots.record_of (each ds j)) (slots.record_of (each cs (get_or is j 0))) refl k
          (λ _. ap slots.record_of (each-same cs ds is j (each-reaches cs (first_len cs) is f.each_len b) g k)))
          refl,
    )

pub record-taken : (a : Layout) (u : TypeTree) (cs ds : Layouts) (va v : Validity) (is : List ℕ) → TopFits a → a ≡ struct (layout_type a) cs va → AreBelow is (len a)
    → u ≡ layout_type a → v ≡ taken_validity va is → EachTaken cs is ds
    → Fits (struct u ds v) × IsTaken a is (struct u ds v)
record-taken a u cs ds va v is h e b p r g =
    let t = layout_type a in
    let x = record-core t cs ds va is (subst TopFits e h) (subst (λ z. AreBelow is (len z)) e b) g in
    let y : record_at t ds va is ≡ struct u ds v = cc in
    subst (λ z. Fits z × IsTaken a is z) y (subst (λ z. Fits (record_at t ds va is) × IsTaken z is (record_at t ds va is)) (sym e) x)
