-- Laws: a slice of an array represents the sublist of its slots.
use Rattle.std.specs.Prelude.{Option, Some, None}
use Rattle.std.proofs.Common.{◌≡◌, ℕ, ◌+◌, ◌*◌, ◌/◌, ◌<◌, ◌≤◌, ℤ, pos, false, List, [], length, get_or, take, drop, refl, ap, sym, ◌∙◌, arith}
use Rattle.std.proofs.Math.ListN.{get_or-map}
use Rattle.nest_memory.specs.TypeTree.{size_of, ids_of}
use Rattle.nest_memory.specs.Sublist.{sublist}
use Rattle.nest_model.specs.Part.{valid_at, begin, extent, to_index, field_named}
use Rattle.nest_model.specs.Layout.{Layout, Layouts, null, boolean, primitive, binary, utf8, fixed_size_binary, fixed_size_list, list, map, struct, union, dictionary, no_layouts, more_layouts, layout_type}
use Rattle.nest_model.specs.Meaning.{run, len, first_len, union_index, slot, of_field, picked, each, slots_of}
use Rattle.nest_model.specs.Accessors.{validity_of, as_integer, key_at}
use Rattle.nest_model.specs.Slice.{slice_layout, slice_layouts, slice_offsets, IsSlice}
use Rattle.nest_model.specs.Runs.{cut-cut, length-cut, get_or-cut, rows-cut, valid-cut, validity-cut-cut, product-sum, product-fits, product-within, product-end, product-below, product-over, run-ext, cut-run}

pub begin-cut : (os : List ℕ) (o n i : ℕ) → i < n → begin (take (n + 1) (drop o os)) i ≡ begin os (o + i)
begin-cut os o n i h = get_or-cut os o (n + 1) i 0 (omega arith)

pub extent-cut : (os : List ℕ) (o n i : ℕ) → i < n → extent (take (n + 1) (drop o os)) i ≡ extent os (o + i)
extent-cut os o n i h =
    let e = get_or-cut os o (n + 1) i 0 (omega arith) in
    let z : o + (i + 1) ≡ o + i + 1 = omega arith in
    let f = get_or-cut os o (n + 1) (i + 1) 0 (omega arith) ∙ ap (λ k. get_or os k 0) z in
    cc

pub union_index-cut : (os : Option (List ℤ)) (start o n i : ℕ) → i < n → union_index (slice_offsets os o n) (start + o) i ≡ union_index os start (o + i)
union_index-cut None start o n i h = omega arith
union_index-cut (Some os) start o n i h = ap to_index (get_or-cut os o n i (pos 0) h)

-- The validity and the keys of a slice.
pub valid_at-cut : (a : Layout) (o n i : ℕ) → i < n → valid_at (validity_of (slice_layout a o n)) i ≡ valid_at (validity_of a) (o + i)
valid_at-cut (null t m) o n i h = refl
valid_at-cut (boolean t bs va) o n i h = valid-cut va o n i h
valid_at-cut (primitive k t vs va) o n i h = valid-cut va o n i h
valid_at-cut (binary l t os bs va) o n i h = valid-cut va o n i h
valid_at-cut (utf8 l t os bs va) o n i h = valid-cut va o n i h
valid_at-cut (fixed_size_binary t bs va) o n i h = valid-cut va o n i h
valid_at-cut (fixed_size_list t c va) o n i h = valid-cut va o n i h
valid_at-cut (list l t os c va) o n i h = valid-cut va o n i h
valid_at-cut (map t os c va) o n i h = valid-cut va o n i h
valid_at-cut (struct t cs va) o n i h = valid-cut va o n i h
valid_at-cut (union t ks cs os start) o n i h = refl
valid_at-cut (dictionary t ks c) o n i h = valid_at-cut ks o n i h

pub key_at-cut : (a : Layout) (o n i : ℕ) → i < n → key_at (slice_layout a o n) i ≡ key_at a (o + i)
key_at-cut (primitive k t vs va) o n i h =
    get_or-map as_integer (take n (drop o vs)) i []
    ∙ ap as_integer (get_or-cut vs o n i [] h)
    ∙ sym (get_or-map as_integer vs (o + i) [])
key_at-cut a o n i h = refl

pub type-cut : (a : Layout) (o n : ℕ) → layout_type (slice_layout a o n) ≡ layout_type a
type-cut (null t m) o n = refl
type-cut (boolean t bs va) o n = refl
type-cut (primitive k t vs va) o n = refl
type-cut (binary l t os bs va) o n = refl
type-cut (utf8 l t os bs va) o n = refl
type-cut (fixed_size_binary t bs va) o n = refl
type-cut (fixed_size_list t c va) o n = refl
type-cut (list l t os c va) o n = refl
type-cut (map t os c va) o n = refl
type-cut (struct t cs va) o n = refl
type-cut (union t ks cs os start) o n = refl
type-cut (dictionary t ks c) o n = refl

mutual
  pub slot-cut : (a : Layout) (o n i : ℕ) → i < n → slot (slice_layout a o n) i ≡ slot a (o + i)
  slot-cut (null t m) o n i h = refl
  slot-cut (boolean t bs va) o n i h =
      let v = valid-cut va o n i h in
      let e = get_or-cut bs o n i false h in
      cc
  slot-cut (primitive k t vs va) o n i h =
      let v = valid-cut va o n i h in
      let e = get_or-cut vs o n i [] h in
      cc
  slot-cut (binary l t os bs va) o n i h =
      let v = valid-cut va o n i h in
      let e = begin-cut os o n i h in
      let f = extent-cut os o n i h in
      cc
  slot-cut (utf8 l t os bs va) o n i h =
      let v = valid-cut va o n i h in
      let e = begin-cut os o n i h in
      let f = extent-cut os o n i h in
      cc
  slot-cut (fixed_size_binary t bs va) o n i h =
      let v = valid-cut va o n i h in
      let k : i * size_of t + size_of t ≤ n * size_of t = product-end i n (size_of t) h in
      let e = cut-cut bs (o * size_of t) (n * size_of t) (i * size_of t) (size_of t) k in
      let p = product-sum o i (size_of t) in
      cc
  slot-cut (fixed_size_list t c va) o n i h =
      let v = valid-cut va o n i h in
      let p = product-sum o i (size_of t) in
      let e : run (slot (slice_layout c (o * size_of t) (n * size_of t))) (i * size_of t) (size_of t) ≡ run (slot c) ((o + i) * size_of t) (size_of t)
      = run-ext (slot (slice_layout c (o * size_of t) (n * size_of t))) (slot c) (i * size_of t) ((o + i) * size_of t) (size_of t)
      (λ k j. slot-cut c (o * size_of t) (n * size_of t) (i * size_of t + k) (product-within i k n (size_of t) h j)
      ∙ ap (slot c) (let q : o * size_of t + (i * size_of t + k) ≡ (o + i) * size_of t + k = omega arith in q)) in
      cc
  slot-cut (list l t os c va) o n i h =
      let v = valid-cut va o n i h in
      let e = begin-cut os o n i h in
      let f = extent-cut os o n i h in
      cc
  slot-cut (map t os c va) o n i h =
      let v = valid-cut va o n i h in
      let e = begin-cut os o n i h in
      let f = extent-cut os o n i h in
      cc
  slot-cut (struct t cs va) o n i h =
      let v = valid-cut va o n i h in
      let e = each-cut cs o n i h in
      cc
  slot-cut (union t ks cs os start) o n i h =
      let e = get_or-cut ks o n i (pos 0) h in
      let p = union_index-cut os start o n i h in
      ap (λ k. of_field (field_named (ids_of t) k) (λ f. picked f cs f (union_index (slice_offsets os o n) (start + o) i))) e
      ∙ ap (λ q. of_field (field_named (ids_of t) (get_or ks (o + i) (pos 0))) (λ f. picked f cs f q)) p
  slot-cut (dictionary t ks c) o n i h =
      let v = valid_at-cut ks o n i h in
      let e = key_at-cut ks o n i h in
      cc

  pub each-cut : (cs : Layouts) (o n i : ℕ) → i < n → each (slice_layouts cs o n) i ≡ each cs (o + i)
  each-cut no_layouts o n i h = refl
  each-cut (more_layouts c cs) o n i h =
      let a = slot-cut c o n i h in
      let b = each-cut cs o n i h in
      cc

mutual
  pub len-cut : (a : Layout) (o n : ℕ) → o + n ≤ len a → len (slice_layout a o n) ≡ n
  len-cut (null t m) o n h = refl
  len-cut (boolean t bs va) o n h = length-cut bs o n h
  len-cut (primitive k t vs va) o n h = length-cut vs o n h
  len-cut (binary l t os bs va) o n h = rows-cut os o n h
  len-cut (utf8 l t os bs va) o n h = rows-cut os o n h
  len-cut (fixed_size_binary t bs va) o n h =
      ap (λ z. z / size_of t) (length-cut bs (o * size_of t) (n * size_of t) (product-fits o n (length bs) (size_of t) h)) ∙ product-over o n (length bs) (size_of t) h
  len-cut (fixed_size_list t c va) o n h =
      ap (λ z. z / size_of t) (len-cut c (o * size_of t) (n * size_of t) (product-fits o n (len c) (size_of t) h)) ∙ product-over o n (len c) (size_of t) h
  len-cut (list l t os c va) o n h = rows-cut os o n h
  len-cut (map t os c va) o n h = rows-cut os o n h
  len-cut (struct t cs va) o n h = first_len-cut cs o n h
  len-cut (union t ks cs os start) o n h = length-cut ks o n h
  len-cut (dictionary t ks c) o n h = len-cut ks o n h

  pub first_len-cut : (cs : Layouts) (o n : ℕ) → o + n ≤ first_len cs → first_len (slice_layouts cs o n) ≡ n
  first_len-cut no_layouts o n h = omega arith
  first_len-cut (more_layouts c cs) o n h = len-cut c o n h

-- The slots of a slice are the sublist of the slots.
pub slots-cut : (a : Layout) (o n : ℕ) → o + n ≤ len a → slots_of (slice_layout a o n) ≡ sublist (slots_of a) o n
slots-cut a o n h =
    ap (run (slot (slice_layout a o n)) 0) (len-cut a o n h)
    ∙ run-ext (slot (slice_layout a o n)) (slot a) 0 o n (λ i k. ap (slot (slice_layout a o n)) (let e : 0 + i ≡ i = omega arith in e) ∙ slot-cut a o n i k)
    ∙ ap (λ q. run (slot a) q n) (let e : o ≡ 0 + o = omega arith in e)
    ∙ sym (cut-run (slot a) 0 (len a) o n h)

offsets-cut-cut : (os : Option (List ℤ)) (o n p m : ℕ) → p + m ≤ n → slice_offsets (slice_offsets os o n) p m ≡ slice_offsets os (o + p) m
offsets-cut-cut None o n p m h = refl
offsets-cut-cut (Some os) o n p m h = ap Some (cut-cut os o n p m h)

-- A slice of a slice is a slice of the array.
mutual
  pub layout-cut-cut : (a : Layout) (o n p m : ℕ) → p + m ≤ n → slice_layout (slice_layout a o n) p m ≡ slice_layout a (o + p) m
  layout-cut-cut (null t k) o n p m h = refl
  layout-cut-cut (boolean t bs va) o n p m h =
      let v = validity-cut-cut va o n p m h in
      let e = cut-cut bs o n p m h in
      cc
  layout-cut-cut (primitive k t vs va) o n p m h =
      let v = validity-cut-cut va o n p m h in
      let e = cut-cut vs o n p m h in
      cc
  layout-cut-cut (binary l t os bs va) o n p m h =
      let v = validity-cut-cut va o n p m h in
      let e = cut-cut os o (n + 1) p (m + 1) (omega arith) in
      cc
  layout-cut-cut (utf8 l t os bs va) o n p m h =
      let v = validity-cut-cut va o n p m h in
      let e = cut-cut os o (n + 1) p (m + 1) (omega arith) in
      cc
  layout-cut-cut (fixed_size_binary t bs va) o n p m h =
      let v = validity-cut-cut va o n p m h in
      let e = cut-cut bs (o * size_of t) (n * size_of t) (p * size_of t) (m * size_of t) (product-below p m n (size_of t) h) in
      let q = product-sum o p (size_of t) in
      cc
  layout-cut-cut (fixed_size_list t c va) o n p m h =
      let v = validity-cut-cut va o n p m h in
      let e = layout-cut-cut c (o * size_of t) (n * size_of t) (p * size_of t) (m * size_of t) (product-below p m n (size_of t) h) in
      let q = product-sum o p (size_of t) in
      cc
  layout-cut-cut (list l t os c va) o n p m h =
      let v = validity-cut-cut va o n p m h in
      let e = cut-cut os o (n + 1) p (m + 1) (omega arith) in
      cc
  layout-cut-cut (map t os c va) o n p m h =
      let v = validity-cut-cut va o n p m h in
      let e = cut-cut os o (n + 1) p (m + 1) (omega arith) in
      cc
  layout-cut-cut (struct t cs va) o n p m h =
      let v = validity-cut-cut va o n p m h in
      let e = layouts-cut-cut cs o n p m h in
      cc
  layout-cut-cut (union t ks cs os start) o n p m h =
      let e = cut-cut ks o n p m h in
      let f = offsets-cut-cut os o n p m h in
      let g : start + o + p ≡ start + (o + p) = omega arith in
      cc
  layout-cut-cut (dictionary t ks c) o n p m h = ap (λ z. dictionary t z c) (layout-cut-cut ks o n p m h)

  pub layouts-cut-cut : (cs : Layouts) (o n p m : ℕ) → p + m ≤ n → slice_layouts (slice_layouts cs o n) p m ≡ slice_layouts cs (o + p) m
  layouts-cut-cut no_layouts o n p m h = refl
  layouts-cut-cut (more_layouts c cs) o n p m h =
      let a = layout-cut-cut c o n p m h in
      let b = layouts-cut-cut cs o n p m h in
      cc

pub is-cut : (a : Layout) (o n : ℕ) (b : Layout) → o + n ≤ len a → b ≡ slice_layout a o n → IsSlice a o n b
is-cut a o n b h e = record { parts = e; slots = ap slots_of e ∙ slots-cut a o n h; same_type = ap layout_type e ∙ type-cut a o n }
