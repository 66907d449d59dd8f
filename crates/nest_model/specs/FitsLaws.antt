-- Laws: a slice of an array is an array.
use Rattle.std.specs.Prelude.{Option, Some, None, get_or}
use Rattle.std.proofs.Common.{◌≡◌, ℕ, suc, ◌+◌, ◌-◌, ◌*◌, ◌%◌, ◌<◌, ◌≤◌, ℤ, pos, Bool, List, length, take, drop, refl, ap, sym, ◌∙◌, subst, arith}
use Rattle.std.proofs.lemmas.List.Elements.{All-get_or, All-take, All-drop}
use Rattle.std.proofs.lemmas.List.{length-map}
use Rattle.std.specs.Str.{IsUtf8}
use Rattle.nest_memory.specs.TypeTree.{FieldTrees, no_fields, more_fields, size_of, ids_of, fields_of, is_dense}
use Rattle.nest_memory.specs.Sublist.{sublist}
use Rattle.nest_memory.specs.Rising.{last_of}
use Rattle.nest_model.specs.Part.{Validity, sliced_validity, count_rows, begin, extent, field_named}
use Rattle.nest_model.specs.Layout.{Layout, Layouts, null, boolean, primitive, binary, utf8, fixed_size_binary, fixed_size_list, list, map, struct, union, dictionary, no_layouts, more_layouts, count_layouts}
use Rattle.std.specs.List.{take-map, drop-map}
use Rattle.nest_model.specs.Accessors.{validity_of, as_integer, raw_keys, key_type_of}
use Rattle.nest_model.specs.Meaning.{len, first_len}
use Rattle.nest_model.specs.Slice.{slice_layout, slice_layouts, slice_offsets}
use Rattle.nest_model.specs.Runs.{length-cut, get_or-cut, rows-cut, product-fits, product-exact}
use Rattle.nest_model.specs.SliceLaws.{valid_at-cut, key_at-cut, type-cut, len-cut, first_len-cut, begin-cut, extent-cut}
use Rattle.nest_model.specs.Fits.{Fits, ValidityFits, EachType, EachLen, EachCovers, Names, EachNames, MeansField, EachMeansField, OffsetsCount, OffsetsByMode, SlotsThere, SomeValid, KeysInRange, EachUtf8, EachValidNames}
use Rattle.nest_model.specs.Array.{AreOffsets, AreKeys, PartsHold, Keeps, TopFits, ChildrenFit, AreArrays, IsArray}

validity-fits-cut : (va : Validity) (m o n : ℕ) → ValidityFits va m → o + n ≤ m → ValidityFits (sliced_validity va o n) n
validity-fits-cut None m o n h k = tt
validity-fits-cut (Some bits) m o n h k = length-cut bits o n (omega arith)

validity-fits-at : (va : Validity) (m n : ℕ) → m ≡ n → ValidityFits va m → ValidityFits va n
validity-fits-at va m n e h = subst (ValidityFits va) e h

offsets-length : (os : List ℕ) (o n : ℕ) → 0 < length os → o + n ≤ count_rows os → length (take (n + 1) (drop o os)) ≡ n + 1
offsets-length os o n z h = length-cut os o (n + 1) (omega arith)

offsets-cut : (os : List ℕ) (o n : ℕ) → AreOffsets os → o + n ≤ count_rows os → AreOffsets (sublist os o (n + 1))
offsets-cut os o n h k =
    let e = offsets-length os o n h.0 k in (
      omega arith,
      λ i j a b.
          let x = get_or-cut os o (n + 1) i 0 (omega arith) in
          let y = get_or-cut os o (n + 1) j 0 (omega arith) in
          let z = h.1 (o + i) (o + j) (omega arith) (omega arith) in
          omega arith,
    )

last-cut : (os : List ℕ) (o n m : ℕ) → AreOffsets os → o + n ≤ count_rows os → last_of os ≤ m → last_of (sublist os o (n + 1)) ≤ m
last-cut os o n m h k l =
    let e = rows-cut os o n k in
    let x = get_or-cut os o (n + 1) n 0 (omega arith) in
    let y = h.1 (o + n) (length os - 1) (omega arith) (omega arith) in
    let w = ap (λ q. get_or (sublist os o (n + 1)) q 0) e in
    omega arith

rows-validity : (va : Validity) (os : List ℕ) (o n : ℕ) → ValidityFits va (count_rows os) → o + n ≤ count_rows os → ValidityFits (sliced_validity va o n) (count_rows (sublist os o (n + 1)))
rows-validity va os o n h k = validity-fits-at (sliced_validity va o n) n (count_rows (sublist os o (n + 1))) (sym (rows-cut os o n k)) (validity-fits-cut va (count_rows os) o n h k)

text-cut : (os bs : List ℕ) (o n : ℕ) → o + n ≤ count_rows os → EachUtf8 os bs → EachUtf8 (sublist os o (n + 1)) bs
text-cut os bs o n k h i j =
    let e = rows-cut os o n k in
    let b = begin-cut os o n i (omega arith) in
    let x = extent-cut os o n i (omega arith) in
    let q : sublist bs (begin os (o + i)) (extent os (o + i)) ≡ sublist bs (begin (sublist os o (n + 1)) i) (extent (sublist os o (n + 1)) i) = ap (λ z. sublist bs z (extent os (o + i))) (sym b) ∙ ap (sublist bs (begin (sublist os o (n + 1)) i)) (sym x) in
    subst IsUtf8 q (h (o + i) (omega arith))

names-cut : (zs : List ℤ) (m o n : ℕ) → EachNames zs m → EachNames (sublist zs o n) m
names-cut zs m o n h = All-take (λ z. Names z m) n (drop o zs) (All-drop (λ z. Names z m) o zs h)

means-cut : (ids : Option (List ℤ)) (ks : List ℤ) (m o n : ℕ) → EachMeansField ids ks m → EachMeansField ids (sublist ks o n) m
means-cut ids ks m o n h = All-take (λ z. MeansField (field_named ids z) m) n (drop o ks) (All-drop (λ z. MeansField (field_named ids z) m) o ks h)

count-cut : (cs : Layouts) (o n : ℕ) → count_layouts (slice_layouts cs o n) ≡ count_layouts cs
count-cut no_layouts o n = refl
count-cut (more_layouts c cs) o n = ap suc (count-cut cs o n)

each-type-cut : (fs : FieldTrees) (cs : Layouts) (o n : ℕ) → EachType fs cs → EachType fs (slice_layouts cs o n)
each-type-cut no_fields no_layouts o n h = tt
each-type-cut no_fields (more_layouts c cs) o n h = h
each-type-cut (more_fields f fs) no_layouts o n h = h
each-type-cut (more_fields f fs) (more_layouts c cs) o n h = (type-cut c o n ∙ h.0, each-type-cut fs cs o n h.1)

each-len-cut : (cs : Layouts) (m o n : ℕ) → EachLen cs m → o + n ≤ m → EachLen (slice_layouts cs o n) n
each-len-cut no_layouts m o n h k = tt
each-len-cut (more_layouts c cs) m o n h k = (len-cut c o n (omega arith), each-len-cut cs m o n h.1 k)

each-len-at : (cs : Layouts) (m n : ℕ) → m ≡ n → EachLen cs m → EachLen cs n
each-len-at cs m n e h = subst (EachLen cs) e h

covers-less : (cs : Layouts) (m n : ℕ) → n ≤ m → EachCovers cs m → EachCovers cs n
covers-less no_layouts m n k h = tt
covers-less (more_layouts c cs) m n k h = (omega arith, covers-less cs m n k h.1)

offsets-count-cut : (os : Option (List ℤ)) (ks : List ℤ) (o n : ℕ) → o + n ≤ length ks → OffsetsCount os (length ks) → OffsetsCount (slice_offsets os o n) (length (sublist ks o n))
offsets-count-cut None ks o n k h = tt
offsets-count-cut (Some os) ks o n k h = length-cut os o n (omega arith) ∙ sym (length-cut ks o n k)

mode-cut : (os : Option (List ℤ)) (d : Bool) (o n : ℕ) → OffsetsByMode os d → OffsetsByMode (slice_offsets os o n) d
mode-cut None d o n h = h
mode-cut (Some os) d o n h = h

there-cut : (ids : Option (List ℤ)) (ks : List ℤ) (cs : Layouts) (os : Option (List ℤ)) (start o n : ℕ) → o + n ≤ length ks → SlotsThere ids ks cs os start → SlotsThere ids (sublist ks o n) cs (slice_offsets os o n) (start + o)
there-cut ids ks cs None start o n k h = let e = length-cut ks o n k in covers-less cs (start + length ks) (start + o + length (sublist ks o n)) (omega arith) h
there-cut ids ks cs (Some os) start o n k h = λ i j.
    let l = length-cut ks o n k in
    let e = get_or-cut ks o n i (pos 0) (omega arith) in
    let f = get_or-cut os o n i (pos 0) (omega arith) in
    rw (e, f) (h (o + i) (omega arith))

-- The keys of a slice of a dictionary.
some-valid-cut : (ks : Layout) (o n : ℕ) → o + n ≤ len ks → SomeValid (validity_of (slice_layout ks o n)) (len (slice_layout ks o n)) → SomeValid (validity_of ks) (len ks)
some-valid-cut ks o n k (i, j, v) =
    let l = len-cut ks o n k in
    let m : i < n = omega arith in
    (o + i, omega arith, sym (valid_at-cut ks o n i m) ∙ v)

raw_keys-cut : (ks : Layout) (m o n : ℕ) → AreKeys ks → EachNames (raw_keys ks) m → EachNames (raw_keys (slice_layout ks o n)) m
raw_keys-cut (primitive p t vs va) m o n a h =
    subst (λ zs. EachNames zs m) (ap (take n) (drop-map as_integer o vs) ∙ take-map as_integer n (drop o vs)) (names-cut (raw_keys (primitive p t vs va)) m o n h)
raw_keys-cut ks m o n a h = absurd a

keys-cut : (ks : Layout) (m o n : ℕ) → AreKeys ks → o + n ≤ len ks → KeysInRange ks m → KeysInRange (slice_layout ks o n) m
keys-cut ks m o n a k h s = raw_keys-cut ks m o n a (h (some-valid-cut ks o n k s))

valid-names-cut : (ks : Layout) (m o n : ℕ) → o + n ≤ len ks → EachValidNames (validity_of ks) ks m → EachValidNames (validity_of (slice_layout ks o n)) (slice_layout ks o n) m
valid-names-cut ks m o n k h i j v =
    let l = len-cut ks o n k in
    let q : i < n = omega arith in
    subst (λ z. Names z m) (sym (key_at-cut ks o n i q)) (h (o + i) (omega arith) (sym (valid_at-cut ks o n i q) ∙ v))

key_type-cut : (a : Layout) (o n : ℕ) → key_type_of (slice_layout a o n) ≡ key_type_of a
key_type-cut (primitive p t vs va) o n = refl
key_type-cut a o n = refl

are-keys-cut : (ks : Layout) (o n : ℕ) → AreKeys ks → o + n ≤ len ks → AreKeys (slice_layout ks o n)
are-keys-cut (primitive p t vs va) o n h k =
    (h.0, (validity-fits-at (sliced_validity va o n) n (length (sublist vs o n)) (sym (length-cut vs o n k)) (validity-fits-cut va (length vs) o n h.1.0 k), h.1.1))
are-keys-cut ks o n h k = absurd h

-- A slice has the guarantees of the types of its parts.
pub parts-cut : (a : Layout) (o n : ℕ) → PartsHold a → o + n ≤ len a → PartsHold (slice_layout a o n)
parts-cut (binary l t os bs va) o n h k = offsets-cut os o n h k
parts-cut (utf8 l t os bs va) o n h k = offsets-cut os o n h k
parts-cut (list l t os c va) o n h k = offsets-cut os o n h k
parts-cut (map t os c va) o n h k = offsets-cut os o n h k
parts-cut (dictionary t ks c) o n h k = are-keys-cut ks o n h k
parts-cut a o n h k = tt

-- A slice of parts that pass every check passes them too. The children need not be arrays.
pub fits-cut : (a : Layout) (o n : ℕ) → PartsHold a → Fits a → o + n ≤ len a → Fits (slice_layout a o n)
fits-cut (null t m) o n h f k = f
fits-cut (boolean t bs va) o n h f k =
    (validity-fits-at (sliced_validity va o n) n (length (sublist bs o n)) (sym (length-cut bs o n k)) (validity-fits-cut va (length bs) o n f.0 k), f.1)
fits-cut (primitive p t vs va) o n h f k =
    (validity-fits-at (sliced_validity va o n) n (length (sublist vs o n)) (sym (length-cut vs o n k)) (validity-fits-cut va (length vs) o n f.0 k), f.1)
fits-cut (binary l t os bs va) o n h f k = (last-cut os o n (length bs) h k f.0, (rows-validity va os o n f.1.0 k, f.1.1))
fits-cut (utf8 l t os bs va) o n h f k = (last-cut os o n (length bs) h k f.0, (text-cut os bs o n k f.1.0, (rows-validity va os o n f.1.1.0 k, f.1.1.1)))
fits-cut (fixed_size_binary t bs va) o n h f k =
    let e = length-cut bs (o * size_of t) (n * size_of t) (product-fits o n (length bs) (size_of t) k) in
    let w = len-cut (fixed_size_binary t bs va) o n k in (
      f.0,
      (
        f.1.0,
        (
          ap (λ z. z % size_of t) e ∙ product-exact n (size_of t),
          (validity-fits-at (sliced_validity va o n) n (len (slice_layout (fixed_size_binary t bs va) o n)) (sym w) (validity-fits-cut va (len (fixed_size_binary t bs va)) o n f.1.1.1.0 k), tt),
        ),
      ),
    )
fits-cut (fixed_size_list t c va) o n h f k =
    let p = product-fits o n (len c) (size_of t) k in
    let e = len-cut c (o * size_of t) (n * size_of t) p in
    let w = len-cut (fixed_size_list t c va) o n k in (
      f.0,
      (
        f.1.0,
        (
          f.1.1.0 ∙ ap Some (sym (type-cut c (o * size_of t) (n * size_of t))),
          (
            ap (λ z. z % size_of t) e ∙ product-exact n (size_of t),
            (validity-fits-at (sliced_validity va o n) n (len (slice_layout (fixed_size_list t c va) o n)) (sym w) (validity-fits-cut va (len (fixed_size_list t c va)) o n f.1.1.1.1.0 k), tt),
          ),
        ),
      ),
    )
fits-cut (list l t os c va) o n h f k = (last-cut os o n (len c) h k f.0, (rows-validity va os o n f.1.0 k, f.1.1))
fits-cut (map t os c va) o n h f k = (last-cut os o n (len c) h k f.0, (f.1.0, (f.1.1.0, (f.1.1.1.0, (rows-validity va os o n f.1.1.1.1.0 k, tt)))))
fits-cut (struct t cs va) o n h f k =
    let e = first_len-cut cs o n k in (
      f.0,
      (
        f.1.0,
        (
          count-cut cs o n ∙ f.1.1.0,
          (
            each-type-cut (fields_of t) cs o n f.1.1.1.0,
            (
              each-len-at (slice_layouts cs o n) n (first_len (slice_layouts cs o n)) (sym e) (each-len-cut cs (first_len cs) o n f.1.1.1.1.0 k),
              (validity-fits-at (sliced_validity va o n) n (first_len (slice_layouts cs o n)) (sym e) (validity-fits-cut va (first_len cs) o n f.1.1.1.1.1.0 k), tt),
            ),
          ),
        ),
      ),
    )
fits-cut (union t ks cs os start) o n h f k =
    let g = f.1.1.1 in (
      f.0,
      (
        f.1.0,
        (
          f.1.1.0,
          (
            g.0,
            (
              offsets-count-cut os ks o n k g.1.0,
              (
                mode-cut os (is_dense t) o n g.1.1.0,
                (
                  g.1.1.1.0,
                  (
                    g.1.1.1.1.0,
                    (means-cut (ids_of t) ks (count_layouts cs) o n g.1.1.1.1.1.0, (there-cut (ids_of t) ks cs os start o n k g.1.1.1.1.1.1.0, tt)),
                  ),
                ),
              ),
            ),
          ),
        ),
      ),
    )
fits-cut (dictionary t ks c) o n h f k = (f.0, (f.1.0 ∙ sym (key_type-cut ks o n), (f.1.1.0, (keys-cut ks (len c) o n h k f.1.1.1.0, tt))))

-- Parts that pass every check satisfy the array invariant.
raw_keys-length : (ks : Layout) → AreKeys ks → length (raw_keys ks) ≡ len ks
raw_keys-length (primitive p t vs va) h = length-map vs as_integer
raw_keys-length ks h = absurd h

pub fits-keeps : (a : Layout) → PartsHold a → Fits a → Keeps a
fits-keeps (dictionary t ks c) h f = (
  f.0,
  (
    f.1.0,
    (
      f.1.1.0,
      λ i k v.
          let l = raw_keys-length ks h in
          All-get_or (λ z. Names z (len c)) (raw_keys ks) i (pos 0) (omega arith) (f.1.1.1.0 (i, k, v)),
    ),
  ),
)
fits-keeps a h f = f

-- A slice satisfies the array invariant.
pub keeps-cut : (a : Layout) (o n : ℕ) → TopFits a → o + n ≤ len a → Keeps (slice_layout a o n)
keeps-cut (dictionary t ks c) o n h k = (h.1.0, (h.1.1.0 ∙ sym (key_type-cut ks o n), (h.1.1.1.0, valid-names-cut ks (len c) o n k h.1.1.1.1)))
keeps-cut a o n h k = fits-cut a o n h.0 h.1 k

pub top-fits-cut : (a : Layout) (o n : ℕ) → TopFits a → o + n ≤ len a → TopFits (slice_layout a o n)
top-fits-cut a o n h k = (parts-cut a o n h.0 k, keeps-cut a o n h k)

mutual
  children-cut : (a : Layout) (o n : ℕ) → TopFits a → ChildrenFit a → o + n ≤ len a → ChildrenFit (slice_layout a o n)
  children-cut (null t m) o n f h k = tt
  children-cut (boolean t bs va) o n f h k = tt
  children-cut (primitive p t vs va) o n f h k = tt
  children-cut (binary l t os bs va) o n f h k = tt
  children-cut (utf8 l t os bs va) o n f h k = tt
  children-cut (fixed_size_binary t bs va) o n f h k = tt
  children-cut (fixed_size_list t c va) o n f h k =
      let p = product-fits o n (len c) (size_of t) k in
      (top-fits-cut c (o * size_of t) (n * size_of t) h.0 p, children-cut c (o * size_of t) (n * size_of t) h.0 h.1 p)
  children-cut (list l t os c va) o n f h k = h
  children-cut (map t os c va) o n f h k = h
  children-cut (struct t cs va) o n f h k = arrays-cut cs (first_len cs) o n h f.1.1.1.1.1.0 k
  children-cut (union t ks cs os start) o n f h k = h
  children-cut (dictionary t ks c) o n f h k = h

  arrays-cut : (cs : Layouts) (m o n : ℕ) → AreArrays cs → EachLen cs m → o + n ≤ m → AreArrays (slice_layouts cs o n)
  arrays-cut no_layouts m o n h l k = tt
  arrays-cut (more_layouts c cs) m o n h l k =
      let p : o + n ≤ len c = omega arith in
      ((top-fits-cut c o n h.0.0 p, children-cut c o n h.0.0 h.0.1 p), arrays-cut cs m o n h.1 l.1 k)

pub array-cut : (a : Layout) (o n : ℕ) → IsArray a → o + n ≤ len a → IsArray (slice_layout a o n)
array-cut a o n h k = (top-fits-cut a o n h.0 k, children-cut a o n h.0 h.1 k)
