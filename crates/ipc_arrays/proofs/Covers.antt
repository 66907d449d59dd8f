-- Loops over windows, and the bounds of windows over children.
use Rattle.std.proofs.Common.{◌≡◌, ℕ, zero, suc, ◌+◌, ◌<◌, ◌≤◌, Bool, false, List, [], ◌∷◌, ◌++◌, length, get_or, take, Some, None, refl, sym, ap, subst, ◌∙◌, arith}
use Rattle.std.specs.Prelude.{ℤ, Option}
use Rattle.nest_memory.specs.Sublist.{sublist}
use Rattle.nest_model.specs.Accessors.{child_of, children_of, offsets_of, start_of, types_of, union_offsets_of, validity_of}
use Rattle.nest_model.specs.Array.{TopFits}
use Rattle.nest_model.specs.Fits.{EachCovers, EachLen, ValidityFits}
use Rattle.nest_model.specs.Layout.{Layout, Layouts, fixed_size_list, list as list_of, map as map_of, struct, union, no_layouts, more_layouts, layout_type}
use Rattle.nest_model.specs.Meaning.{len, first_len}
use Rattle.nest_model.specs.Part.{Validity, sliced_validity}
use Rattle.nest_model.specs.Runs.{length-cut}
use Rattle.nest_array.specs.Seen.{layout_of, layouts_of}
use Rattle.nest_array.specs.WindowParts.{WindowParts, window_parts}
use Rattle.nest_array.specs.declared.any.AnyArray.{AnyArray}
use Rattle.ipc_arrays.specs.RoundTripLaws.{some_begin}
use Rattle.ipc_arrays.specs.NormalizedLaws.{validity_fits}
use Rattle.ipc_arrays.specs.FixedWidth.{offset_format, type_format}
use Rattle.ipc_arrays.specs.VariableSizeLaws.{rebased_long}
use Rattle.ipc_arrays.specs.Encoding.{each_window, whole_windows, windows_below, sparse_begin, own_buffers, normalized_slice, normalized_validity_bytes, offset_bytes, numbers_bytes, rebased}

pub next_place : (i : ℕ) → i + 1 ≡ suc i
next_place i = omega arith

each_next : (xs : List AnyArray) (i : ℕ) (x : AnyArray) (o n : ℕ) → i < length xs → x ≡ get_or xs i x → each_window (layouts_of (take (suc i) xs)) o n ≡ each_window (layouts_of (take i xs)) o n ++ window_parts (layout_of x) o n ∷ []
each_next [] i x o n lt is = absurd (omega arith)
each_next (y ∷ xs) zero x o n lt is = ap (λ (z : AnyArray). window_parts (layout_of z) o n ∷ []) (sym is)
each_next (y ∷ xs) (suc i) x o n lt is = ap (λ (ws : List WindowParts). window_parts (layout_of y) o n ∷ ws) (each_next xs i x o n (omega arith) is)

pub each_taken : (xs : List AnyArray) (i : ℕ) (x : AnyArray) (o n : ℕ) → i < length xs → x ≡ get_or xs i x → each_window (layouts_of (take (i + 1) xs)) o n ≡ each_window (layouts_of (take i xs)) o n ++ window_parts (layout_of x) o n ∷ []
each_taken xs i x o n lt is = ap (λ (k : ℕ). each_window (layouts_of (take k xs)) o n) (next_place i) ∙ each_next xs i x o n lt is

whole_next : (xs : List AnyArray) (i : ℕ) (x : AnyArray) → i < length xs → x ≡ get_or xs i x → whole_windows (layouts_of (take (suc i) xs)) ≡ whole_windows (layouts_of (take i xs)) ++ window_parts (layout_of x) 0 (len (layout_of x)) ∷ []
whole_next [] i x lt is = absurd (omega arith)
whole_next (y ∷ xs) zero x lt is = ap (λ (z : AnyArray). window_parts (layout_of z) 0 (len (layout_of z)) ∷ []) (sym is)
whole_next (y ∷ xs) (suc i) x lt is = ap (λ (ws : List WindowParts). window_parts (layout_of y) 0 (len (layout_of y)) ∷ ws) (whole_next xs i x (omega arith) is)

pub whole_taken : (xs : List AnyArray) (i : ℕ) (x : AnyArray) → i < length xs → x ≡ get_or xs i x → whole_windows (layouts_of (take (i + 1) xs)) ≡ whole_windows (layouts_of (take i xs)) ++ window_parts (layout_of x) 0 (len (layout_of x)) ∷ []
whole_taken xs i x lt is = ap (λ (k : ℕ). whole_windows (layouts_of (take k xs))) (next_place i) ∙ whole_next xs i x lt is

pub covers_at : (xs : List AnyArray) (i : ℕ) (x : AnyArray) (m : ℕ) → EachCovers (layouts_of xs) m → i < length xs → x ≡ get_or xs i x → m ≤ len (layout_of x)
covers_at [] i x m h lt is = absurd (omega arith)
covers_at (y ∷ xs) zero x m h lt is = subst (λ (z : AnyArray). m ≤ len (layout_of z)) (sym is) h.0
covers_at (y ∷ xs) (suc i) x m h lt is = covers_at xs i x m h.1 (omega arith) is

pub covers_fewer : (cs : Layouts) (m n : ℕ) → EachCovers cs m → n ≤ m → EachCovers cs n
covers_fewer no_layouts m n h le = tt
covers_fewer (more_layouts c cs) m n h le = (omega (arith, h.0), covers_fewer cs m n h.1 le)

pub covers_long : (cs : Layouts) (m n : ℕ) → EachLen cs m → n ≤ m → EachCovers cs n
covers_long no_layouts m n h le = tt
covers_long (more_layouts c cs) m n h le = (omega (arith, h.0), covers_long cs m n h.1 le)

pub covers_none : (cs : Layouts) → EachCovers cs 0
covers_none no_layouts = tt
covers_none (more_layouts c cs) = (omega arith, covers_none cs)

pub record_covers : (a : Layout) (o n : ℕ) → a ≡ struct (layout_type a) (children_of a) (validity_of a) → TopFits a → o + n ≤ len a → EachCovers (children_of a) (o + n)
record_covers a o n kind fits le =
    let f : TopFits (struct (layout_type a) (children_of a) (validity_of a)) = subst TopFits kind fits in
    covers_long (children_of a) (first_len (children_of a)) (o + n) f.1.1.1.1.1.0 (omega (arith, le, ap len kind))

abbrev pub UnionOf : Layout → Type 0
UnionOf a = a ≡ union (layout_type a) (types_of a) (children_of a) (union_offsets_of a) (start_of a)

no_begin : (start o : ℕ) → sparse_begin start o 0 ≡ 0
no_begin start o = refl

sparse_end : (cs : Layouts) (start o n m : ℕ) → EachCovers cs (start + m) → o + n ≤ m → EachCovers cs (sparse_begin start o n + n)
sparse_end cs start o zero m h le = covers_none cs
sparse_end cs start o (suc n) m h le = covers_fewer cs (start + m) (sparse_begin start o (suc n) + suc n) h (omega (arith, le, some_begin start o (suc n) (omega arith)))

pub sparse_covers : (a : Layout) (o n : ℕ) → UnionOf a → TopFits a → union_offsets_of a ≡ None → o + n ≤ len a → EachCovers (children_of a) (sparse_begin (start_of a) o n + n)
sparse_covers a o n kind fits none le =
    let is : a ≡ union (layout_type a) (types_of a) (children_of a) None (start_of a) = kind ∙ ap (λ (os : Option (List ℤ)). union (layout_type a) (types_of a) (children_of a) os (start_of a)) none in
    let f : TopFits (union (layout_type a) (types_of a) (children_of a) None (start_of a)) = subst TopFits is fits in
    sparse_end (children_of a) (start_of a) o n (length (types_of a)) f.1.1.1.1.1.1.1.1.1.1.0 (omega (arith, le, ap len is))

pub sparse_below : (a : Layout) (o n : ℕ) → UnionOf a → union_offsets_of a ≡ None → windows_below a o n ≡ each_window (children_of a) (sparse_begin (start_of a) o n) n
sparse_below a o n kind none = ap (λ (b : Layout). windows_below b o n) (kind ∙ ap (λ (os : Option (List ℤ)). union (layout_type a) (types_of a) (children_of a) os (start_of a)) none)

pub dense_below : (a : Layout) (os : List ℤ) (o n : ℕ) → UnionOf a → union_offsets_of a ≡ Some os → windows_below a o n ≡ whole_windows (children_of a)
dense_below a os o n kind some = ap (λ (b : Layout). windows_below b o n) (kind ∙ ap (λ (os : Option (List ℤ)). union (layout_type a) (types_of a) (children_of a) os (start_of a)) some)

-- ---- the parts of a window, by type

pub bits_long : (a : Layout) (bits : List Bool) → TopFits a → validity_of a ≡ Some bits → length bits ≡ len a
bits_long a bits fits e = subst (λ (va : Validity). ValidityFits va (len a)) e (validity_fits a fits)

pub own_sized : (a : Layout) (o n : ℕ) → a ≡ fixed_size_list (layout_type a) (child_of a) (validity_of a) → own_buffers (normalized_slice a o n) ≡ normalized_validity_bytes (sliced_validity (validity_of a) o n) ∷ []
own_sized a o n kind = ap (λ (b : Layout). own_buffers (normalized_slice b o n)) kind

pub own_record : (a : Layout) (o n : ℕ) → a ≡ struct (layout_type a) (children_of a) (validity_of a) → own_buffers (normalized_slice a o n) ≡ normalized_validity_bytes (sliced_validity (validity_of a) o n) ∷ []
own_record a o n kind = ap (λ (b : Layout). own_buffers (normalized_slice b o n)) kind

pub own_list : (large : Bool) (a : Layout) (o n : ℕ) → a ≡ list_of large (layout_type a) (offsets_of a) (child_of a) (validity_of a)
    → own_buffers (normalized_slice a o n) ≡ normalized_validity_bytes (sliced_validity (validity_of a) o n) ∷ offset_bytes large (rebased (sublist (offsets_of a) o (n + 1))) ∷ []
own_list large a o n kind = ap (λ (b : Layout). own_buffers (normalized_slice b o n)) kind

pub own_map : (a : Layout) (o n : ℕ) → a ≡ map_of (layout_type a) (offsets_of a) (child_of a) (validity_of a)
    → own_buffers (normalized_slice a o n) ≡ normalized_validity_bytes (sliced_validity (validity_of a) o n) ∷ offset_bytes false (rebased (sublist (offsets_of a) o (n + 1))) ∷ []
own_map a o n kind = ap (λ (b : Layout). own_buffers (normalized_slice b o n)) kind

pub own_sparse : (a : Layout) (o n : ℕ) → UnionOf a → union_offsets_of a ≡ None → own_buffers (normalized_slice a o n) ≡ numbers_bytes type_format (sublist (types_of a) o n) ∷ []
own_sparse a o n kind none = ap (λ (b : Layout). own_buffers (normalized_slice b o n)) (kind ∙ ap (λ (os : Option (List ℤ)). union (layout_type a) (types_of a) (children_of a) os (start_of a)) none)

pub own_dense : (a : Layout) (os : List ℤ) (o n : ℕ) → UnionOf a → union_offsets_of a ≡ Some os
    → own_buffers (normalized_slice a o n) ≡ numbers_bytes type_format (sublist (types_of a) o n) ∷ numbers_bytes (offset_format false) (sublist os o n) ∷ []
own_dense a os o n kind some = ap (λ (b : Layout). own_buffers (normalized_slice b o n)) (kind ∙ ap (λ (os : Option (List ℤ)). union (layout_type a) (types_of a) (children_of a) os (start_of a)) some)

-- lists have one more offset than slots
pub rows_long : (large : Bool) (a : Layout) (o n : ℕ) → a ≡ list_of large (layout_type a) (offsets_of a) (child_of a) (validity_of a) → TopFits a → o + n ≤ len a → length (rebased (sublist (offsets_of a) o (n + 1))) ≡ n + 1
rows_long large a o n kind fits le =
    let f : TopFits (list_of large (layout_type a) (offsets_of a) (child_of a) (validity_of a)) = subst TopFits kind fits in
    rebased_long (sublist (offsets_of a) o (n + 1)) ∙ length-cut (offsets_of a) o (n + 1) (omega (arith, f.0.0, le, ap len kind))

pub entries_long : (a : Layout) (o n : ℕ) → a ≡ map_of (layout_type a) (offsets_of a) (child_of a) (validity_of a) → TopFits a → o + n ≤ len a → length (rebased (sublist (offsets_of a) o (n + 1))) ≡ n + 1
entries_long a o n kind fits le =
    let f : TopFits (map_of (layout_type a) (offsets_of a) (child_of a) (validity_of a)) = subst TopFits kind fits in
    rebased_long (sublist (offsets_of a) o (n + 1)) ∙ length-cut (offsets_of a) o (n + 1) (omega (arith, f.0.0, le, ap len kind))
