-- Laws of normalized windows: their lengths, types, null counts and descendants.
use Rattle.std.proofs.Common.{◌≡◌, ℕ, ◌+◌, ◌-◌, ◌*◌, ◌/◌, ◌≤◌, Bool, true, false, eqb, List, [], ◌∷◌, ◌++◌, length, Some, None, refl, sym, ap, ◌∙◌, arith}
use Rattle.std.specs.Prelude.{pos, not, count_by, ◌&&◌, map}
use Rattle.std.specs.List.{list_all, flat_map, sum_by}
use Rattle.std.proofs.lemmas.List.{append-nil}
use Rattle.std.proofs.lemmas.List.Concat.{flat_map-cons}
use Rattle.std.proofs.lemmas.List.Sums.{sum_by-cons}
use Rattle.nest_memory.specs.Sublist.{sublist}
use Rattle.nest_memory.specs.TypeTree.{TypeTree, size_of}
use Rattle.nest_model.specs.Accessors.{validity_of}
use Rattle.nest_model.specs.Array.{AreKeys, TopFits}
use Rattle.nest_model.specs.Slice.{slice_layout}
use Rattle.nest_model.specs.SliceLaws.{len-cut}
use Rattle.nest_model.specs.Fits.{ValidityFits}
use Rattle.nest_model.specs.Layout.{Layout, Layouts, null, boolean, primitive, binary, utf8, fixed_size_binary, fixed_size_list, list as list_of, map as map_of, struct, union, dictionary, no_layouts, more_layouts, layout_type, weight, weight_all}
use Rattle.nest_model.specs.Meaning.{len, first_len}
use Rattle.nest_model.specs.Nullness.{null_count, is_null_at}
use Rattle.nest_model.specs.NullnessLaws.{null_count-null}
use Rattle.nest_model.specs.Part.{Validity, begin, sliced_validity, valid_at, count_rows}
use Rattle.nest_model.specs.Runs.{length-cut, rows-cut, product-fits, product-over}
use Rattle.nest_array.specs.Seen.{layout_of, layouts_of}
use Rattle.nest_array.specs.WindowParts.{WindowParts, window_parts}
use Rattle.nest_array.specs.declared.any.AnyArray.{AnyArray}
use Rattle.ipc_arrays.specs.VariableSizeLaws.{rows_again}
use Rattle.ipc_arrays.specs.Encoding.{normalized_validity, normalized_keys, normalized_flat, normalized_slice, normalized, normalized_each, normalized_all, sparse_begin, preorder, preorder_all, each_window, whole_windows, windows_below, normalized_window, window_arrays, written_arrays, is_supported, is_flat_layout, field_node_of, buffers_of, columns_body}
use Rattle.ipc_arrays.specs.BodyBuffers.{body_of}
use Rattle.ipc_arrays.specs.DictionaryKeyLaws.{blanked_long}
use Rattle.ipc_arrays.specs.EncodingLaws.{null_bits, unset_few, nulls_are, eqb-zero}

-- ---- lengths and types

keys_len : (ks : Layout) → len (normalized_keys ks) ≡ len ks
keys_len (primitive k t vs va) = blanked_long va vs
keys_len ks = refl

flat_len : (a : Layout) → len (normalized_flat a) ≡ len a
flat_len (binary large t os bs va) = rows_again os
flat_len (utf8 large t os bs va) = rows_again os
flat_len (null t n) = refl
flat_len (boolean t bs va) = refl
flat_len (primitive k t vs va) = refl
flat_len (fixed_size_binary t bs va) = refl
flat_len (fixed_size_list t c va) = refl
flat_len (list_of large t os c va) = refl
flat_len (map_of t os c va) = refl
flat_len (struct t cs va) = refl
flat_len (union t ks cs os start) = refl
flat_len (dictionary t ks c) = keys_len ks

slice_len : (a : Layout) (o n : ℕ) → o + n ≤ len a → len (normalized_flat (slice_layout a o n)) ≡ n
slice_len a o n le = flat_len (slice_layout a o n) ∙ len-cut a o n le

mutual
  pub normalized_len : (a : Layout) (o n : ℕ) → o + n ≤ len a → len (normalized_slice a o n) ≡ n
  normalized_len (fixed_size_list t c va) o n le =
      ap (λ (m : ℕ). m / size_of t) (normalized_len c (o * size_of t) (n * size_of t) (product-fits o n (len c) (size_of t) le))
      ∙ product-over o n (len c) (size_of t) le
  normalized_len (list_of large t os c va) o n le = rows_again (sublist os o (n + 1)) ∙ rows-cut os o n le
  normalized_len (map_of t os c va) o n le = rows_again (sublist os o (n + 1)) ∙ rows-cut os o n le
  normalized_len (struct t cs va) o n le = first_normalized cs o n le
  normalized_len (union t ks cs None start) o n le = length-cut ks o n le
  normalized_len (union t ks cs (Some os) start) o n le = length-cut ks o n le
  normalized_len (null t m) o n le = slice_len (null t m) o n le
  normalized_len (boolean t bs va) o n le = slice_len (boolean t bs va) o n le
  normalized_len (primitive k t vs va) o n le = slice_len (primitive k t vs va) o n le
  normalized_len (binary large t os bs va) o n le = slice_len (binary large t os bs va) o n le
  normalized_len (utf8 large t os bs va) o n le = slice_len (utf8 large t os bs va) o n le
  normalized_len (fixed_size_binary t bs va) o n le = slice_len (fixed_size_binary t bs va) o n le
  normalized_len (dictionary t ks c) o n le = slice_len (dictionary t ks c) o n le

  first_normalized : (cs : Layouts) (o n : ℕ) → o + n ≤ first_len cs → first_len (normalized_each cs o n) ≡ n
  first_normalized no_layouts o n le = omega arith
  first_normalized (more_layouts c cs) o n le = normalized_len c o n le

pub normalized_type : (a : Layout) (o n : ℕ) → layout_type (normalized_slice a o n) ≡ layout_type a
normalized_type (fixed_size_list t c va) o n = refl
normalized_type (list_of large t os c va) o n = refl
normalized_type (map_of t os c va) o n = refl
normalized_type (struct t cs va) o n = refl
normalized_type (union t ks cs None start) o n = refl
normalized_type (union t ks cs (Some os) start) o n = refl
normalized_type (null t m) o n = refl
normalized_type (boolean t bs va) o n = refl
normalized_type (primitive k t vs va) o n = refl
normalized_type (binary large t os bs va) o n = refl
normalized_type (utf8 large t os bs va) o n = refl
normalized_type (fixed_size_binary t bs va) o n = refl
normalized_type (dictionary t ks c) o n = refl

-- ---- nulls

-- the null count of a window
abbrev pub nulls_in : Layout → ℕ → ℕ → ℕ
nulls_in (null t m) o n = n
nulls_in a o n = null_bits (sliced_validity (validity_of a) o n)

pub slice_fits : (va : Validity) (m o n : ℕ) → ValidityFits va m → o + n ≤ m → ValidityFits (sliced_validity va o n) n
slice_fits None m o n fits le = tt
slice_fits (Some bits) m o n fits le = length-cut bits o n (omega (arith, fits))

without_fits : (bits : List Bool) (n : ℕ) (b : Bool) → length bits ≡ n → (eqb (count_by not bits) 0) ≡ b → ValidityFits (normalized_validity (Some bits)) n
without_fits bits n true fits e = rw e tt
without_fits bits n false fits e = rw e fits

normalized_fits : (va : Validity) (n : ℕ) → ValidityFits va n → ValidityFits (normalized_validity va) n
normalized_fits None n fits = tt
normalized_fits (Some bits) n fits = without_fits bits n (eqb (count_by not bits) 0) fits refl

none_unset : (bits : List Bool) (b : Bool) → eqb (count_by not bits) 0 ≡ b → null_bits (normalized_validity (Some bits)) ≡ count_by not bits
none_unset bits true e = rw e (sym (eqb-zero (count_by not bits) e))
none_unset bits false e = rw e refl

normalized_unset : (va : Validity) → null_bits (normalized_validity va) ≡ null_bits va
normalized_unset None = refl
normalized_unset (Some bits) = none_unset bits (eqb (count_by not bits) 0) refl

keys_fit : (ks : Layout) → AreKeys ks → ValidityFits (validity_of ks) (len ks)
keys_fit (primitive k t vs va) h = h.1.0
keys_fit ks h = absurd h

-- the validity of an array has a bit for each slot
pub validity_fits : (a : Layout) → TopFits a → ValidityFits (validity_of a) (len a)
validity_fits (null t n) h = tt
validity_fits (boolean t bs va) h = h.1.0
validity_fits (primitive k t vs va) h = h.1.0
validity_fits (binary l t os bs va) h = h.1.1.0
validity_fits (utf8 l t os bs va) h = h.1.1.1.0
validity_fits (fixed_size_binary t bs va) h = h.1.1.1.1.0
validity_fits (fixed_size_list t c va) h = h.1.1.1.1.1.0
validity_fits (list_of l t os c va) h = h.1.1.0
validity_fits (map_of t os c va) h = h.1.1.1.1.1.0
validity_fits (struct t cs va) h = h.1.1.1.1.1.1.0
validity_fits (union t ks cs os start) h = tt
validity_fits (dictionary t ks c) h = keys_fit ks h.0

nulls_by : (s : Layout) (va : Validity) (m o n : ℕ) → is_null_at s 0 ≡ not (valid_at (normalized_validity (sliced_validity va o n)) 0) → validity_of s ≡ normalized_validity (sliced_validity va o n) → ValidityFits va m → o + n ≤ m → len s ≡ n → null_count s ≡ null_bits (sliced_validity va o n)
nulls_by s va m o n some is fits le long =
    nulls_are s (normalized_validity (sliced_validity va o n)) some is (rw long (normalized_fits (sliced_validity va o n) n (slice_fits va m o n fits le)))
    ∙ normalized_unset (sliced_validity va o n)

cut_few : (va : Validity) (m o n : ℕ) → ValidityFits va m → o + n ≤ m → null_bits (sliced_validity va o n) ≤ n
cut_few va m o n fits le = unset_few (sliced_validity va o n) n (slice_fits va m o n fits le)

keys_nulls : (t : TypeTree) (ks c : Layout) (o n : ℕ) → AreKeys ks → o + n ≤ len ks → null_count (normalized_slice (dictionary t ks c) o n) ≡ null_bits (sliced_validity (validity_of ks) o n)
keys_nulls t (primitive k u vs va) c o n are le =
    let s : Layout = normalized_slice (dictionary t (primitive k u vs va) c) o n in
    nulls_by s va (length vs) o n refl refl are.1.0 le (normalized_len (dictionary t (primitive k u vs va) c) o n le)
keys_nulls t ks c o n are le = absurd are

pub normalized_nulls : (a : Layout) (o n : ℕ) → TopFits a → is_supported a ≡ true → o + n ≤ len a → null_count (normalized_slice a o n) ≡ nulls_in a o n
normalized_nulls (null t m) o n fits format le = null_count-null (null t n) refl refl
normalized_nulls (dictionary t ks c) o n fits format le = keys_nulls t ks c o n fits.0 le
normalized_nulls (boolean t bs va) o n fits format le = nulls_by (normalized_slice (boolean t bs va) o n) va (len (boolean t bs va)) o n refl refl (validity_fits (boolean t bs va) fits) le (normalized_len (boolean t bs va) o n le)
normalized_nulls (primitive k t vs va) o n fits format le = nulls_by (normalized_slice (primitive k t vs va) o n) va (len (primitive k t vs va)) o n refl refl (validity_fits (primitive k t vs va) fits) le (normalized_len (primitive k t vs va) o n le)
normalized_nulls (binary l t os bs va) o n fits format le = nulls_by (normalized_slice (binary l t os bs va) o n) va (len (binary l t os bs va)) o n refl refl (validity_fits (binary l t os bs va) fits) le (normalized_len (binary l t os bs va) o n le)
normalized_nulls (utf8 l t os bs va) o n fits format le = nulls_by (normalized_slice (utf8 l t os bs va) o n) va (len (utf8 l t os bs va)) o n refl refl (validity_fits (utf8 l t os bs va) fits) le (normalized_len (utf8 l t os bs va) o n le)
normalized_nulls (fixed_size_binary t bs va) o n fits format le = nulls_by (normalized_slice (fixed_size_binary t bs va) o n) va (len (fixed_size_binary t bs va)) o n refl refl (validity_fits (fixed_size_binary t bs va) fits) le (normalized_len (fixed_size_binary t bs va) o n le)
normalized_nulls (fixed_size_list t c va) o n fits format le = nulls_by (normalized_slice (fixed_size_list t c va) o n) va (len (fixed_size_list t c va)) o n refl refl (validity_fits (fixed_size_list t c va) fits) le (normalized_len (fixed_size_list t c va) o n le)
normalized_nulls (list_of l t os c va) o n fits format le = nulls_by (normalized_slice (list_of l t os c va) o n) va (count_rows os) o n refl refl (validity_fits (list_of l t os c va) fits) le (normalized_len (list_of l t os c va) o n le)
normalized_nulls (map_of t os c va) o n fits format le = nulls_by (normalized_slice (map_of t os c va) o n) va (count_rows os) o n refl refl (validity_fits (map_of t os c va) fits) le (normalized_len (map_of t os c va) o n le)
normalized_nulls (struct t cs va) o n fits format le = nulls_by (normalized_slice (struct t cs va) o n) va (first_len cs) o n refl refl (validity_fits (struct t cs va) fits) le (normalized_len (struct t cs va) o n le)
normalized_nulls (union t ks cs None start) o n fits format le = nulls_by (normalized_slice (union t ks cs None start) o n) None (length ks) o n refl refl tt le (normalized_len (union t ks cs None start) o n le)
normalized_nulls (union t ks cs (Some os) start) o n fits format le = nulls_by (normalized_slice (union t ks cs (Some os) start) o n) None (length ks) o n refl refl tt le (normalized_len (union t ks cs (Some os) start) o n le)

-- whether it is a null array
abbrev pub is_null_layout : Layout → Bool
is_null_layout (null t n) = true
is_null_layout a = false

pub nulls_all : (a : Layout) (o n : ℕ) → is_null_layout a ≡ true → null_count (normalized_slice a o n) ≡ n
nulls_all (null t m) o n e = null_count-null (null t n) refl refl
nulls_all a o n e = cc

nulls_other : (a : Layout) (o n : ℕ) → is_null_layout a ≡ false → nulls_in a o n ≡ null_bits (sliced_validity (validity_of a) o n)
nulls_other (null t m) o n e = cc
nulls_other a o n e = refl

pub nulls_unset : (a : Layout) (o n : ℕ) → TopFits a → is_supported a ≡ true → o + n ≤ len a → is_null_layout a ≡ false → null_count (normalized_slice a o n) ≡ null_bits (sliced_validity (validity_of a) o n)
nulls_unset a o n fits format le e = normalized_nulls a o n fits format le ∙ nulls_other a o n e

pub unset_within : (a : Layout) (o n : ℕ) → TopFits a → o + n ≤ len a → null_bits (sliced_validity (validity_of a) o n) ≤ n
unset_within a o n fits le = cut_few (validity_of a) (len a) o n (validity_fits a fits) le

pub nulls_few : (a : Layout) (o n : ℕ) → TopFits a → o + n ≤ len a → nulls_in a o n ≤ n
nulls_few (null t m) o n fits le = omega arith
nulls_few (boolean t bs va) o n fits le = cut_few va (length bs) o n fits.1.0 le
nulls_few (primitive k t vs va) o n fits le = cut_few va (length vs) o n fits.1.0 le
nulls_few (binary l t os bs va) o n fits le = cut_few va (count_rows os) o n fits.1.1.0 le
nulls_few (utf8 l t os bs va) o n fits le = cut_few va (count_rows os) o n fits.1.1.1.0 le
nulls_few (fixed_size_binary t bs va) o n fits le = cut_few va (len (fixed_size_binary t bs va)) o n fits.1.1.1.1.0 le
nulls_few (fixed_size_list t c va) o n fits le = cut_few va (len (fixed_size_list t c va)) o n fits.1.1.1.1.1.0 le
nulls_few (list_of l t os c va) o n fits le = cut_few va (count_rows os) o n fits.1.1.0 le
nulls_few (map_of t os c va) o n fits le = cut_few va (count_rows os) o n fits.1.1.1.1.1.0 le
nulls_few (struct t cs va) o n fits le = cut_few va (first_len cs) o n fits.1.1.1.1.1.1.0 le
nulls_few (union t ks cs os start) o n fits le = omega arith
nulls_few (dictionary t ks c) o n fits le = cut_few (validity_of ks) (len ks) o n (keys_fit ks fits.0) le

-- the field node of a window
pub normalized_node : (a : Layout) (o n : ℕ) → TopFits a → is_supported a ≡ true → o + n ≤ len a → field_node_of (normalized_slice a o n) ≡ record { length = pos n; null_count = pos (nulls_in a o n) }
normalized_node a o n fits format le = λ w. record { length = pos (normalized_len a o n le w); null_count = pos (normalized_nulls a o n fits format le w) }

-- ---- descendants

pub written_more : (w : WindowParts) (ws : List WindowParts) → window_arrays (w ∷ ws) ≡ preorder (normalized_window w) ++ window_arrays ws
unfolding window_arrays
written_more w ws = flat_map-cons (λ (v : WindowParts). preorder (normalized_window v)) w ws

pub written_none : window_arrays [] ≡ []
unfolding window_arrays
written_none = refl

written_one : (w : WindowParts) → preorder (normalized_window w) ≡ window_arrays (w ∷ [])
written_one w = sym (written_more w [] ∙ ap (λ (x : List Layout). preorder (normalized_window w) ++ x) written_none ∙ append-nil (preorder (normalized_window w)))

pub each_written : (cs : Layouts) (o n : ℕ) → preorder_all (normalized_each cs o n) ≡ window_arrays (each_window cs o n)
each_written no_layouts o n = sym written_none
each_written (more_layouts c cs) o n = ap (λ (x : List Layout). preorder (normalized_slice c o n) ++ x) (each_written cs o n) ∙ sym (written_more (window_parts c o n) (each_window cs o n))

pub all_written : (cs : Layouts) → preorder_all (normalized_all cs) ≡ window_arrays (whole_windows cs)
all_written no_layouts = sym written_none
all_written (more_layouts c cs) = ap (λ (x : List Layout). preorder (normalized_slice c 0 (len c)) ++ x) (all_written cs) ∙ sym (written_more (window_parts c 0 (len c)) (whole_windows cs))

-- a window is written as its own array, then its descendants
pub arrays_normalized : (a : Layout) (o n : ℕ) → preorder (normalized_slice a o n) ≡ normalized_slice a o n ∷ window_arrays (windows_below a o n)
arrays_normalized (fixed_size_list t c va) o n = ap (λ (x : List Layout). normalized_slice (fixed_size_list t c va) o n ∷ x) (written_one (window_parts c (o * size_of t) (n * size_of t)))
arrays_normalized (list_of l t os c va) o n = ap (λ (x : List Layout). normalized_slice (list_of l t os c va) o n ∷ x) (written_one (window_parts c (begin os o) (begin os (o + n) - begin os o)))
arrays_normalized (map_of t os c va) o n = ap (λ (x : List Layout). normalized_slice (map_of t os c va) o n ∷ x) (written_one (window_parts c (begin os o) (begin os (o + n) - begin os o)))
arrays_normalized (struct t cs va) o n = ap (λ (x : List Layout). normalized_slice (struct t cs va) o n ∷ x) (each_written cs o n)
arrays_normalized (union t ks cs None start) o n = ap (λ (x : List Layout). normalized_slice (union t ks cs None start) o n ∷ x) (each_written cs (sparse_begin start o n) n)
arrays_normalized (union t ks cs (Some os) start) o n = ap (λ (x : List Layout). normalized_slice (union t ks cs (Some os) start) o n ∷ x) (all_written cs)
arrays_normalized (null t m) o n = ap (λ (x : List Layout). normalized_slice (null t m) o n ∷ x) (sym written_none)
arrays_normalized (boolean t bs va) o n = ap (λ (x : List Layout). normalized_slice (boolean t bs va) o n ∷ x) (sym written_none)
arrays_normalized (primitive k t vs va) o n = ap (λ (x : List Layout). normalized_slice (primitive k t vs va) o n ∷ x) (sym written_none)
arrays_normalized (binary l t os bs va) o n = ap (λ (x : List Layout). normalized_slice (binary l t os bs va) o n ∷ x) (sym written_none)
arrays_normalized (utf8 l t os bs va) o n = ap (λ (x : List Layout). normalized_slice (utf8 l t os bs va) o n ∷ x) (sym written_none)
arrays_normalized (fixed_size_binary t bs va) o n = ap (λ (x : List Layout). normalized_slice (fixed_size_binary t bs va) o n ∷ x) (sym written_none)
arrays_normalized (dictionary t ks c) o n = ap (λ (x : List Layout). normalized_slice (dictionary t ks c) o n ∷ x) (sym written_none)

-- a column is a window over all of its slots
pub columns_written : (xs : List AnyArray) → window_arrays (whole_windows (layouts_of xs)) ≡ written_arrays (map layout_of xs)
unfolding written_arrays
columns_written [] = written_none
columns_written (x ∷ xs) =
    written_more (window_parts (layout_of x) 0 (len (layout_of x))) (whole_windows (layouts_of xs))
    ∙ ap (λ (y : List Layout). preorder (normalized (layout_of x)) ++ y) (columns_written xs)
    ∙ sym (flat_map-cons (λ (a : Layout). preorder (normalized a)) (layout_of x) (map layout_of xs))

-- ---- windows without children

pub pass_append : {A : Type 0} (p : A → Bool) (xs ys : List A) → list_all p (xs ++ ys) ≡ (list_all p xs && list_all p ys)
pass_append p [] ys = refl
pass_append p (x ∷ xs) ys = ap (λ (b : Bool). p x && b) (pass_append p xs ys) ∙ and_assoc (p x) (list_all p xs) (list_all p ys)
  where
    and_assoc : (a b c : Bool) → (a && (b && c)) ≡ ((a && b) && c)
    and_assoc true b c = refl
    and_assoc false b c = refl

-- a window without children is normalized as its slice
pub flat_normalized : (a : Layout) (o n : ℕ) → is_flat_layout a ≡ true → normalized_slice a o n ≡ normalized_flat (slice_layout a o n)
flat_normalized (null t m) o n flat = refl
flat_normalized (boolean t bs va) o n flat = refl
flat_normalized (primitive k t vs va) o n flat = refl
flat_normalized (binary l t os bs va) o n flat = refl
flat_normalized (utf8 l t os bs va) o n flat = refl
flat_normalized (fixed_size_binary t bs va) o n flat = refl
flat_normalized (dictionary t ks c) o n flat = refl
flat_normalized a o n flat = cc

pub flat_cut : (a : Layout) (o n : ℕ) → is_flat_layout a ≡ true → is_flat_layout (slice_layout a o n) ≡ true
flat_cut (null t m) o n flat = refl
flat_cut (boolean t bs va) o n flat = refl
flat_cut (primitive k t vs va) o n flat = flat
flat_cut (binary l t os bs va) o n flat = refl
flat_cut (utf8 l t os bs va) o n flat = refl
flat_cut (fixed_size_binary t bs va) o n flat = refl
flat_cut (dictionary t ks c) o n flat = refl
flat_cut a o n flat = cc

-- ---- measures for recursion

abbrev pub load : WindowParts → ℕ
load w = weight w.array + 1

each_load : (cs : Layouts) (o n : ℕ) → sum_by load (each_window cs o n) ≡ weight_all cs
each_load no_layouts o n = refl
each_load (more_layouts c cs) o n = omega (arith, sum_by-cons load (window_parts c o n) (each_window cs o n), each_load cs o n)

whole_load : (cs : Layouts) → sum_by load (whole_windows cs) ≡ weight_all cs
whole_load no_layouts = refl
whole_load (more_layouts c cs) = omega (arith, sum_by-cons load (window_parts c 0 (len c)) (whole_windows cs), whole_load cs)

one_load : (w : WindowParts) → sum_by load (w ∷ []) ≡ load w
one_load w = omega (arith, sum_by-cons load w [])

pub below_load : (a : Layout) (o n : ℕ) → sum_by load (windows_below a o n) ≤ weight a
below_load (fixed_size_list t c va) o n = omega (arith, one_load (window_parts c (o * size_of t) (n * size_of t)))
below_load (list_of l t os c va) o n = omega (arith, one_load (window_parts c (begin os o) (begin os (o + n) - begin os o)))
below_load (map_of t os c va) o n = omega (arith, one_load (window_parts c (begin os o) (begin os (o + n) - begin os o)))
below_load (struct t cs va) o n = omega (arith, each_load cs o n)
below_load (union t ks cs None start) o n = omega (arith, each_load cs (sparse_begin start o n) n)
below_load (union t ks cs (Some os) start) o n = omega (arith, whole_load cs)
below_load a o n = omega arith

-- ---- only the normalized arrays matter for writing

written_by : (columns : List Layout) → written_arrays columns ≡ flat_map preorder (map normalized columns)
unfolding written_arrays
written_by [] = refl
written_by (a ∷ columns) = ap (λ (x : List Layout). preorder (normalized a) ++ x) (written_by columns)

pub written_alone : (one other : List Layout) → map normalized one ≡ map normalized other → (written_arrays one ≡ written_arrays other) × (columns_body one ≡ columns_body other)
written_alone one other e =
    let same : written_arrays one ≡ written_arrays other = written_by one ∙ ap (flat_map preorder) e ∙ sym (written_by other) in
    (same, ap (λ (arrays : List Layout). body_of (buffers_of arrays)) same)
