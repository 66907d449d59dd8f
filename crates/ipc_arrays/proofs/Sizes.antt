-- The sizes of the buffers of lists and unions.
use Rattle.std.proofs.Common.{◌≡◌, ℕ, ◌+◌, ◌*◌, ◌^◌, ◌≤◌, Bool, false, List, [], ◌∷◌, length, map, Some, None, refl, sym, ap, subst, ◌∙◌, arith}
use Rattle.std.specs.Prelude.{ℤ, Option}
use Rattle.std.proofs.lemmas.List.{length-map}
use Rattle.nest_memory.specs.Sublist.{sublist}
use Rattle.nest_memory.specs.Native.{unsigned}
use Rattle.nest_model.specs.Accessors.{children_of, start_of, types_of, union_offsets_of}
use Rattle.nest_model.specs.Array.{TopFits}
use Rattle.nest_model.specs.Layout.{Layout, union, layout_type}
use Rattle.nest_model.specs.Meaning.{len}
use Rattle.nest_model.specs.Part.{Validity}
use Rattle.nest_model.specs.Runs.{length-cut}
use Rattle.ipc_arrays.specs.FixedWidth.{ByteFormat, offset_format, type_format}
use Rattle.ipc_arrays.specs.FixedWidthLaws.{offset_sized, values_long}
use Rattle.ipc_arrays.specs.BodyBuffers.{body_of}
use Rattle.ipc_arrays.specs.Encoding.{normalized_validity_bytes, offset_bytes, numbers_bytes, own_buffers, normalized_slice}
use Rattle.ipc_arrays.proofs.Arrays.{second_within}
use Rattle.ipc_arrays.proofs.Covers.{UnionOf, own_sparse, own_dense}

rows_bytes : (large : Bool) (os : List ℕ) → length (offset_bytes large os) ≡ length os * (offset_format large).size
rows_bytes large os = values_long (offset_format large) (map unsigned os) (offset_sized large).long ∙ ap (λ (n : ℕ). n * (offset_format large).size) (length-map os unsigned)

pub rows_sizes : (large : Bool) (format : ByteFormat) (os : List ℕ) (va : Validity) (slots n m : ℕ) → format ≡ offset_format large → length os ≡ slots + 1 → n ≡ length (normalized_validity_bytes va) → m ≡ (slots + 1) * format.size → map length (normalized_validity_bytes va ∷ offset_bytes large os ∷ []) ≡ n ∷ m ∷ []
rows_sizes large format os va slots n m is long e f =
    let offsets : length (offset_bytes large os) ≡ m = rows_bytes large os ∙ (λ w. long w * (sym is w).size) ∙ sym f in
    λ w. sym e w ∷ offsets w ∷ []

pub rows_past : (large : Bool) (format : ByteFormat) (os : List ℕ) (va : Validity) (slots p : ℕ) → format ≡ offset_format large → length os ≡ slots + 1 → 2 ^ 63 ≤ (slots + 1) * format.size → 2 ^ 63 ≤ p + length (body_of (normalized_validity_bytes va ∷ offset_bytes large os ∷ []))
rows_past large format os va slots p is long past =
    let offsets : length (offset_bytes large os) ≡ (slots + 1) * format.size = rows_bytes large os ∙ (λ w. long w * (sym is w).size) in
    omega (arith, past, offsets, second_within (normalized_validity_bytes va) (offset_bytes large os) [])

numbers_long : (format : ByteFormat) (zs : List ℤ) → ((v : List ℤ) → length (format.bytes v) ≡ format.size) → length (numbers_bytes format zs) ≡ length zs * format.size
numbers_long format zs long = values_long format (map (λ z. z ∷ []) zs) long ∙ ap (λ (n : ℕ). n * format.size) (length-map zs (λ (z : ℤ). z ∷ []))

pub sparse_sizes : (a : Layout) (o n : ℕ) → UnionOf a → union_offsets_of a ≡ None → o + n ≤ len a → map length (own_buffers (normalized_slice a o n)) ≡ n ∷ []
sparse_sizes a o n kind none le =
    let types : length (numbers_bytes type_format (sublist (types_of a) o n)) ≡ n = numbers_long type_format (sublist (types_of a) o n) (λ v. refl) ∙ omega (arith, length-cut (types_of a) o n (omega (arith, le, ap len kind))) in
    ap (map length) (own_sparse a o n kind none) ∙ ap (λ (m : ℕ). m ∷ []) types

dense_bytes : (a : Layout) (os : List ℤ) (o n : ℕ) → UnionOf a → TopFits a → union_offsets_of a ≡ Some os → o + n ≤ len a → length (numbers_bytes (offset_format false) (sublist os o n)) ≡ n * 4
dense_bytes a os o n kind fits some le =
    let is : a ≡ union (layout_type a) (types_of a) (children_of a) (Some os) (start_of a) = kind ∙ ap (λ (os : Option (List ℤ)). union (layout_type a) (types_of a) (children_of a) os (start_of a)) some in
    let f : TopFits (union (layout_type a) (types_of a) (children_of a) (Some os) (start_of a)) = subst TopFits is fits in
    let many : length os ≡ length (types_of a) = f.1.1.1.1.1.0 in
    numbers_long (offset_format false) (sublist os o n) (λ v. refl)
    ∙ ap (λ (m : ℕ). m * 4) (length-cut os o n (omega (arith, many, le, ap len kind)))

pub dense_sizes : (a : Layout) (os : List ℤ) (o n m : ℕ) → UnionOf a → TopFits a → union_offsets_of a ≡ Some os → o + n ≤ len a → m ≡ n * 4 → map length (own_buffers (normalized_slice a o n)) ≡ n ∷ m ∷ []
dense_sizes a os o n m kind fits some le e =
    let types : length (numbers_bytes type_format (sublist (types_of a) o n)) ≡ n = numbers_long type_format (sublist (types_of a) o n) (λ v. refl) ∙ omega (arith, length-cut (types_of a) o n (omega (arith, le, ap len kind))) in
    let offsets : length (numbers_bytes (offset_format false) (sublist os o n)) ≡ m = dense_bytes a os o n kind fits some le ∙ sym e in
    ap (map length) (own_dense a os o n kind some) ∙ (λ w. types w ∷ offsets w ∷ [])

pub dense_past : (a : Layout) (os : List ℤ) (o n p : ℕ) → UnionOf a → TopFits a → union_offsets_of a ≡ Some os → o + n ≤ len a → 2 ^ 63 ≤ n * 4 → 2 ^ 63 ≤ p + length (body_of (own_buffers (normalized_slice a o n)))
dense_past a os o n p kind fits some le past =
    omega (arith, past, dense_bytes a os o n kind fits some le, ap (λ (x : List (List ℕ)). length (body_of x)) (own_dense a os o n kind some), second_within (numbers_bytes type_format (sublist (types_of a) o n)) (numbers_bytes (offset_format false) (sublist os o n)) [])
