-- An encoding of layouts as trees. It is injective, so it decides equality of layouts.
use Rattle.std.specs.Prelude.{◌≡◌, ℕ, ℤ, Bool, List, Option}
use Rattle.std.specs.Coded.{Coded, coded_ℕ, coded_ℤ, coded_bool, coded_list, coded×, coded_option}
use Rattle.std.proofs.Common.{refl, ap}
use base.Stored.{Gv, gnil, gnum, gcons}
use Rattle.nest_model.specs.Decide.{apart}
use Rattle.nest_memory.specs.TypeTree.{TypeTree}
use Rattle.nest_memory.specs.TypeCode.{coded_type, code_type, type_one, head, tail, tag}
use Rattle.nest_memory.specs.declared.datatypes.physical_type.PrimitiveType.{PrimitiveType}
use Rattle.nest_memory.specs.contracts.datatypes.physical_type.PrimitiveType.{the_row as native_row}
use Rattle.nest_model.specs.Part.{Validity}
use Rattle.nest_model.specs.Layout.{Layout, Layouts, null, boolean, primitive, binary, utf8, fixed_size_binary, fixed_size_list, list, map, struct, union, dictionary, no_layouts, more_layouts}

abbrev numbers : Coded (List ℕ)
numbers = coded_list coded_ℕ

abbrev whole : Coded (List ℤ)
whole = coded_list coded_ℤ

abbrev validity : Coded Validity
validity = coded_option (coded_list coded_bool)

abbrev coded_native : Coded PrimitiveType
coded_native = native_row.coded

-- The parts of each kind that are not arrays.
abbrev null_part : Coded (TypeTree × ℕ)
null_part = coded× coded_type coded_ℕ

abbrev boolean_part : Coded (TypeTree × (List Bool × Validity))
boolean_part = coded× coded_type (coded× (coded_list coded_bool) validity)

abbrev primitive_part : Coded ((PrimitiveType × TypeTree) × (List (List ℤ) × Validity))
primitive_part = coded× (coded× coded_native coded_type) (coded× (coded_list whole) validity)

abbrev bytes_part : Coded ((Bool × TypeTree) × ((List ℕ × List ℕ) × Validity))
bytes_part = coded× (coded× coded_bool coded_type) (coded× (coded× numbers numbers) validity)

abbrev fixed_part : Coded (TypeTree × (List ℕ × Validity))
fixed_part = coded× coded_type (coded× numbers validity)

abbrev top_part : Coded (TypeTree × Validity)
top_part = coded× coded_type validity

abbrev list_part : Coded ((Bool × TypeTree) × (List ℕ × Validity))
list_part = coded× (coded× coded_bool coded_type) (coded× numbers validity)

abbrev union_part : Coded ((TypeTree × List ℤ) × (Option (List ℤ) × ℕ))
union_part = coded× (coded× coded_type whole) (coded× (coded_option whole) coded_ℕ)

abbrev mutual
  pub code_layout : Layout → Gv
  code_layout (null t n) = gcons (gnum 0) (null_part.code (t, n))
  code_layout (boolean t bs va) = gcons (gnum 1) (boolean_part.code (t, (bs, va)))
  code_layout (primitive k t vs va) = gcons (gnum 2) (primitive_part.code ((k, t), (vs, va)))
  code_layout (binary l t os bs va) = gcons (gnum 3) (bytes_part.code ((l, t), ((os, bs), va)))
  code_layout (utf8 l t os bs va) = gcons (gnum 4) (bytes_part.code ((l, t), ((os, bs), va)))
  code_layout (fixed_size_binary t bs va) = gcons (gnum 5) (fixed_part.code (t, (bs, va)))
  code_layout (fixed_size_list t c va) = gcons (gnum 6) (gcons (top_part.code (t, va)) (code_layout c))
  code_layout (list l t os c va) = gcons (gnum 7) (gcons (list_part.code ((l, t), (os, va))) (code_layout c))
  code_layout (map t os c va) = gcons (gnum 8) (gcons (fixed_part.code (t, (os, va))) (code_layout c))
  code_layout (struct t cs va) = gcons (gnum 9) (gcons (top_part.code (t, va)) (code_layouts cs))
  code_layout (union t ks cs os start) = gcons (gnum 10) (gcons (union_part.code ((t, ks), (os, start))) (code_layouts cs))
  code_layout (dictionary t ks c) = gcons (gnum 11) (gcons (code_type t) (gcons (code_layout ks) (code_layout c)))

  pub code_layouts : Layouts → Gv
  code_layouts no_layouts = gnil
  code_layouts (more_layouts c cs) = gcons (code_layout c) (code_layouts cs)

mutual
  pub layout_one : (x y : Layout) → code_layout x ≡ code_layout y → x ≡ y
  layout_one (null t n) (null u m) h = let p = null_part.inj (t, n) (u, m) (ap tail h) in λ i. null (p i).0 (p i).1
  layout_one (boolean t bs va) (boolean u cs wa) h = let p = boolean_part.inj (t, (bs, va)) (u, (cs, wa)) (ap tail h) in λ i. boolean (p i).0 (p i).1.0 (p i).1.1
  layout_one (primitive k t vs va) (primitive l u ws wa) h = let p = primitive_part.inj ((k, t), (vs, va)) ((l, u), (ws, wa)) (ap tail h) in λ i. primitive (p i).0.0 (p i).0.1 (p i).1.0 (p i).1.1
  layout_one (binary l t os bs va) (binary k u ps cs wa) h = let p = bytes_part.inj ((l, t), ((os, bs), va)) ((k, u), ((ps, cs), wa)) (ap tail h) in λ i. binary (p i).0.0 (p i).0.1 (p i).1.0.0 (p i).1.0.1 (p i).1.1
  layout_one (utf8 l t os bs va) (utf8 k u ps cs wa) h = let p = bytes_part.inj ((l, t), ((os, bs), va)) ((k, u), ((ps, cs), wa)) (ap tail h) in λ i. utf8 (p i).0.0 (p i).0.1 (p i).1.0.0 (p i).1.0.1 (p i).1.1
  layout_one (fixed_size_binary t bs va) (fixed_size_binary u cs wa) h = let p = fixed_part.inj (t, (bs, va)) (u, (cs, wa)) (ap tail h) in λ i. fixed_size_binary (p i).0 (p i).1.0 (p i).1.1
  layout_one (fixed_size_list t c va) (fixed_size_list u d wa) h =
      let p = top_part.inj (t, va) (u, wa) (ap (λ v. head (tail v)) h) in
      let q = layout_one c d (ap (λ v. tail (tail v)) h) in
      λ i. fixed_size_list (p i).0 (q i) (p i).1
  layout_one (list l t os c va) (list k u ps d wa) h =
      let p = list_part.inj ((l, t), (os, va)) ((k, u), (ps, wa)) (ap (λ v. head (tail v)) h) in
      let q = layout_one c d (ap (λ v. tail (tail v)) h) in
      λ i. list (p i).0.0 (p i).0.1 (p i).1.0 (q i) (p i).1.1
  layout_one (map t os c va) (map u ps d wa) h =
      let p = fixed_part.inj (t, (os, va)) (u, (ps, wa)) (ap (λ v. head (tail v)) h) in
      let q = layout_one c d (ap (λ v. tail (tail v)) h) in
      λ i. map (p i).0 (p i).1.0 (q i) (p i).1.1
  layout_one (struct t cs va) (struct u ds wa) h =
      let p = top_part.inj (t, va) (u, wa) (ap (λ v. head (tail v)) h) in
      let q = layouts_one cs ds (ap (λ v. tail (tail v)) h) in
      λ i. struct (p i).0 (q i) (p i).1
  layout_one (union t ks cs os start) (union u ls ds ps begin) h =
      let p = union_part.inj ((t, ks), (os, start)) ((u, ls), (ps, begin)) (ap (λ v. head (tail v)) h) in
      let q = layouts_one cs ds (ap (λ v. tail (tail v)) h) in
      λ i. union (p i).0.0 (p i).0.1 (q i) (p i).1.0 (p i).1.1
  layout_one (dictionary t ks c) (dictionary u ls d) h =
      let p = type_one t u (ap (λ v. head (tail v)) h) in
      let k = layout_one ks ls (ap (λ v. head (tail (tail v))) h) in
      let q = layout_one c d (ap (λ v. tail (tail (tail v))) h) in
      λ i. dictionary (p i) (k i) (q i)
  layout_one x y h = absurd (apart (tag (code_layout x)) (tag (code_layout y)) refl (ap tag h))

  pub layouts_one : (x y : Layouts) → code_layouts x ≡ code_layouts y → x ≡ y
  layouts_one no_layouts no_layouts h = refl
  layouts_one no_layouts (more_layouts d ds) h = cc
  layouts_one (more_layouts c cs) no_layouts h = cc
  layouts_one (more_layouts c cs) (more_layouts d ds) h =
      let p = layout_one c d (ap head h) in
      let q = layouts_one cs ds (ap tail h) in
      λ i. more_layouts (p i) (q i)

abbrev pub coded_layout : Coded Layout
coded_layout = record { code = code_layout; inj = layout_one }
