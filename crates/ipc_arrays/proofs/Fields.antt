-- A loop that reads the array of each field.
use Rattle.std.proofs.Common.{◌≡◌, ℕ, zero, suc, ◌+◌, ◌<◌, ◌≤◌, List, [], ◌∷◌, ◌++◌, length, get_or, drop, Result, Ok, Err, refl, sym, ap, ◌∙◌, arith}
use Rattle.std.proofs.lemmas.List.{drop_more, drop_all}
use Rattle.ipc_flatbuf.specs.declared.error.IpcReadError.{IpcReadError}
use Rattle.ipc_flatbuf.specs.ReadResults.{◌>>=◌, FailsOrRunsOut}
use Rattle.nest_memory.specs.TypeOf.{field_of, field_list_of}
use Rattle.nest_memory.specs.TypeTree.{more_fields}
use Rattle.nest_memory.specs.declared.datatypes.field.Field.{Field}
use Rattle.nest_model.specs.Layout.{Layout, Layouts, no_layouts, more_layouts}
use Rattle.nest_model.specs.NullKinds.{field_weight, fields_weight}
use Rattle.nest_array.specs.declared.any.AnyArray.{AnyArray}
use Rattle.nest_array.specs.Seen.{layout_of, layouts_of}
use Rattle.ipc_arrays.specs.Decoding.{Rest}
use Rattle.ipc_arrays.specs.NestedDecoding.{child_decoding, children_decoding, no_items, items_open}
use Rattle.ipc_arrays.specs.declared.cursor.ExpectedLength.{ExpectedLength}

-- one list of arrays, then another
abbrev pub onto : Layouts → Layouts → Layouts
onto no_layouts cs = cs
onto (more_layouts b bs) cs = more_layouts b (onto bs cs)

-- the arrays that were read, then those that are still to be read
abbrev pub with_children : Layouts → Result (Layouts × Rest) IpcReadError → Result (Layouts × Rest) IpcReadError
with_children front read = read >>= λ x. Ok (onto front x.0, x.1)

onto_more : (front : Layouts) (c : Layout) (cs : Layouts) → onto front (more_layouts c cs) ≡ onto (onto front (more_layouts c no_layouts)) cs
onto_more no_layouts c cs = refl
onto_more (more_layouts b bs) c cs = ap (more_layouts b) (onto_more bs c cs)

onto_none : (front : Layouts) → onto front no_layouts ≡ front
onto_none no_layouts = refl
onto_none (more_layouts b bs) = ap (more_layouts b) (onto_none bs)

pushed : (front : List AnyArray) (a : AnyArray) → layouts_of (front ++ a ∷ []) ≡ onto (layouts_of front) (more_layouts (layout_of a) no_layouts)
pushed [] a = refl
pushed (b ∷ front) a = ap (more_layouts (layout_of b)) (pushed front a)

regroup : (front : Layouts) (c : Layout) (read : Result (Layouts × Rest) IpcReadError) → with_children front (read >>= λ x. Ok (more_layouts c x.0, x.1)) ≡ with_children (onto front (more_layouts c no_layouts)) read
regroup front c (Ok x) = ap (λ (cs : Layouts). Ok (cs, x.1)) (onto_more front c x.0)
regroup front c (Err f) = refl

pub starts : (read : Result (Layouts × Rest) IpcReadError) → with_children no_layouts read ≡ read
starts (Ok x) = refl
starts (Err f) = refl

module _ (fs : List Field) (expected : ExpectedLength) (body : List ℕ) (i : ℕ) where
  left_is : (f : Field) → i < length fs → f ≡ get_or fs i f → field_list_of (drop i fs) ≡ more_fields (field_of f) (field_list_of (drop (i + 1) fs))
  left_is f lt is = ap field_list_of (drop_more fs i f lt ∙ ap (λ (y : Field). y ∷ drop (i + 1) fs) (sym is))

  pub goes_on : (front new : List AnyArray) (a : AnyArray) (f : Field) (rest tail : Rest) (total : Result (Layouts × Rest) IpcReadError) → i < length fs → f ≡ get_or fs i f → new ≡ front ++ a ∷ []
      → child_decoding (field_of f) expected body rest ≡ Ok (layout_of a, tail) → with_children (layouts_of front) (children_decoding (field_list_of (drop i fs)) expected body rest) ≡ total
      → with_children (layouts_of new) (children_decoding (field_list_of (drop (i + 1) fs)) expected body tail) ≡ total
  goes_on front new a f rest tail total lt is e h so_far =
      let one : with_children (layouts_of front) (children_decoding (field_list_of (drop i fs)) expected body rest) ≡ with_children (onto (layouts_of front) (more_layouts (layout_of a) no_layouts)) (children_decoding (field_list_of (drop (i + 1) fs)) expected body tail) =
      rw (left_is f lt is, items_open (field_of f) (field_list_of (drop (i + 1) fs)) expected body rest, h) (regroup (layouts_of front) (layout_of a) (children_decoding (field_list_of (drop (i + 1) fs)) expected body tail)) in
      rw (e, pushed front a) (sym one ∙ so_far)

  pub ends : (f : IpcReadError) (front : List AnyArray) (field : Field) (rest : Rest) (total : Result (Layouts × Rest) IpcReadError) → i < length fs → field ≡ get_or fs i field
      → FailsOrRunsOut f (child_decoding (field_of field) expected body rest) → with_children (layouts_of front) (children_decoding (field_list_of (drop i fs)) expected body rest) ≡ total → FailsOrRunsOut f total
  ends f front field rest total lt is h so_far = λ known.
      let e : child_decoding (field_of field) expected body rest ≡ Err f = h known in
      let one : with_children (layouts_of front) (children_decoding (field_list_of (drop i fs)) expected body rest) ≡ Err f = rw (left_is field lt is, items_open (field_of field) (field_list_of (drop (i + 1) fs)) expected body rest, e) refl in
      sym so_far ∙ one

  pub is_done : (front : List AnyArray) (rest : Rest) (total : Result (Layouts × Rest) IpcReadError) → length fs ≤ i → with_children (layouts_of front) (children_decoding (field_list_of (drop i fs)) expected body rest) ≡ total → total ≡ Ok (layouts_of front, rest)
  is_done front rest total le so_far =
      let one : with_children (layouts_of front) (children_decoding (field_list_of (drop i fs)) expected body rest) ≡ Ok (layouts_of front, rest) = rw (drop_all i fs le, no_items expected body rest) (ap (λ (cs : Layouts). Ok (cs, rest)) (onto_none (layouts_of front))) in
      sym so_far ∙ one

-- a field is smaller than the fields that it is one of
pub lighter : (fs : List Field) (i : ℕ) (f : Field) → i < length fs → f ≡ get_or fs i f → field_weight (field_of f) < fields_weight (field_list_of fs)
lighter [] i f lt is = absurd (omega (arith, lt))
lighter (x ∷ fs) zero f lt is = let e : field_weight (field_of f) ≡ field_weight (field_of x) = ap (λ y. field_weight (field_of y)) is in omega (arith, e)
lighter (x ∷ fs) (suc i) f lt is = omega (arith, lighter fs i f (omega (arith, lt)) is)
