use Rattle.std.specs.Prelude.{[], ◌∷◌, None}
use Rattle.std.proofs.Common.{refl, sym}
use Rattle.std.proofs.lemmas.List.Elements.{All-cons, All-nil}
use Rattle.nest_array.specs.WindowParts.{WindowParts}
use Rattle.nest_model.specs.Accessors.{child_of}
use Rattle.nest_model.specs.Examples.{dictionaries, ints, text_dictionary, texts}
use Rattle.nest_model.specs.Layout.{Layout}
use Rattle.nest_model.specs.SameArray.{IsSameArray}
use Rattle.nest_concat.specs.Joined.{whole}
use Rattle.nest_concat.specs.Lookups.{HaveValues}
use Rattle.nest_concat.proofs.LaidParts.{kept-laid}
use Rattle.nest_concat.proofs.examples.joined_arrays.Goals as goal

abbrev values : Layout
values = texts (0 ∷ 1 ∷ 2 ∷ []) (97 ∷ 98 ∷ [])

abbrev one : Layout
one = dictionaries (1 ∷ []) None values

abbrev other : Layout
other = dictionaries (0 ∷ []) None (texts (1 ∷ 2 ∷ 3 ∷ []) (99 ∷ 97 ∷ 98 ∷ []))

pub returns-clause-kept : goal.returns-clause-kept
returns-clause-kept c =
    let P : WindowParts → Type 0 = λ w. IsSameArray (child_of w.array) values in
    let ws = whole one ∷ whole other ∷ [] in
    let h : HaveValues values ws = All-cons P (whole one) (whole other ∷ []) (refl, refl) (All-cons P (whole other) [] (refl, refl) (All-nil P)) in
    sym (kept-laid one text_dictionary text_dictionary (ints (1 ∷ [])) values (ints (1 ∷ 0 ∷ [])) values ws refl refl refl h refl)
