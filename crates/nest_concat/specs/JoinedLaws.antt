-- Theorems about `concatenate`.
use Rattle.std.specs.Prelude.{List, [], ◌∷◌, ◌++◌, take, drop, length}
use Rattle.std.specs.List.{flat_map}
use Rattle.std.proofs.Common.{◌≡◌, ℕ, ◌-◌, ◌<◌, ◌≤◌, refl, ap, sym, ◌∙◌, arith, append-nil, length-drop}
use Rattle.std.proofs.lemmas.List.{take-append-drop, take_all}
use Rattle.std.proofs.lemmas.List.Concat.{flat_map-append}
use Rattle.nest_model.specs.Slice.{slice_layout}
use Rattle.nest_model.specs.SliceLaws.{slots-cut, type-cut}
use Rattle.nest_model.specs.Layout.{Layout}
use Rattle.nest_model.specs.Meaning.{len, slots_of}
use Rattle.nest_model.specs.Reads.{slots-length}
use Rattle.nest_model.specs.SameArray.{IsSameArray}
use Rattle.nest_concat.specs.Joined.{IsConcatenated, first_type}

-- concatenating one array returns that array
pub joined-one : (a b : Layout) → IsConcatenated (a ∷ []) b → IsSameArray b a
joined-one a b j = (j.same_type, j.slots ∙ append-nil (slots_of a))

-- concatenating the slices of an array up to an index and from it on returns the array
pub joined-cuts : (a b : Layout) (k : ℕ) → k ≤ len a → IsConcatenated (slice_layout a 0 k ∷ slice_layout a k (len a - k) ∷ []) b → IsSameArray b a
joined-cuts a b k h j =
    let ss = slots_of a in
    let p = slots-cut a 0 k (omega arith) in
    let q = slots-cut a k (len a - k) (omega arith) in
    let r : take (len a - k) (drop k ss) ≡ drop k ss = take_all (len a - k) (drop k ss) (omega (arith, length-drop k ss, slots-length a)) in (
      j.same_type ∙ type-cut a 0 k,
      j.slots
          ∙ ap (λ xs. xs ++ (slots_of (slice_layout a k (len a - k)) ++ [])) p
          ∙ ap (λ xs. take k ss ++ xs) (append-nil (slots_of (slice_layout a k (len a - k))) ∙ q ∙ r)
          ∙ take-append-drop k ss,
    )

first-of-append : (as_ bs : List Layout) → 0 < length as_ → first_type (as_ ++ bs) ≡ first_type as_
first-of-append [] bs h = absurd (omega arith)
first-of-append (a ∷ as_) bs h = refl

-- concatenating a result with arrays after it, or before it, is one concatenation
pub joined-first : (as_ bs : List Layout) (c d : Layout) → 0 < length as_ → IsConcatenated as_ c → IsConcatenated (c ∷ bs) d → IsConcatenated (as_ ++ bs) d
joined-first as_ bs c d h i j =
    record {
      slots = j.slots ∙ ap (λ ss. ss ++ flat_map slots_of bs) i.slots ∙ sym (flat_map-append slots_of as_ bs);
      same_type = j.same_type ∙ i.same_type ∙ sym (first-of-append as_ bs h);
    }

pub joined-last : (as_ bs : List Layout) (c d : Layout) → 0 < length as_ → IsConcatenated bs c → IsConcatenated (as_ ++ c ∷ []) d → IsConcatenated (as_ ++ bs) d
joined-last as_ bs c d h i j =
    record {
      slots =
          j.slots
          ∙ flat_map-append slots_of as_ (c ∷ [])
          ∙ ap (λ ss. flat_map slots_of as_ ++ ss) (append-nil (slots_of c) ∙ i.slots)
          ∙ sym (flat_map-append slots_of as_ bs);
      same_type = j.same_type ∙ first-of-append as_ (c ∷ []) h ∙ sym (first-of-append as_ bs h);
    }
