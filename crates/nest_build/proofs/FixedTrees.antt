-- Fixed-size binary builders as trees of one level.
use Rattle.std.specs.Prelude.{◌⊎◌, ◌↔◌, Option, Some, None, IsTrue, option_map, alloc_error, not, map, is_some, ◌||◌, count_by}
use Rattle.std.proofs.Common.{◌≡◌, ℕ, ◌+◌, ◌*◌, ◌<◌, ◌≤◌, Bool, true, false, List, [], ◌∷◌, ◌++◌, length, refl, sym, ap, subst, ◌∙◌, inl, inr, suc, take, get_or, arith}
use Rattle.std.proofs.lemmas.List.{length-append}
use Rattle.nest_memory.specs.TypeTree.{size_of}
use Rattle.nest_memory.specs.Physical.{physical_type}
use Rattle.nest_memory.specs.declared.datatypes.physical_type.PhysicalType.TheVariants as physical
use Rattle.nest_memory.specs.declared.error.Error.{Error}
use Rattle.nest_memory.specs.declared.error.Error.TheVariants.{Memory, InvalidArgumentError}
use Rattle.nest_memory.specs.declared.error.ArgumentError.TheVariants.{ItemSize}
use Rattle.nest_flat.specs.FlatParts.{optional}
use Rattle.nest_flat.specs.NullSlots.{NullsByValidity}
use Rattle.nest_model.specs.Fits.{ValidityFits}
use Rattle.nest_model.specs.Nullness.{is_null_at, null_count}
use Rattle.nest_model.specs.NullnessLaws.{null_count-bits, null_count-none}
use Rattle.std.proofs.Math.Seq.{take-suc}
use Rattle.nest_model.specs.Part.{valid_at}
use Rattle.nest_model.specs.Slot as slots
use Rattle.nest_model.specs.Slot.{Slot}
use Rattle.nest_model.specs.Layout.{Layout, fixed_size_binary, layout_type}
use Rattle.nest_model.specs.Accessors.{validity_of, bytes_of}
use Rattle.nest_model.specs.Meaning.{len, slot, slots_of, where_valid}
use Rattle.nest_model.specs.Reads.{slots-length}
use Rattle.nest_model.specs.Array.{TopFits}
use Rattle.nest_model.specs.Checks.{largest_length, Pass}
use Rattle.nest_model.specs.BuilderItem as items
use Rattle.nest_model.specs.BuilderItem.{PlainValue, Holds}
use Rattle.nest_model.specs.BuilderAppend.{Accepted}
use Rattle.nest_model.specs.BuilderAppendLaws.{flat_accepted, flat_null_accepted}
use Rattle.nest_model.specs.BuilderRefusals.{required_item, requirement_refusal}
use Rattle.nest_model.specs.BuilderRefusalLaws.{within, same_number, other_number}
use Rattle.nest_model.specs.BuilderJoin.{join_checks}
use Rattle.nest_flat.specs.Slices.{has_null}
use Rattle.nest_array.specs.FixedBytes.{IsOtherSize}
use Rattle.nest_build.specs.FlatTree.{flat_tree}
use Rattle.nest_build.proofs.FlatTrees.{flat-bits, value-holds}
use Rattle.nest_array.specs.FixedBytesLaws.{sized-equal}

pub fixed-physical : (a : Layout) → TopFits a → a ≡ fixed_size_binary (layout_type a) (bytes_of a) (validity_of a) → physical_type (layout_type a) ≡ physical.FixedSizeBinary
fixed-physical a f e = (subst TopFits e f).1.0

pub fixed-accepted : (a b : Layout) (x : Option (List ℕ)) → layout_type b ≡ layout_type a → slots_of b ≡ slots_of a ++ optional slots.bytes x ∷ []
    → Accepted (required_item (option_map items.bytes x)) (flat_tree a) (flat_tree b)
fixed-accepted a b None t s = rw t (flat_null_accepted (layout_type a) (slots_of a) (slots_of b) s)
fixed-accepted a b (Some y) t s = rw t (flat_accepted (layout_type a) (slots_of a) (slots_of b) (items.bytes y) s)

-- the number of bytes after a push is a length
pub grown-bytes : (a b : Layout) (s : Slot) (k : ℕ) → slots_of b ≡ slots_of a ++ s ∷ [] → layout_type b ≡ layout_type a → k ≡ len b * size_of (layout_type b) → k ≤ largest_length
    → (length (slots_of a) + 1) * size_of (layout_type a) ≤ largest_length
grown-bytes a b s k e t h l =
    let n : len b ≡ length (slots_of a) + 1 = sym (slots-length b) ∙ ap length e ∙ length-append (slots_of a) (s ∷ []) in
    subst (λ m. m ≤ largest_length) (h ∙ (λ i. n i * size_of (t i))) l

pub joined-bytes : (a b c : Layout) (k : ℕ) → slots_of c ≡ slots_of a ++ slots_of b → layout_type c ≡ layout_type a → k ≡ len c * size_of (layout_type c) → k ≤ largest_length
    → (length (slots_of a) + length (slots_of b)) * size_of (layout_type a) ≤ largest_length
joined-bytes a b c k e t h l =
    let n : len c ≡ length (slots_of a) + length (slots_of b) = sym (slots-length c) ∙ ap length e ∙ length-append (slots_of a) (slots_of b) in
    subst (λ m. m ≤ largest_length) (h ∙ (λ i. n i * size_of (t i))) l

pub fixed-fits : (a : Layout) (x : Option (List ℕ)) → TopFits a → a ≡ fixed_size_binary (layout_type a) (bytes_of a) (validity_of a) → ¬ IsOtherSize (size_of (layout_type a)) x
    → length (slots_of a) + 1 ≤ largest_length → (length (slots_of a) + 1) * size_of (layout_type a) ≤ largest_length → requirement_refusal (option_map items.bytes x) (flat_tree a) ≡ None
fixed-fits a None f e o l m = rw (fixed-physical a f e, within (length (slots_of a) + 1) l, within ((length (slots_of a) + 1) * size_of (layout_type a)) m) refl
fixed-fits a (Some y) f e o l m =
    rw (fixed-physical a f e, same_number (length y) (size_of (layout_type a)) (sized-equal (size_of (layout_type a)) y o), within (length (slots_of a) + 1) l, within ((length (slots_of a) + 1) * size_of (layout_type a)) m) refl

fixed-other : (a : Layout) (x : Option (List ℕ)) → TopFits a → a ≡ fixed_size_binary (layout_type a) (bytes_of a) (validity_of a) → IsOtherSize (size_of (layout_type a)) x
    → requirement_refusal (option_map items.bytes x) (flat_tree a) ≡ Some (InvalidArgumentError ItemSize)
fixed-other a None f e o = absurd o
fixed-other a (Some y) f e o = rw (fixed-physical a f e, other_number (length y) (size_of (layout_type a)) o) refl

pub fixed-refused : (a : Layout) (x : Option (List ℕ)) (e : Error) → TopFits a → a ≡ fixed_size_binary (layout_type a) (bytes_of a) (validity_of a)
    → (e ≡ InvalidArgumentError ItemSize) ⊎ (e ≡ Memory alloc_error) → (e ≡ InvalidArgumentError ItemSize → IsOtherSize (size_of (layout_type a)) x)
    → (e ≡ Memory alloc_error) ⊎ ((e ≡ InvalidArgumentError ItemSize) × (requirement_refusal (option_map items.bytes x) (flat_tree a) ≡ Some e))
fixed-refused a x e f k (inl o) p = inr (o, fixed-other a x f k (p o) ∙ ap Some (sym o))
fixed-refused a x e f k (inr m) p = inl m

pub fixed-joins : (a b : Layout) → TopFits a → a ≡ fixed_size_binary (layout_type a) (bytes_of a) (validity_of a) → layout_type a ≡ layout_type b → length (slots_of a) + length (slots_of b) ≤ largest_length
    → (length (slots_of a) + length (slots_of b)) * size_of (layout_type a) ≤ largest_length → Pass (join_checks (flat_tree a) (flat_tree b))
fixed-joins a b f e t l m =
    (t, (rw (fixed-physical a f e, within (length (slots_of a) + length (slots_of b)) l, within ((length (slots_of a) + length (slots_of b)) * size_of (layout_type a)) m) refl, tt))

bytes-same : (r : Bool) (xs ys : List ℕ) → (IsTrue r ↔ (xs ≡ ys)) → IsTrue r ↔ (slots.bytes xs ≡ slots.bytes ys)
bytes-same r xs ys k = (λ h. ap slots.bytes (k.0 h), λ e. k.1 (let q : xs ≡ ys = cc in q))

pub fixed-holds : (a : Layout) (i : ℕ) (v : PlainValue) (xs ys : List ℕ) (r : Bool) → TopFits a → a ≡ fixed_size_binary (layout_type a) (bytes_of a) (validity_of a) → i < len a → v ≡ items.bytes ys
    → valid_at (validity_of a) i ≡ true → slot a i ≡ where_valid (validity_of a) i (slots.bytes xs) → (IsTrue r ↔ (xs ≡ ys)) → IsTrue r ↔ Holds (flat_tree a) i v
fixed-holds a i v xs ys r f e l w k g n =
    subst (λ u. IsTrue r ↔ Holds (flat_tree a) i u) (sym w)
    (value-holds a i (items.bytes ys) (slots.bytes xs) r l (rw (fixed-physical a f e) refl) (g ∙ rw k refl) (bytes-same r xs ys n))

-- builders of different lengths differ
pub other-lengths : (a b : Layout) (n m : ℕ) → n ≡ len a → m ≡ len b → (n ≡ m → ⊥) → IsTrue false ↔ (slots_of a ≡ slots_of b)
other-lengths a b n m p q h =
    (λ t. cc, λ e. absurd (h (p ∙ sym (slots-length a) ∙ ap length e ∙ slots-length b ∙ sym q)))

-- the nulls
pub fixed-no_nulls : (a : Layout) → a ≡ fixed_size_binary (layout_type a) (bytes_of a) (validity_of a) → None ≡ validity_of a → 0 ≡ null_count a
fixed-no_nulls a e h = sym (null_count-none a (ap (λ b. is_null_at b 0) e ∙ ap (λ v. not (valid_at v 0)) (sym h)) (sym h))

pub fixed-nulls : (a : Layout) (bits : List Bool) → TopFits a → a ≡ fixed_size_binary (layout_type a) (bytes_of a) (validity_of a) → Some bits ≡ validity_of a → count_by not bits ≡ null_count a
fixed-nulls a bits f e h = sym (null_count-bits a bits (sym h) (subst (λ v. ValidityFits v (len a)) (sym h) (flat-bits a f (subst NullsByValidity (sym e) tt))))
