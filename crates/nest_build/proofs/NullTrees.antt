-- Null builders as trees of one level.
use Rattle.std.specs.Prelude.{◌≢◌, ◌↔◌, Some, None, IsTrue}
use Rattle.std.proofs.Common.{◌≡◌, ℕ, zero, suc, ◌+◌, ◌<◌, ◌≤◌, true, false, [], ◌∷◌, ◌++◌, length, take, replicate, refl, sym, ap, ◌∙◌, subst, arith}
use Rattle.std.proofs.lemmas.Bool.{le-leb}
use Rattle.std.proofs.lemmas.List.{replicate_more, take-replicate, length-replicate}
use Rattle.nest_memory.specs.TypeTree.{TypeTree}
use Rattle.nest_memory.specs.Physical.{physical_type}
use Rattle.nest_memory.specs.declared.datatypes.physical_type.PhysicalType.TheVariants as physical
use Rattle.nest_memory.specs.declared.error.Error.TheVariants.{Overflow}
use Rattle.nest_model.specs.Slot as slots
use Rattle.nest_model.specs.Slot.{Slot}
use Rattle.nest_model.specs.Layout.{Layout, null, layout_type}
use Rattle.nest_model.specs.Meaning.{run, len, slot, slots_of}
use Rattle.nest_model.specs.Array.{TopFits}
use Rattle.nest_model.specs.Checks.{largest_length, is_past}
use Rattle.nest_model.specs.BuilderTree as builders
use Rattle.nest_model.specs.BuilderTree.{BuilderTree, builder_len}
use Rattle.nest_model.specs.BuilderItem as items
use Rattle.nest_model.specs.BuilderItem.{PlainValue, takes}
use Rattle.nest_model.specs.BuilderComplete.{truncate_builder}
use Rattle.nest_model.specs.BuilderAppend.{Accepted}
use Rattle.nest_model.specs.BuilderAppendLaws.{flat_null_accepted}
use Rattle.nest_model.specs.BuilderRefusals.{item_refusal}
use Rattle.nest_model.specs.BuilderRefusalLaws.{within}
use Rattle.nest_build.specs.FlatTree.{flat_tree}
use Rattle.nest_build.specs.Shown.{own_slot}
use Rattle.nest_build.proofs.FlatTrees.{flat-place}

nulls-run : (t : TypeTree) (m o n : ℕ) → run (slot (null t m)) o n ≡ replicate n slots.null
nulls-run t m o zero = refl
nulls-run t m o (suc n) = ap (λ ss. slots.null ∷ ss) (nulls-run t m (suc o) n)

nulls-all : (t : TypeTree) (n : ℕ) → slots_of (null t n) ≡ replicate n slots.null
nulls-all t n = nulls-run t n 0 n

pub null-physical : (a : Layout) → TopFits a → a ≡ null (layout_type a) (len a) → physical_type (layout_type a) ≡ physical.Null
null-physical a f e = (subst TopFits e f).1.0

-- one more null
nulls-more : (t : TypeTree) (n : ℕ) → slots_of (null t (n + 1)) ≡ slots_of (null t n) ++ slots.null ∷ []
nulls-more t n = nulls-all t (n + 1) ∙ sym (replicate_more n slots.null) ∙ ap (λ ss. ss ++ slots.null ∷ []) (sym (nulls-all t n))

pub null-accepted : (a b : Layout) → a ≡ null (layout_type a) (len a) → b ≡ null (layout_type a) (len a + 1) → Accepted items.null (flat_tree a) (flat_tree b)
null-accepted a b e f =
    let t = layout_type a in
    let n = len a in
    subst (λ c. Accepted items.null (flat_tree c) (flat_tree b)) (sym e)
    (subst (λ c. Accepted items.null (flat_tree (null t n)) (flat_tree c)) (sym f)
    (flat_null_accepted t (slots_of (null t n)) (slots_of (null t (n + 1))) (nulls-more t n)))

null-count : (a : Layout) → a ≡ null (layout_type a) (len a) → length (slots_of a) ≡ len a
null-count a e =
    let t = layout_type a in
    let n = len a in
    ap (λ b. length (slots_of b)) e ∙ ap length (nulls-all t n) ∙ length-replicate n slots.null

pub null-fits : (a : Layout) → TopFits a → a ≡ null (layout_type a) (len a) → len a + 1 ≤ largest_length → item_refusal items.null (flat_tree a) ≡ None
null-fits a f e l = rw (null-physical a f e, within (length (slots_of a) + 1) (omega (arith, null-count a e, l))) refl

pub null-past : (a : Layout) → TopFits a → a ≡ null (layout_type a) (len a) → largest_length < len a + 1 → item_refusal items.null (flat_tree a) ≡ Some Overflow
null-past a f e l =
    let p : is_past (length (slots_of a) + 1) ≡ true = le-leb (suc largest_length) (length (slots_of a) + 1) (omega (arith, null-count a e, l)) in
    rw (null-physical a f e, p) refl

-- it accepts no value
pub null-takes : (a : Layout) (v : PlainValue) → TopFits a → a ≡ null (layout_type a) (len a) → takes (flat_tree a) v ≡ false
null-takes a v f e = rw (null-physical a f e) refl

-- its first nulls
pub null-cut : (a b : Layout) (n : ℕ) → a ≡ null (layout_type a) (len a) → b ≡ null (layout_type a) n → n ≤ builder_len (flat_tree a) → flat_tree b ≡ truncate_builder (flat_tree a) n
null-cut a b n e f l =
    let t = layout_type a in
    let m = len a in
    ap flat_tree f
    ∙ ap (builders.flat t) (nulls-all t n ∙ sym (take-replicate n m slots.null (omega (arith, null-count a e, l))) ∙ ap (take n) (sym (nulls-all t m) ∙ ap slots_of (sym e)))

-- no row is valid
pub null-invalid : (a : Layout) (i : ℕ) → a ≡ null (layout_type a) (len a) → i < builder_len (flat_tree a) → IsTrue false ↔ (own_slot (flat_tree a) i ≢ slots.null)
null-invalid a i e l = (λ t. cc, λ n. absurd (n (flat-place a i l ∙ ap (λ b. slot b i) e)))
