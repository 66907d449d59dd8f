-- The arrays of the children of a struct builder, and the struct array.
use Rattle.std.specs.Prelude.{◌≢◌, List as Seq, [], ◌∷◌, Bool, true, false, not, ◌++◌, Result, Ok, Err, IfOk, IfSome, IsOk, Some, None}
use Rattle.std.specs.List.{count_by}
use Rattle.std.specs.declared.vec.Vec.{Vec}
use Rattle.std.proofs.Common.{◌≡◌, ℕ, suc, ◌+◌, ◌<◌, length, get_or, take, refl, sym, ap, subst, ◌∙◌, arith}
use Rattle.std.proofs.lemmas.List.{take_more}
use Rattle.nest_array.specs.declared.any.AnyArray.{AnyArray}
use Rattle.nest_array.specs.Seen.{layout_of, layouts_of}
use Rattle.nest_memory.specs.TypeTree.{TypeTree, FieldTrees, no_fields, more_fields, field_type, count_fields, fields_of}
use Rattle.nest_memory.specs.Physical.{physical_type}
use Rattle.nest_memory.specs.declared.datatypes.physical_type.PhysicalType.TheVariants as physical
use Rattle.nest_memory.specs.declared.error.Error.{Error}
use Rattle.nest_model.specs.Part.{Validity}
use Rattle.nest_model.specs.Layout as layouts
use Rattle.nest_model.specs.Layout.{Layout, Layouts, no_layouts, more_layouts, layout_type, count_layouts, field_types}
use Rattle.nest_model.specs.Fits.{Fits, ValidityFits, EachType, EachLen}
use Rattle.nest_model.specs.Meaning.{len, first_len, slots_of}
use Rattle.nest_model.specs.Nullness.{null_count}
use Rattle.nest_model.specs.NullnessLaws.{null_count-bits}
use Rattle.nest_model.specs.Reads.{slots-length}
use Rattle.nest_model.specs.BuilderTree.{BuilderTree, BuilderTrees, struct, no_builders, more_builders, builder_len, builder_type, builder_types}
use Rattle.nest_model.specs.BuilderFreeze.{EachFrozen, EncodesBits}
use Rattle.nest_model.specs.BuilderFreezeLaws.{struct-frozen}
use Rattle.nest_model.specs.BuilderLevels.{own_slots}
use Rattle.nest_model.specs.BuilderLevelLaws.{own-length}
use Rattle.nest_model.specs.BuilderComplete.{IsComplete, AreComplete}
use Rattle.nest_any.specs.Each.{each}
use Rattle.nest_any.specs.Refusals.{AreFrozen, IsFrozenAs, struct_bits, struct_children}

pub frozen-len : (a : Layout) (c : BuilderTree) → slots_of a ≡ own_slots c → len a ≡ builder_len c
frozen-len a c e = sym (slots-length a) ∙ (ap length e ∙ own-length c)

each-frozen : (ls : Layouts) (cs : BuilderTrees) → AreFrozen ls cs → EachFrozen ls cs
each-frozen no_layouts no_builders f = tt
each-frozen no_layouts (more_builders c cs) f = absurd f
each-frozen (more_layouts a ls) no_builders f = absurd f
each-frozen (more_layouts a ls) (more_builders c cs) f = (f.0, each-frozen ls cs f.2)

each-len : (ls : Layouts) (cs : BuilderTrees) (n : ℕ) → AreFrozen ls cs → AreComplete cs n → EachLen ls n
each-len no_layouts no_builders n f w = tt
each-len no_layouts (more_builders c cs) n f w = absurd f
each-len (more_layouts a ls) no_builders n f w = absurd f
each-len (more_layouts a ls) (more_builders c cs) n f w = (frozen-len a c f.0 ∙ w.1, each-len ls cs n f.2 w.2)

each-type : (ls : Layouts) (cs : BuilderTrees) (fs : FieldTrees) → AreFrozen ls cs → builder_types cs ≡ field_types fs → EachType fs ls
each-type no_layouts no_builders no_fields f e = tt
each-type no_layouts no_builders (more_fields g fs) f e = absurd (let q : [] ≡ field_type g ∷ field_types fs = e in cc)
each-type no_layouts (more_builders c cs) fs f e = absurd f
each-type (more_layouts a ls) no_builders fs f e = absurd f
each-type (more_layouts a ls) (more_builders c cs) no_fields f e = absurd (let q : builder_type c ∷ builder_types cs ≡ [] = e in cc)
each-type (more_layouts a ls) (more_builders c cs) (more_fields g fs) f e =
    let q : builder_type c ∷ builder_types cs ≡ field_type g ∷ field_types fs = e in
    (f.1 ∙ (let h : builder_type c ≡ field_type g = cc in h), each-type ls cs fs f.2 (let t : builder_types cs ≡ field_types fs = cc in t))

as-many : (ls : Layouts) (fs : FieldTrees) → EachType fs ls → count_layouts ls ≡ count_fields fs
as-many no_layouts no_fields h = refl
as-many no_layouts (more_fields f fs) h = absurd h
as-many (more_layouts a ls) no_fields h = absurd h
as-many (more_layouts a ls) (more_fields f fs) h = ap suc (as-many ls fs h.1)

first : (ls : Layouts) (n : ℕ) → 0 < count_layouts ls → EachLen ls n → first_len ls ≡ n
first no_layouts n p h = absurd (omega (arith, p))
first (more_layouts a ls) n p h = h.0

-- the parts of a complete struct builder make an array with its slots
pub records-fit : (t : TypeTree) (bits : Seq Bool) (cs : BuilderTrees) (ls : Layouts) (va : Validity) → physical_type t ≡ physical.Struct → 0 < count_fields (fields_of t)
    → IsComplete (struct t bits cs) → AreFrozen ls cs → ValidityFits va (length bits) → Fits (layouts.struct t ls va)
records-fit t bits cs ls va p s w f v =
    let typed = each-type ls cs (fields_of t) f w.1 in
    let count = as-many ls (fields_of t) typed in
    let long = each-len ls cs (length bits) f w.0 in
    let n = first ls (length bits) (omega (arith, count, s)) long in
    (p, (s, (count, (typed, (subst (EachLen ls) (sym n) long, (subst (ValidityFits va) (sym n) v, tt))))))

pub records-frozen : (t : TypeTree) (bits : Seq Bool) (cs : BuilderTrees) (ls : Layouts) (va : Validity) → 0 < count_fields (fields_of t) → IsComplete (struct t bits cs) → AreFrozen ls cs → EncodesBits va bits
    → slots_of (layouts.struct t ls va) ≡ own_slots (struct t bits cs)
records-frozen t bits cs ls va s w f v =
    let count = as-many ls (fields_of t) (each-type ls cs (fields_of t) f w.1) in
    struct-frozen t bits cs ls va (first ls (length bits) (omega (arith, count, s)) (each-len ls cs (length bits) f w.0)) w (each-frozen ls cs f) v

array-of : (b : BuilderTree) → b ≡ struct (builder_type b) (struct_bits b) (struct_children b) → IsComplete b → IsComplete (struct (builder_type b) (struct_bits b) (struct_children b))
array-of b k w = subst IsComplete k w

-- the same for the frozen parts of a struct builder
pub array-fits : (b : BuilderTree) (t : TypeTree) (ls : Layouts) (va : Validity) → b ≡ struct (builder_type b) (struct_bits b) (struct_children b) → physical_type (builder_type b) ≡ physical.Struct → 0 < count_fields (fields_of (builder_type b)) → IsComplete b → IsFrozenAs t ls va b
    → Fits (layouts.struct t ls va)
array-fits b t ls va k p s w f =
    subst (λ u. Fits (layouts.struct u ls va)) (sym f.same_type)
    (records-fit (builder_type b) (struct_bits b) (struct_children b) ls va p s (array-of b k w) f.children (subst (ValidityFits va) (ap builder_len k) f.fits))

pub array-slots : (b : BuilderTree) (t : TypeTree) (ls : Layouts) (va : Validity) → b ≡ struct (builder_type b) (struct_bits b) (struct_children b) → 0 < count_fields (fields_of (builder_type b)) → IsComplete b → IsFrozenAs t ls va b
    → slots_of (layouts.struct t ls va) ≡ own_slots b
array-slots b t ls va k s w f =
    ap (λ u. slots_of (layouts.struct u ls va)) f.same_type
    ∙ (records-frozen (builder_type b) (struct_bits b) (struct_children b) ls va s (array-of b k w) f.children f.bits ∙ sym (ap own_slots k))

-- the same with another validity that encodes the same bits
pub with-validity : (b : BuilderTree) (t : TypeTree) (ls : Layouts) (va vb : Validity) → IsFrozenAs t ls va b → EncodesBits vb (struct_bits b) → ValidityFits vb (builder_len b) → IsFrozenAs t ls vb b
with-validity b t ls va vb f s v = record { same_type = f.same_type; children = f.children; bits = s; fits = v }

-- the arrays of the first children, and of one more
frozen-push : {A : Type 0} (f : A → BuilderTree) (vs : Seq AnyArray) (v : AnyArray) (xs : Seq A) (x : A) → AreFrozen (layouts_of vs) (each f xs) → slots_of (layout_of v) ≡ own_slots (f x) → layout_type (layout_of v) ≡ builder_type (f x)
    → AreFrozen (layouts_of (vs ++ v ∷ [])) (each f (xs ++ x ∷ []))
frozen-push f [] v [] x h s t = (s, t, tt)
frozen-push f [] v (y ∷ ys) x h s t = absurd h
frozen-push f (w ∷ ws) v [] x h s t = absurd h
frozen-push f (w ∷ ws) v (y ∷ ys) x h s t = (h.0, h.1, frozen-push f ws v ys x h.2 s t)

pub frozen-more : {A : Type 0} (f : A → BuilderTree) (vs us : Seq AnyArray) (v : AnyArray) (xs : Seq A) (i : ℕ) (d : A) → i < length xs → us ≡ vs ++ v ∷ [] → AreFrozen (layouts_of vs) (each f (take i xs))
    → slots_of (layout_of v) ≡ own_slots (f (get_or xs i d)) → layout_type (layout_of v) ≡ builder_type (f (get_or xs i d)) → AreFrozen (layouts_of us) (each f (take (i + 1) xs))
frozen-more f vs us v xs i d l e h s t = rw (e, take_more xs i d l) (frozen-push f vs v (take i xs) (get_or xs i d) h s t)

pub arrays-more : {A G : Type 0} (f : A → BuilderTree) (xs : Seq A) (i : ℕ) (d : A) (r arrays : Result (Vec AnyArray G) Error) (array : Result AnyArray Error) → i < length xs → IfOk arrays (λ v. AreFrozen (layouts_of v.items) (each f (take i xs)))
    → IfOk array (λ a. slots_of (layout_of a) ≡ own_slots (f (get_or xs i d))) → IfOk array (λ a. layout_type (layout_of a) ≡ builder_type (f (get_or xs i d)))
    → IfOk r (λ v. IfOk arrays (λ old. IfOk array (λ a. v.items ≡ old.items ++ a ∷ []))) → IfOk r (λ v. IsOk arrays × IsOk array) → IfOk r (λ v. AreFrozen (layouts_of v.items) (each f (take (i + 1) xs)))
arrays-more f xs i d (Err e) arrays array l h s t k b = tt
arrays-more f xs i d (Ok v) (Err e) array l h s t k b = absurd (let q : false ≡ true = b.0 in cc)
arrays-more f xs i d (Ok v) (Ok old) (Err e) l h s t k b = absurd (let q : false ≡ true = b.1 in cc)
arrays-more f xs i d (Ok v) (Ok old) (Ok a) l h s t k b = frozen-more f old.items v.items a xs i d l k h s t

-- if no row is null, a validity with a null is absent
pub bare-of-nulls : (t : TypeTree) (ls : Layouts) (va : Validity) → Fits (layouts.struct t ls va) → IfSome va (λ bits. count_by not bits ≢ 0) → null_count (layouts.struct t ls va) ≡ 0 → va ≡ None
bare-of-nulls t ls None f h z = refl
bare-of-nulls t ls (Some bits) f h z = absurd (h (sym (null_count-bits (layouts.struct t ls (Some bits)) bits refl f.1.1.1.1.1.0) ∙ z))
