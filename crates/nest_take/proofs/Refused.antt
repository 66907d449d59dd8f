-- Arrays with children: their parts, and the errors of `take`.
use Rattle.std.specs.Prelude.{Option, None, alloc_error}
use Rattle.std.proofs.Common.{◌≡◌, ℕ, ℤ, ◌+◌, ◌<◌, ◌⊎◌, inl, inr, Bool, false, List, map, length, ap, sym, ◌∙◌, subst, arith}
use Rattle.nest_memory.specs.TypeTree.{size_of}
use Rattle.nest_memory.specs.declared.error.Error.{Error}
use Rattle.nest_memory.specs.declared.error.Error.TheVariants.{Memory, Overflow}
use Rattle.nest_model.specs.Accessors.{child_of, children_of, offsets_of, start_of, types_of, union_offsets_of, validity_of}
use Rattle.nest_model.specs.Array.{TopFits}
use Rattle.nest_model.specs.FactLaws.{list-facts, map-facts, struct-facts, union-facts}
use Rattle.nest_model.specs.Layout as layouts
use Rattle.nest_model.specs.Layout.{Layout, Layouts, layout_type, weight, weight_all}
use Rattle.nest_model.specs.Meaning.{len, union_index}
use Rattle.nest_model.specs.Part.{Validity}
use Rattle.nest_take.specs.Limits.{PassesLength, PassesLimits, PassesOffsets, SomePasses}
use Rattle.nest_take.specs.Indices.{AreBelow, block_indices, item_indices}
use Rattle.nest_take.specs.Taken.{EachReaches, RefusesTake}
use Rattle.nest_take.proofs.Looked.{sparse-reaches}
use Rattle.nest_take.proofs.Nested.{block-indices-below, each-reaches, list-indices}

-- lists
pub list-parts : (large : Bool) (a c : Layout) (os : List ℕ) (va : Validity) → a ≡ layouts.list large (layout_type a) (offsets_of a) (child_of a) (validity_of a) → os ≡ offsets_of a → c ≡ child_of a → va ≡ validity_of a
    → a ≡ layouts.list large (layout_type a) os c va
list-parts large a c os va k e f g = cc

pub list-lighter : (large : Bool) (a c : Layout) (os : List ℕ) (va : Validity) → a ≡ layouts.list large (layout_type a) os c va → weight c < weight a
list-lighter large a c os va k = let e = ap weight k in omega arith

pub list-below : (large : Bool) (a c : Layout) (os : List ℕ) (va : Validity) (is ps : List ℕ) → TopFits a → a ≡ layouts.list large (layout_type a) os c va → AreBelow is (len a) → ps ≡ item_indices os va is → AreBelow ps (len c)
list-below large a c os va is ps h k b e =
    let f = list-facts large (layout_type a) os c va (subst TopFits k h) in
    subst (λ z. AreBelow z (len c)) (sym e) (list-indices c os va is f.rising f.within (subst (λ z. AreBelow is (len z)) k b))

-- the error of the rows, or of their items
pub list-refuses : (large : Bool) (a c : Layout) (os : List ℕ) (va : Validity) (is ps : List ℕ) (x : Error) → a ≡ layouts.list large (layout_type a) os c va → ps ≡ item_indices os va is → RefusesTake x c ps → RefusesTake x a is
list-refuses large a c os va is ps x k e (inl m) = inl m
list-refuses large a c os va is ps x k e (inr p) = inr (p.0, subst (λ z. PassesLimits z is) (sym k) (inr (subst (PassesLimits c) e p.1)))

pub list-passes : (large : Bool) (a c : Layout) (os : List ℕ) (va : Validity) (is : List ℕ) (x : Error) → a ≡ layouts.list large (layout_type a) os c va
    → (x ≡ Memory alloc_error) ⊎ ((x ≡ Overflow) × PassesOffsets large os va is) → RefusesTake x a is
list-passes large a c os va is x k (inl m) = inl m
list-passes large a c os va is x k (inr p) = inr (p.0, subst (λ z. PassesLimits z is) (sym k) (inl p.1))

-- maps
pub map-parts : (a c : Layout) (os : List ℕ) (va : Validity) → a ≡ layouts.map (layout_type a) (offsets_of a) (child_of a) (validity_of a) → os ≡ offsets_of a → c ≡ child_of a → va ≡ validity_of a
    → a ≡ layouts.map (layout_type a) os c va
map-parts a c os va k e f g = cc

pub map-lighter : (a c : Layout) (os : List ℕ) (va : Validity) → a ≡ layouts.map (layout_type a) os c va → weight c < weight a
map-lighter a c os va k = let e = ap weight k in omega arith

pub map-below : (a c : Layout) (os : List ℕ) (va : Validity) (is ps : List ℕ) → TopFits a → a ≡ layouts.map (layout_type a) os c va → AreBelow is (len a) → ps ≡ item_indices os va is → AreBelow ps (len c)
map-below a c os va is ps h k b e =
    let f = map-facts (layout_type a) os c va (subst TopFits k h) in
    subst (λ z. AreBelow z (len c)) (sym e) (list-indices c os va is f.rising f.within (subst (λ z. AreBelow is (len z)) k b))

pub map-refuses : (a c : Layout) (os : List ℕ) (va : Validity) (is ps : List ℕ) (x : Error) → a ≡ layouts.map (layout_type a) os c va → ps ≡ item_indices os va is → RefusesTake x c ps → RefusesTake x a is
map-refuses a c os va is ps x k e (inl m) = inl m
map-refuses a c os va is ps x k e (inr p) = inr (p.0, subst (λ z. PassesLimits z is) (sym k) (inr (subst (PassesLimits c) e p.1)))

pub map-passes : (a c : Layout) (os : List ℕ) (va : Validity) (is : List ℕ) (x : Error) → a ≡ layouts.map (layout_type a) os c va
    → (x ≡ Memory alloc_error) ⊎ ((x ≡ Overflow) × PassesOffsets false os va is) → RefusesTake x a is
map-passes a c os va is x k (inl m) = inl m
map-passes a c os va is x k (inr p) = inr (p.0, subst (λ z. PassesLimits z is) (sym k) (inl p.1))

-- fixed-size lists
pub sized-parts : (a c : Layout) (va : Validity) → a ≡ layouts.fixed_size_list (layout_type a) (child_of a) (validity_of a) → c ≡ child_of a → va ≡ validity_of a → a ≡ layouts.fixed_size_list (layout_type a) c va
sized-parts a c va k e f = cc

pub sized-lighter : (a c : Layout) (va : Validity) → a ≡ layouts.fixed_size_list (layout_type a) c va → weight c < weight a
sized-lighter a c va k = let e = ap weight k in omega arith

pub sized-below : (a c : Layout) (va : Validity) (s : ℕ) (is ps : List ℕ) → a ≡ layouts.fixed_size_list (layout_type a) c va → s ≡ size_of (layout_type a) → AreBelow is (len a) → ps ≡ block_indices s is → AreBelow ps (len c)
sized-below a c va s is ps k e b q =
    subst (λ z. AreBelow z (len c)) (sym (q ∙ ap (λ z. block_indices z is) e)) (block-indices-below (size_of (layout_type a)) (len c) is (subst (λ z. AreBelow is (len z)) k b))

pub sized-refuses : (a c : Layout) (va : Validity) (s : ℕ) (is ps : List ℕ) (x : Error) → a ≡ layouts.fixed_size_list (layout_type a) c va → s ≡ size_of (layout_type a) → ps ≡ block_indices s is → RefusesTake x c ps → RefusesTake x a is
sized-refuses a c va s is ps x k e q (inl m) = inl m
sized-refuses a c va s is ps x k e q (inr p) = inr (p.0, subst (λ z. PassesLimits z is) (sym k) (inr (subst (PassesLimits c) (q ∙ ap (λ z. block_indices z is) e) p.1)))

pub sized-passes : (a c : Layout) (va : Validity) (s : ℕ) (is : List ℕ) (x : Error) → a ≡ layouts.fixed_size_list (layout_type a) c va → s ≡ size_of (layout_type a) → (x ≡ Overflow) × PassesLength s is → RefusesTake x a is
sized-passes a c va s is x k e p = inr (p.0, subst (λ z. PassesLimits z is) (sym k) (inl (subst (λ z. PassesLength z is) e p.1)))

-- structs
pub record-parts : (a : Layout) (cs : Layouts) (va : Validity) → a ≡ layouts.struct (layout_type a) (children_of a) (validity_of a) → cs ≡ children_of a → va ≡ validity_of a → a ≡ layouts.struct (layout_type a) cs va
record-parts a cs va k e f = cc

pub record-lighter : (a : Layout) (cs : Layouts) (va : Validity) → a ≡ layouts.struct (layout_type a) cs va → weight_all cs < weight a
record-lighter a cs va k = let e = ap weight k in omega arith

pub record-reaches : (a : Layout) (cs : Layouts) (va : Validity) (is : List ℕ) → TopFits a → a ≡ layouts.struct (layout_type a) cs va → AreBelow is (len a) → EachReaches cs is
record-reaches a cs va is h k b =
    let f = struct-facts (layout_type a) cs va (subst TopFits k h) in
    each-reaches cs (len (layouts.struct (layout_type a) cs va)) is f.each_len (subst (λ z. AreBelow is (len z)) k b)

pub record-refuses : (a : Layout) (cs : Layouts) (va : Validity) (is : List ℕ) (x : Error) → a ≡ layouts.struct (layout_type a) cs va
    → (x ≡ Memory alloc_error) ⊎ ((x ≡ Overflow) × SomePasses cs is) → RefusesTake x a is
record-refuses a cs va is x k (inl m) = inl m
record-refuses a cs va is x k (inr p) = inr (p.0, subst (λ z. PassesLimits z is) (sym k) p.1)

-- unions
pub union-lighter : (a : Layout) (cs : Layouts) → a ≡ layouts.union (layout_type a) (types_of a) (children_of a) (union_offsets_of a) (start_of a) → cs ≡ children_of a → weight_all cs < weight a
union-lighter a cs k e = let w = ap weight k in let v = ap weight_all e in omega arith

pub sparse-parts : (a : Layout) (ks : List ℤ) (cs : Layouts) → a ≡ layouts.union (layout_type a) (types_of a) (children_of a) (union_offsets_of a) (start_of a) → union_offsets_of a ≡ None → ks ≡ types_of a → cs ≡ children_of a
    → a ≡ layouts.union (layout_type a) ks cs None (start_of a)
sparse-parts a ks cs k e f g = cc

pub sparse-slots : (o : Option (List ℤ)) (start : ℕ) (is ps : List ℕ) → o ≡ None → ps ≡ map (union_index o start) is → ps ≡ map (λ i. start + i) is
sparse-slots o start is ps e f = f ∙ ap (λ z. map (union_index z start) is) e

pub sparse-below : (a : Layout) (ks : List ℤ) (cs : Layouts) (is ps : List ℕ) → TopFits a → a ≡ layouts.union (layout_type a) ks cs None (start_of a) → AreBelow is (len a) → ps ≡ map (λ i. start_of a + i) is → EachReaches cs ps
sparse-below a ks cs is ps h k b e =
    let f = union-facts (layout_type a) ks cs None (start_of a) (subst TopFits k h) in
    subst (EachReaches cs) (sym e) (sparse-reaches cs (start_of a) (length ks) is f.slots_there (subst (λ z. AreBelow is (len z)) k b))

pub sparse-refuses : (a : Layout) (ks : List ℤ) (cs : Layouts) (is ps : List ℕ) (x : Error) → a ≡ layouts.union (layout_type a) ks cs None (start_of a) → ps ≡ map (λ i. start_of a + i) is
    → (x ≡ Memory alloc_error) ⊎ ((x ≡ Overflow) × SomePasses cs ps) → RefusesTake x a is
sparse-refuses a ks cs is ps x k e (inl m) = inl m
sparse-refuses a ks cs is ps x k e (inr p) = inr (p.0, subst (λ z. PassesLimits z is) (sym k) (subst (SomePasses cs) e p.1))

-- equal offsets and validity have equal indices
pub indices-same : (os ns : List ℕ) (va v : Validity) (is : List ℕ) → os ≡ ns → va ≡ v → item_indices os va is ≡ item_indices ns v is
indices-same os ns va v is e f = ap (λ z. item_indices z va is) e ∙ ap (λ z. item_indices ns z is) f
