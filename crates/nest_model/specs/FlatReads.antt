-- The slots of flat arrays as lists.
use Rattle.std.specs.Prelude.{Some, None, List, [], ◌∷◌, map, length, get_or, if◌then◌else◌}
use Rattle.std.proofs.Common.{◌≡◌, ℕ, zero, suc, ◌+◌, ◌<◌, ℤ, Bool, false, refl, ap, sym, ◌∙◌, arith}
use Rattle.std.proofs.lemmas.List.{get_or-map, length-map}
use Rattle.nest_memory.specs.declared.datatypes.physical_type.PrimitiveType.{PrimitiveType}
use Rattle.nest_memory.specs.TypeTree.{TypeTree}
use Rattle.nest_model.specs.Part.{Validity, valid_at}
use Rattle.nest_model.specs.Slot as slots
use Rattle.nest_model.specs.Slot.{Slot}
use Rattle.nest_model.specs.Layout.{boolean, primitive}
use Rattle.nest_model.specs.Meaning.{run, slots_of, masked}

-- The run of a function is the list whose items are the function's values at those indices.
run-list : (f : ℕ → Slot) (ss : List Slot) (o : ℕ) → ((i : ℕ) → i < length ss → f (o + i) ≡ get_or ss i slots.null) → run f o (length ss) ≡ ss
run-list f [] o h = refl
run-list f (s ∷ ss) o h =
    let z : o ≡ o + 0 = omega arith in
    let a = ap f z ∙ h 0 (omega arith) in
    let b = run-list f ss (suc o) (λ i k. let e : suc o + i ≡ o + suc i = omega arith in ap f e ∙ h (suc i) (omega arith)) in
    λ w. a w ∷ b w

length-masked : (va : Validity) (ss : List Slot) → length (masked va ss) ≡ length ss
length-masked None ss = refl
length-masked (Some []) ss = refl
length-masked (Some (b ∷ bits)) [] = refl
length-masked (Some (b ∷ bits)) (s ∷ ss) = ap suc (length-masked (Some bits) ss)

pub get_or-masked : (va : Validity) (ss : List Slot) (i : ℕ) → i < length ss → get_or (masked va ss) i slots.null ≡ (if valid_at va i then get_or ss i slots.null else slots.null)
get_or-masked None ss i h = refl
get_or-masked (Some []) ss i h = refl
get_or-masked (Some (b ∷ bits)) [] i h = absurd (omega arith)
get_or-masked (Some (b ∷ bits)) (s ∷ ss) zero h = refl
get_or-masked (Some (b ∷ bits)) (s ∷ ss) (suc i) h = get_or-masked (Some bits) ss i (omega arith)

masked-run : {A : Type 0} (f : A → Slot) (xs : List A) (d : A) (va : Validity) → run (λ i. if valid_at va i then f (get_or xs i d) else slots.null) 0 (length xs) ≡ masked va (map f xs)
masked-run {A} f xs d va =
    let l = length-masked va (map f xs) ∙ length-map xs f in
    ap (run (λ i. if valid_at va i then f (get_or xs i d) else slots.null) 0) (sym l)
    ∙ run-list (λ i. if valid_at va i then f (get_or xs i d) else slots.null) (masked va (map f xs)) 0
    (λ i k.
    let z : 0 + i ≡ i = omega arith in
    let j : i < length xs = omega arith in
    let m = length-map xs f in
    let e = get_or-map f xs i d slots.null j in
    ap (λ q. if valid_at va q then f (get_or xs q d) else slots.null) z
    ∙ ap (λ s. if valid_at va i then s else slots.null) (sym e)
    ∙ sym (get_or-masked va (map f xs) i (omega arith)))

-- The slots of primitive and boolean arrays are their values, and `Null` where the validity bit is unset.
pub primitive-slots : (k : PrimitiveType) (t : TypeTree) (vs : List (List ℤ)) (va : Validity) → slots_of (primitive k t vs va) ≡ masked va (map slots.number vs)
primitive-slots k t vs va = masked-run slots.number vs [] va

pub boolean-slots : (t : TypeTree) (bs : List Bool) (va : Validity) → slots_of (boolean t bs va) ≡ masked va (map slots.boolean bs)
boolean-slots t bs va = masked-run slots.boolean bs false va
