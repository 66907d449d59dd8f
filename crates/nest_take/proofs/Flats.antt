-- Flat arrays with the values and bits at given indices.
use Rattle.std.specs.Prelude.{MatchResult, IfOk, IfErr, if◌then◌else◌}
use Rattle.std.proofs.Common.{◌≡◌, ℕ, ◌<◌, ℤ, Bool, true, false, List, [], get_or, length, Result, Ok, Err, refl, ap, sym, ◌∙◌, subst}
use Rattle.nest_memory.specs.TypeTree.{TypeTree}
use Rattle.nest_memory.specs.declared.datatypes.physical_type.PrimitiveType.{PrimitiveType}
use Rattle.nest_memory.specs.declared.error.Error.{Error}
use Rattle.nest_model.specs.Decide.{pass-no_error}
use Rattle.nest_model.specs.Fits.{Fits, FirstError, checks}
use Rattle.nest_model.specs.Layout.{Layout, boolean, primitive, layout_type}
use Rattle.nest_model.specs.Meaning.{len, slot, where_valid}
use Rattle.nest_model.specs.Part.{Validity, valid_at}
use Rattle.nest_model.specs.Slot as slots
use Rattle.nest_model.specs.Slot.{Slot}
use Rattle.nest_take.specs.Indices.{AreAt, AreBelow, taken_validity}
use Rattle.nest_take.specs.Taken.{IsTaken}
use Rattle.nest_take.proofs.At.{at-length, at-get, at-valid}
use Rattle.nest_take.proofs.Rows.{taken}

-- the result of a constructor from the taken parts
pub made-ok : (r : Result Layout Error) (p a : Layout) (is : List ℕ) → MatchResult r (λ b. Fits p × (b ≡ p)) (λ e. FirstError e p)
    → IsTaken a is p → IfOk r (λ b. IsTaken a is b)
made-ok (Ok b) p a is h t = subst (IsTaken a is) (sym h.1) t
made-ok (Err e) p a is h t = tt

-- it accepts parts that fit
pub made-err : (r : Result Layout Error) (p a : Layout) (is : List ℕ) (Q : Error → Type 0) → MatchResult r (λ b. Fits p × (b ≡ p)) (λ e. FirstError e p)
    → Fits p × IsTaken a is p → IfErr r Q
made-err (Ok b) p a is Q h f = tt
made-err (Err e) p a is Q h f = absurd (pass-no_error (checks p) e f.0 h)

where-valid : (b : Bool) (x y z : Slot) → (b ≡ true → x ≡ y) → (if b then x else z) ≡ (if b then y else z)
where-valid true x y z h = h refl
where-valid false x y z h = refl

-- slots are the same under the validity where they are under the validity at the index
pub mask-same : (va v : Validity) (is : List ℕ) (j : ℕ) (x y : Slot) → v ≡ taken_validity va is → j < length is
    → (valid_at va (get_or is j 0) ≡ true → x ≡ y) → where_valid v j x ≡ where_valid va (get_or is j 0) y
mask-same va v is j x y e h f =
    ap (λ b. if b then x else slots.null) (ap (λ z. valid_at z j) e ∙ at-valid va is j h) ∙ where-valid (valid_at va (get_or is j 0)) x y slots.null f

pub boolean-taken : (a : Layout) (t u : TypeTree) (xs bs cs : List Bool) (va v : Validity) (is : List ℕ) → a ≡ boolean t bs va → AreBelow is (len a)
    → u ≡ layout_type a → xs ≡ bs → AreAt xs is cs → v ≡ taken_validity va is → IsTaken a is (boolean u cs v)
boolean-taken a t u xs bs cs va v is e h d x p q =
    let p' = subst (λ z. AreAt z is cs) x p in
    taken a (boolean u cs v) is h (at-length bs is cs p')
    (λ j l. mask-same va v is j (slots.boolean (get_or cs j false)) (slots.boolean (get_or bs (get_or is j 0) false)) q l (λ _. ap slots.boolean (at-get bs is cs j false p' l)) ∙ sym (ap (λ z. slot z (get_or is j 0)) e))
    d

pub primitive-taken : (k : PrimitiveType) (a : Layout) (t u : TypeTree) (vs ws : List (List ℤ)) (va v : Validity) (is : List ℕ) → a ≡ primitive k t vs va → AreBelow is (len a)
    → u ≡ layout_type a → AreAt vs is ws → v ≡ taken_validity va is → IsTaken a is (primitive k u ws v)
primitive-taken k a t u vs ws va v is e h d p q =
    taken a (primitive k u ws v) is h (at-length vs is ws p)
    (λ j l. mask-same va v is j (slots.number (get_or ws j [])) (slots.number (get_or vs (get_or is j 0) [])) q l (λ _. ap slots.number (at-get vs is ws j [] p l)) ∙ sym (ap (λ z. slot z (get_or is j 0)) e))
    d
