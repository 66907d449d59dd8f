use Rattle.std.specs.Prelude.{List as Seq}
use Rattle.std.proofs.Common.{◌≡◌, ℕ, zero, suc, ◌≤◌, [], ◌∷◌, length, refl, sym, ap, ◌∙◌, arith}
use Rattle.nest_memory.specs.TypeOf.{field_list_of, field_of}
use Rattle.nest_memory.specs.declared.datatypes.field.Field.{Field}
use Rattle.json_write.specs.JsonText.{field_name, field_name_at}
use Rattle.json_write.proofs.Nesting.{name-shown}
use Rattle.json_write.proofs.scalar.name_at.Goals as goal

no-name : (fs : Seq Field) (k : ℕ) → length fs ≤ k → [] ≡ field_name_at (field_list_of fs) k
no-name [] k h = refl
no-name (f ∷ fs) zero h = absurd (omega arith)
no-name (f ∷ fs) (suc k) h = no-name fs k (omega arith)

pub returns-in-Some : goal.returns-in-Some
returns-in-Some c =
    let field = c.in-Some.field.now in
    let (found, same, below, there, past) = c.in-Some.ensures.lookup in
    c.name.ensures ∙ ap (λ f. field_name (field_of f)) same ∙ sym (name-shown c.args.fields.now c.args.k field there.0)

pub returns-in-None : goal.returns-in-None
returns-in-None c =
    let (missing, nothing, below, past, same) = c.in-None.ensures.lookup in
    no-name c.args.fields.now c.args.k past
