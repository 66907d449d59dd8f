use Rattle.std.specs.Prelude.{Some}
use Rattle.std.proofs.Common.{◌≡◌, ◌∷◌, [], ◌++◌, ap, arith}
use Rattle.nest_model.specs.Part.{to_index}
use Rattle.nest_model.specs.Slot as slots
use Rattle.nest_model.specs.BuilderRow.{values_needed}
use Rattle.nest_model.specs.BuilderRowLaws.{values_needed-push}
use Rattle.nest_build.specs.Keys.{encoded_keys}
use Rattle.nest_build.proofs.Keys.{told_push, kept_push}
use Rattle.nest_build.proofs.dictionary.rows.DictionaryRows.push_key.Goals as goal

pub invariant_of-self-2 : goal.invariant_of-self-2
invariant_of-self-2 g c =
    let a = c.self.inside.keys in
    let key = c.in-Some.key in
    let number = c.args.number in
    let numbers = g.K.NativeType.numbers key in
    let row_list = told_push a c.try_push.new.self (slots.number numbers) (Some number) c.in_default-try_push.ensures.slots (ap (λ z. Some (to_index z)) c.in-Some.ensures.0) in
    let needed : c.max-self-inside.result ≡ values_needed (encoded_keys a ++ Some number ∷ []) = omega (arith, values_needed-push (encoded_keys a) number, c.self.invariant.count, c.max-self-inside.ensures, c.in-Some-checked_add.ensures) in
    kept_push a c.try_push.new.self _ _ _ _ (Some numbers) (Some number) c.self.inside.needed c.max-self-inside.result c.self.invariant c.known.ensures.kind c.in_default-try_push.ensures.parts
    row_list c.in-Some.ensures.0 needed
