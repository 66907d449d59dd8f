use Rattle.std.proofs.Common.{◌≡◌, List, ℕ, true, false, Ok, Err, length, map, ap, sym, ◌∙◌, inl, inr}
use Rattle.nest_memory.specs.declared.error.Error.{Error}
use Rattle.nest_memory.specs.Rising.{are_offsets}
use Rattle.ipc_arrays.proofs.Offsets.{offsets_made, offsets_refused, numbers_long, is_true}
use Rattle.ipc_arrays.proofs.strings.offsets_of.Goals as goal

pub returns-in-Ok-clause-read : goal.returns-in-Ok-clause-read
returns-in-Ok-clause-read g c =
    let value = g.O.Offset.value in
    let rising : are_offsets (map value c.args.offsets.items) ≡ true = is_true _ (λ e. let wrong = c.in-Ok.ensures.wrong.1 e in cc) in
    offsets_made g.O.NativeType.numbers value g.met.O.FixedWidthOffset.one c.args.offsets.items rising ∙ ap (λ (os : List ℕ). Ok os) (sym c.in-Ok.ensures.ok)

pub returns-in-Ok-clause-slots : goal.returns-in-Ok-clause-slots
returns-in-Ok-clause-slots g c = ap length c.in-Ok.ensures.ok ∙ numbers_long g.O.Offset.value c.args.offsets.items

pub returns-in-Err-OutOfSpec-clause-read : goal.returns-in-Err-OutOfSpec-clause-read
returns-in-Err-OutOfSpec-clause-read g c = λ known.
    let value = g.O.Offset.value in
    let falls : are_offsets (map value c.args.offsets.items) ≡ false =
    elim c.in-Err-OutOfSpec.ensures.errors [
      | inl e ↦ c.in-Err-OutOfSpec.ensures.wrong.0 (ap (λ (x : Error). Err x) e)
      | inr e ↦ let is = c.in-Err-OutOfSpec.field-0-is in cc
    ] in
    offsets_refused g.O.NativeType.numbers value g.met.O.FixedWidthOffset.one c.args.offsets.items falls
