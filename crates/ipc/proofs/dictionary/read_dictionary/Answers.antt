use mir.Syntax.{w64}
use mir.Val.{to_z, of_z, SFits}
use Rattle.std.proofs.Common.{rules, ◌≡◌, ℕ, Bool, Result, Option, None, Some, Ok, refl, sym, ap, subst, ◌∙◌}
use Rattle.std.proofs.lemmas.Int.{to_z-of_z}
use Rattle.std.specs.Prelude.{ℤ}
use Rattle.ipc_flatbuf.specs.ReadResults.{◌>>=◌, ReturnsOrRunsOut}
use Rattle.ipc_flatbuf.specs.declared.error.IpcReadError.{IpcReadError}
use Rattle.ipc_flatbuf.specs.Messages.{MessageModel, model_of}
use Rattle.ipc_flatbuf.specs.declared.tables.FlatbufferTable.{FlatbufferTable}
use Rattle.nest_array.specs.Seen.{layout_of}
use Rattle.nest_model.specs.Layout.{Layout}
use Rattle.ipc.specs.Streams.{StateTree, state_of, found_in, with_found, spec_with_values, dictionary_in}
use Rattle.ipc.proofs.dictionary.read_dictionary.Goals as goal

abbrev then_found : StateTree → ℤ → Result (Option (Bool × Layout)) IpcReadError → Result StateTree IpcReadError
then_found s id read = read >>= λ found. with_found s id found

found_at : (once : Bool) (s : StateTree) (m : MessageModel) (table : FlatbufferTable) (left : ℕ) (k id : ℤ) → k ≡ id → then_found s id (found_in once s m table left id) ≡ then_found s k (found_in once s m table left k)
found_at once s m table left k id e = ap (λ (x : ℤ). then_found s x (found_in once s m table left x)) (sym e)

pub returns-in-Err-clause-known : goal.returns-in-Err-clause-known
unfolding dictionary_in
returns-in-Err-clause-known c = λ known.
    let s : StateTree = state_of c.args.state.now in
    let m : MessageModel = model_of c.args.message in
    let fits : SFits w64 c.in_ok-id.id = search rules in
    let opened : dictionary_in c.args.once s m ≡ then_found s c.in_ok-id.id (found_in c.args.once s m c.in_ok-table.table c.in_ok-table.left c.in_ok-id.id) = rw (sym c.in_ok-table.ensures.value, sym c.in_ok-id.ensures) refl in
    opened
    ∙ found_at c.args.once s m c.in_ok-table.table c.in_ok-table.left (to_z w64 (of_z w64 c.in_ok-id.id)) c.in_ok-id.id (to_z-of_z w64 c.in_ok-id.id fits)
    ∙ ap (then_found s (to_z w64 (of_z w64 c.in_ok-id.id))) (c.in-Err.ensures known)

pub returns-in-Ok-None-clause-known : goal.returns-in-Ok-None-clause-known
unfolding dictionary_in
returns-in-Ok-None-clause-known c =
    let s : StateTree = state_of c.args.state.now in
    let m : MessageModel = model_of c.args.message in
    let fits : SFits w64 c.in_ok-id.id = search rules in
    let k : ℤ = to_z w64 (of_z w64 c.in_ok-id.id) in
    let opened : dictionary_in c.args.once s m ≡ then_found s c.in_ok-id.id (found_in c.args.once s m c.in_ok-table.table c.in_ok-table.left c.in_ok-id.id) = rw (sym c.in_ok-table.ensures.value, sym c.in_ok-id.ensures) refl in
    let none : found_in c.args.once s m c.in_ok-table.table c.in_ok-table.left k ≡ Ok None = rw c.in-Ok-None.field-0-is at c.in-Ok-None.ensures in
    opened
    ∙ found_at c.args.once s m c.in_ok-table.table c.in_ok-table.left k c.in_ok-id.id (to_z-of_z w64 c.in_ok-id.id fits)
    ∙ ap (then_found s k) none

pub returns-in-Ok-Some-clause-known : goal.returns-in-Ok-Some-clause-known
unfolding dictionary_in
returns-in-Ok-Some-clause-known c =
    let s : StateTree = state_of c.args.state.now in
    let m : MessageModel = model_of c.args.message in
    let fits : SFits w64 c.in_ok-id.id = search rules in
    let k : ℤ = to_z w64 (of_z w64 c.in_ok-id.id) in
    let opened : dictionary_in c.args.once s m ≡ then_found s c.in_ok-id.id (found_in c.args.once s m c.in_ok-table.table c.in_ok-table.left c.in_ok-id.id) = rw (sym c.in_ok-table.ensures.value, sym c.in_ok-id.ensures) refl in
    let some : found_in c.args.once s m c.in_ok-table.table c.in_ok-table.left k ≡ Ok (Some (c.in-Ok-Some.delta, layout_of c.in-Ok-Some.values)) = rw c.in-Ok-Some.field-0-is at c.in-Ok-Some.ensures in
    let path : dictionary_in c.args.once s m ≡ spec_with_values c.in-Ok-Some.delta s k (layout_of c.in-Ok-Some.values) =
    opened
    ∙ found_at c.args.once s m c.in_ok-table.table c.in_ok-table.left k c.in_ok-id.id (to_z-of_z w64 c.in_ok-id.id fits)
    ∙ ap (then_found s k) some in
    subst (λ (read : Result StateTree IpcReadError). ReturnsOrRunsOut (λ x. state_of c.store_values.new.state) c.store_values.result read) (sym path) c.store_values.ensures.known
