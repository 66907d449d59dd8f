use mir.Syntax.{w64}
use mir.Val.{to_z, of_z}
use Rattle.std.proofs.Common.{◌≡◌, ℕ, Bool, Result, Option, Some, Ok, sym, ap, ◌∙◌}
use Rattle.std.proofs.lemmas.Int.{to_z-of_z}
use Rattle.std.specs.Prelude.{ℤ}
use Rattle.ipc_flatbuf.specs.ReadResults.{◌>>=◌}
use Rattle.ipc_flatbuf.specs.declared.error.IpcReadError.{IpcReadError}
use Rattle.ipc_flatbuf.specs.Messages.{model_of}
use Rattle.ipc_schema.specs.Dictionaries.{ValueTypeModel}
use Rattle.ipc_flatbuf.specs.Messages.{MessageModel}
use Rattle.ipc_schema.specs.DictionaryModels.{value_type_of}
use Rattle.ipc_flatbuf.specs.declared.tables.FlatbufferTable.{FlatbufferTable}
use Rattle.nest_model.specs.Layout.{Layout}
use Rattle.ipc.specs.Streams.{StateTree, state_of, named_in, found_values, found_in}
use Rattle.ipc.proofs.dictionary.found_values.Goals as goal

pub returns-in-Err : goal.returns-in-Err
returns-in-Err c = λ known.
    let s : StateTree = state_of c.args.state.now in
    let same : to_z w64 (of_z w64 c.args.id) ≡ c.args.id = to_z-of_z w64 c.args.id c.ranges.id in
    ap (λ (k : ℤ). named_in s.picked k >>= λ named. found_values c.args.once s (model_of c.args.message) c.args.table c.args.left c.args.id named) (sym same)
    ∙ ap (λ (r : Result (Option ValueTypeModel) IpcReadError). r >>= λ named. found_values c.args.once s (model_of c.args.message) c.args.table c.args.left c.args.id named) (c.in-Err.ensures known)

pub returns-in-Ok-None : goal.returns-in-Ok-None
returns-in-Ok-None c =
    let s : StateTree = state_of c.args.state.now in
    let same : to_z w64 (of_z w64 c.args.id) ≡ c.args.id = to_z-of_z w64 c.args.id c.ranges.id in
    ap (λ (k : ℤ). named_in s.picked k >>= λ named. found_values c.args.once s (model_of c.args.message) c.args.table c.args.left c.args.id named) (sym same)
    ∙ ap (λ (r : Result (Option ValueTypeModel) IpcReadError). r >>= λ named. found_values c.args.once s (model_of c.args.message) c.args.table c.args.left c.args.id named) (rw c.in-Ok-None.field-0-is at c.in-Ok-None.ensures)

found_at : (once : Bool) (s : StateTree) (m : MessageModel) (table : FlatbufferTable) (left : ℕ) (k id : ℤ) → k ≡ id → found_in once s m table left id ≡ found_in once s m table left k
found_at once s m table left k id e = ap (λ (x : ℤ). found_in once s m table left x) (sym e)

pub returns-in-Err-new_values : goal.returns-in-Err-new_values
returns-in-Err-new_values c = λ known.
    let s : StateTree = state_of c.args.state.now in
    let m : MessageModel = model_of c.args.message in
    let k : ℤ = to_z w64 (of_z w64 c.args.id) in
    let named : named_in s.picked k ≡ Ok (Some (value_type_of c.in-Ok-Some.values.now)) = rw c.in-Ok-Some.field-0-is at c.in-Ok-Some.ensures in
    found_at c.args.once s m c.args.table c.args.left k c.args.id (to_z-of_z w64 c.args.id c.ranges.id)
    ∙ ap (λ (r : Result (Option ValueTypeModel) IpcReadError). r >>= λ named. found_values c.args.once s m c.args.table c.args.left k named) named
    ∙ ap (λ (r : Result (Bool × Layout) IpcReadError). r >>= λ new. Ok (Some new)) (c.in-Err-new_values.ensures known)

pub returns-in-Ok : goal.returns-in-Ok
returns-in-Ok c =
    let s : StateTree = state_of c.args.state.now in
    let m : MessageModel = model_of c.args.message in
    let k : ℤ = to_z w64 (of_z w64 c.args.id) in
    let named : named_in s.picked k ≡ Ok (Some (value_type_of c.in-Ok-Some.values.now)) = rw c.in-Ok-Some.field-0-is at c.in-Ok-Some.ensures in
    found_at c.args.once s m c.args.table c.args.left k c.args.id (to_z-of_z w64 c.args.id c.ranges.id)
    ∙ ap (λ (r : Result (Option ValueTypeModel) IpcReadError). r >>= λ named. found_values c.args.once s m c.args.table c.args.left k named) named
    ∙ ap (λ (r : Result (Bool × Layout) IpcReadError). r >>= λ new. Ok (Some new)) c.in-Ok.ensures
