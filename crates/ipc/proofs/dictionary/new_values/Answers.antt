use mir.Syntax.{w64}
use mir.Val.{to_z, of_z}
use Rattle.std.proofs.Common.{◌≡◌, ℕ, Bool, Result, Ok, sym, ap, ◌∙◌}
use Rattle.std.proofs.lemmas.Int.{to_z-of_z}
use Rattle.std.proofs.lemmas.Result.{err_from_is_err_and}
use Rattle.std.specs.Prelude.{ℤ, is_some}
use Rattle.ipc_flatbuf.specs.ReadResults.{◌>>=◌}
use Rattle.ipc_flatbuf.specs.declared.error.IpcReadError.{IpcReadError}
use Rattle.ipc_flatbuf.specs.Messages.{MessageModel, model_of}
use Rattle.ipc_schema.specs.Dictionaries.{ValueTypeModel}
use Rattle.ipc_schema.specs.DictionaryModels.{value_type_of}
use Rattle.nest_model.specs.Layout.{Layout}
use Rattle.ipc_flatbuf.specs.declared.tables.FlatbufferTable.{FlatbufferTable}
use Rattle.ipc.specs.Streams.{StateTree, state_of, known_at, data_in, column_in_batch}
use Rattle.ipc.proofs.dictionary.new_values.Goals as goal

abbrev with_data : StateTree → MessageModel → ℕ → ValueTypeModel → Result (ℕ × Bool) IpcReadError → Result (Bool × Layout) IpcReadError
with_data s m left v read = read >>= λ at. column_in_batch s m at.0 left v >>= λ values. Ok (at.1, values)

-- the values of the id are looked up
looked : (once a b : Bool) (s : StateTree) (m : MessageModel) (table : FlatbufferTable) (left : ℕ) (v : ValueTypeModel) → a ≡ b → with_data s m left v (data_in once b m.metadata table) ≡ with_data s m left v (data_in once a m.metadata table)
looked once a b s m table left v e = ap (λ (x : Bool). with_data s m left v (data_in once x m.metadata table)) (sym e)

pub returns-in_err-position : goal.returns-in_err-position
returns-in_err-position c =
    let p = err_from_is_err_and c.from_residual.result c.from_residual.ensures.1 in
    let s : StateTree = state_of c.args.state.now in
    let m : MessageModel = model_of c.args.message in
    let same : to_z w64 (of_z w64 c.args.id) ≡ c.args.id = to_z-of_z w64 c.args.id c.ranges.id in
    let there : c.is_known-there.result ≡ is_some (known_at s.known c.args.id) = c.is_known-there.ensures ∙ ap (λ (k : ℤ). is_some (known_at s.known k)) same in
    rw (p.1, p.2) (λ known. looked c.args.once c.is_known-there.result (is_some (known_at s.known c.args.id)) s m c.args.table c.args.left (value_type_of c.args.values.now) there ∙ ap (with_data s m c.args.left (value_type_of c.args.values.now)) (sym c.in_err-position.ensures))

pub returns-in-Err : goal.returns-in-Err
returns-in-Err c = λ known.
    let s : StateTree = state_of c.args.state.now in
    let m : MessageModel = model_of c.args.message in
    let same : to_z w64 (of_z w64 c.args.id) ≡ c.args.id = to_z-of_z w64 c.args.id c.ranges.id in
    let there : c.is_known-there.result ≡ is_some (known_at s.known c.args.id) = c.is_known-there.ensures ∙ ap (λ (k : ℤ). is_some (known_at s.known k)) same in
    looked c.args.once c.is_known-there.result (is_some (known_at s.known c.args.id)) s m c.args.table c.args.left (value_type_of c.args.values.now) there
    ∙ ap (with_data s m c.args.left (value_type_of c.args.values.now)) (sym c.in_ok-position.ensures)
    ∙ ap (λ (r : Result Layout IpcReadError). r >>= λ values. Ok (c.in_ok-position.delta, values)) (c.in-Err.ensures known)

pub returns-in-Ok : goal.returns-in-Ok
returns-in-Ok c =
    let s : StateTree = state_of c.args.state.now in
    let m : MessageModel = model_of c.args.message in
    let same : to_z w64 (of_z w64 c.args.id) ≡ c.args.id = to_z-of_z w64 c.args.id c.ranges.id in
    let there : c.is_known-there.result ≡ is_some (known_at s.known c.args.id) = c.is_known-there.ensures ∙ ap (λ (k : ℤ). is_some (known_at s.known k)) same in
    looked c.args.once c.is_known-there.result (is_some (known_at s.known c.args.id)) s m c.args.table c.args.left (value_type_of c.args.values.now) there
    ∙ ap (with_data s m c.args.left (value_type_of c.args.values.now)) (sym c.in_ok-position.ensures)
    ∙ ap (λ (r : Result Layout IpcReadError). r >>= λ values. Ok (c.in_ok-position.delta, values)) c.in-Ok.ensures
