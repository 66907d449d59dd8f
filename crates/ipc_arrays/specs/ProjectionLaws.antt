-- A projection of every column is all columns.
use Rattle.std.specs.Prelude.{◌≡◌, ℕ, ℤ, List, [], ◌∷◌, Result, Ok, Err, refl}
use Rattle.std.proofs.Common.{ap}
use Rattle.ipc_flatbuf.specs.ReadResults.{◌>>=◌}
use Rattle.ipc_flatbuf.specs.declared.error.IpcReadError.{IpcReadError}
use Rattle.nest_memory.specs.TypeTree.{TypeTree}
use Rattle.nest_model.specs.Layout.{Layout}
use Rattle.ipc_arrays.specs.Decoding.{Rest, decoded_column, decoded_each, checked_exhausted, decoded_columns}
use Rattle.ipc_arrays.specs.Projection.{ProjectionState, decoded_steps, decoded_projection, every_column}
use Rattle.ipc_arrays.specs.declared.cursor.ExpectedLength.TheVariants.{Rows}

abbrev Read : Type 0
Read = Result (List Layout × Rest) IpcReadError

abbrev before : Layout → Read → Read
before a read = read >>= λ others. Ok (a ∷ others.0, others.1)

abbrev first_of : Result (Layout × Rest) IpcReadError → (Rest → Read) → Read
first_of first f = first >>= λ x. before x.0 (f x.1)

first_same : (first : Result (Layout × Rest) IpcReadError) (f g : Rest → Read) → ((rest : Rest) → f rest ≡ g rest) → first_of first f ≡ first_of first g
first_same (Ok x) f g same = ap (before x.0) (same x.1)
first_same (Err e) f g same = refl

steps_same : (types : List TypeTree) (rows : ℕ) (body : List ℕ) (more : List ℤ) (rest : Rest) → decoded_steps (every_column types) types rows body (record { rest = rest; more = more }) ≡ decoded_each types rows body rest
unfolding decoded_steps decoded_each
steps_same [] rows body more rest = refl
steps_same (t ∷ types) rows body more rest =
    first_same (decoded_column t (Rows rows) body rest) (λ r. decoded_steps (every_column types) types rows body (record { rest = r; more = more })) (λ r. decoded_each types rows body r) (λ r. steps_same types rows body more r)

abbrev whole : Read → Result (List Layout) IpcReadError
whole read = read >>= λ columns. checked_exhausted columns.1 >>= λ all. Ok columns.0

pub projection_same : (types : List TypeTree) (rows : ℕ) (body : List ℕ) (ahead : ProjectionState) → decoded_projection (every_column types) types rows body ahead ≡ decoded_columns types rows body ahead.rest
unfolding decoded_projection decoded_columns
projection_same types rows body ahead = ap whole (steps_same types rows body ahead.more ahead.rest)
