-- A reader with no bytes left returns no batch and stays as it is.
use Rattle.std.proofs.Common.{◌≡◌, [], ◌∷◌, List, ℕ, length, Option, None, Result, Ok, refl, ap, sym, subst, arith}
use Rattle.ipc_flatbuf.specs.ReadResults.{◌>>=◌}
use Rattle.ipc_flatbuf.specs.declared.error.IpcReadError.{IpcReadError}
use Rattle.ipc.specs.Streams.{RecordBatchTree, Next, next_in}
use Rattle.ipc.specs.SliceStreamReaders.{SliceStreamReaderTree, finished, next_reader, next_of}
use Rattle.ipc.specs.StreamLaws.{nothing_left}

abbrev step : Next → Result (Option RecordBatchTree × SliceStreamReaderTree) IpcReadError
step next = next >>= λ next. Ok (next.0.0, next_reader next.0.0 next.0.1 next.1)

nothing_next : (r : SliceStreamReaderTree) → r.left ≡ [] → next_of r ≡ Ok (None, finished r.state)
unfolding next_of
nothing_next r none = ap step (subst (λ (l : List ℕ). next_in r.state l ≡ Ok ((None, r.state), [])) (sym none) (nothing_left r.state))

finished_is : (r : SliceStreamReaderTree) → r.left ≡ [] → finished r.state ≡ r
finished_is r none =
    let reader : List ℕ → SliceStreamReaderTree = λ l. record { state = r.state; left = l } in
    ap reader (sym none)

no_bytes : (xs : List ℕ) → length xs ≡ 0 → xs ≡ []
no_bytes [] h = refl
no_bytes (x ∷ xs) h = absurd (omega arith)

pub at_end : (r : SliceStreamReaderTree) → length r.left ≡ 0 → next_of r ≡ Ok (None, r)
at_end r h =
    let none = no_bytes r.left h in
    subst (λ (x : SliceStreamReaderTree). next_of r ≡ Ok (None, x)) (finished_is r none) (nothing_next r none)
