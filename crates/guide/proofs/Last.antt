-- The last batch of a file, or its error.
use Rattle.std.proofs.Common.{◌≡◌, ℕ, zero, suc, ◌-◌, length, Some, Result, Ok, Err, refl, ap, sym, ◌∙◌, subst, arith}
use Rattle.ipc_flatbuf.specs.ReadResults.{◌>>=◌, FailsOrRunsOut}
use Rattle.ipc_flatbuf.specs.declared.error.IpcReadError.{IpcReadError}
use Rattle.ipc.specs.Files.{SliceFileReaderTree, batch_of_file}
use Rattle.ipc.specs.Streams.{RecordBatchTree}
use Rattle.guide.specs.Orders.{last_from, last_of}

pub last_fails : (r : SliceFileReaderTree) (read : Result SliceFileReaderTree IpcReadError) (count : ℕ) (error : IpcReadError) → read ≡ Ok r → count ≡ length r.blocks → (count ≡ 0 → ⊥) → FailsOrRunsOut error (batch_of_file r (count - 1)) → FailsOrRunsOut error (read >>= last_of)
last_fails r read zero error is all some fails = absurd (some refl)
last_fails r read (suc n) error is all some fails = λ real.
    let before : suc n - 1 ≡ n = omega arith in
    ap (λ (x : Result SliceFileReaderTree IpcReadError). x >>= last_of) is
    ∙ ap (last_from r) (sym all)
    ∙ ap (λ (x : Result RecordBatchTree IpcReadError). x >>= λ batch. Ok (Some batch)) (subst (λ (i : ℕ). batch_of_file r i ≡ Err error) before (fails real))

pub last_is : (r : SliceFileReaderTree) (read : Result SliceFileReaderTree IpcReadError) (count : ℕ) (batch : RecordBatchTree) → read ≡ Ok r → count ≡ length r.blocks → (count ≡ 0 → ⊥) → batch_of_file r (count - 1) ≡ Ok batch → (read >>= last_of) ≡ Ok (Some batch)
last_is r read zero batch is all some given = absurd (some refl)
last_is r read (suc n) batch is all some given =
    let before : suc n - 1 ≡ n = omega arith in
    ap (λ (x : Result SliceFileReaderTree IpcReadError). x >>= last_of) is
    ∙ ap (last_from r) (sym all)
    ∙ ap (λ (x : Result RecordBatchTree IpcReadError). x >>= λ batch. Ok (Some batch)) (subst (λ (i : ℕ). batch_of_file r i ≡ Ok batch) before given)
