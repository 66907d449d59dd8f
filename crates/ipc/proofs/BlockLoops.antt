-- Loops over the blocks of a file.
use Rattle.std.proofs.Common.{◌≡◌, ℕ, ◌+◌, ◌<◌, ◌≤◌, List, [], ◌∷◌, ◌++◌, length, get_or, drop, map, Result, Ok, Err, refl, sym, ap, ◌∙◌, append_assoc}
use Rattle.std.proofs.lemmas.List.{append-nil, map-append, drop_more, drop_all}
use Rattle.ipc_flatbuf.specs.declared.error.IpcReadError.{IpcReadError}
use Rattle.ipc_flatbuf.specs.ReadResults.{◌>>=◌, FailsOrRunsOut}
use Rattle.ipc_schema.specs.declared.footer.types.Block.{Block}
use Rattle.ipc_schema.specs.Footers.{spec_block_bytes}
use Rattle.ipc.specs.Streams.{RecordBatchTree, StateTree}
use Rattle.ipc.specs.Files.{dictionary_in_block, block_batch_in, batches_at, dictionaries_at, no_block}

-- ---- dictionary batches

-- the state after the dictionary batch of the block at an index
abbrev behind_block : StateTree → List ℕ → List Block → ℕ → Result StateTree IpcReadError
behind_block s bytes blocks i = dictionary_in_block s (spec_block_bytes bytes (get_or blocks i no_block)) (get_or blocks i no_block)

module _ (s : StateTree) (bytes : List ℕ) (blocks : List Block) (i : ℕ) (total : Result StateTree IpcReadError) where
  pub dictionary_fails : (f : IpcReadError) → i < length blocks → FailsOrRunsOut f (behind_block s bytes blocks i) → dictionaries_at s bytes (drop i blocks) ≡ total → FailsOrRunsOut f total
  unfolding dictionaries_at
  dictionary_fails f lt fails so_far = λ known. sym so_far ∙ rw (drop_more blocks i no_block lt, fails known) refl

  pub dictionary_goes_on : (t : StateTree) → i < length blocks → behind_block s bytes blocks i ≡ Ok t → dictionaries_at s bytes (drop i blocks) ≡ total → dictionaries_at t bytes (drop (i + 1) blocks) ≡ total
  unfolding dictionaries_at
  dictionary_goes_on t lt given so_far =
      let one : dictionaries_at s bytes (drop i blocks) ≡ dictionaries_at t bytes (drop (i + 1) blocks) = rw (drop_more blocks i no_block lt, given) refl in
      sym one ∙ so_far

  pub dictionaries_end : length blocks ≤ i → dictionaries_at s bytes (drop i blocks) ≡ total → total ≡ Ok s
  unfolding dictionaries_at
  dictionaries_end le so_far = sym so_far ∙ rw (drop_all i blocks le) refl

-- ---- record batches

-- those read before, and those left
abbrev pub with_first : List RecordBatchTree → Result (List RecordBatchTree) IpcReadError → Result (List RecordBatchTree) IpcReadError
with_first front read = read >>= λ batches. Ok (front ++ batches)

regroup : (front : List RecordBatchTree) (a : RecordBatchTree) (read : Result (List RecordBatchTree) IpcReadError) → with_first front (read >>= λ batches. Ok (a ∷ batches)) ≡ with_first (front ++ a ∷ []) read
regroup front a (Ok batches) = ap (λ (as_ : List RecordBatchTree). Ok as_) (sym (append_assoc front (a ∷ []) batches))
regroup front a (Err f) = refl

pub batches_start : (read : Result (List RecordBatchTree) IpcReadError) → with_first [] read ≡ read
batches_start (Ok batches) = refl
batches_start (Err f) = refl

module _ (schema : StateTree) (bytes : List ℕ) (blocks : List Block) (i : ℕ) where
  pub batch_fails : (f : IpcReadError) (front : List RecordBatchTree) (total : Result (List RecordBatchTree) IpcReadError) → i < length blocks → FailsOrRunsOut f (block_batch_in schema bytes (get_or blocks i no_block)) → with_first front (batches_at schema bytes (drop i blocks)) ≡ total → FailsOrRunsOut f total
  unfolding batches_at
  batch_fails f front total lt fails so_far = λ known. sym so_far ∙ rw (drop_more blocks i no_block lt, fails known) refl

  pub batch_goes_on : {B : Type 0} (view : B → RecordBatchTree) (front new : List B) (b : B) (total : Result (List RecordBatchTree) IpcReadError) → new ≡ front ++ b ∷ [] → i < length blocks → block_batch_in schema bytes (get_or blocks i no_block) ≡ Ok (view b)
      → with_first (map view front) (batches_at schema bytes (drop i blocks)) ≡ total → with_first (map view new) (batches_at schema bytes (drop (i + 1) blocks)) ≡ total
  unfolding batches_at
  batch_goes_on view front new b total e lt read so_far =
      let one : with_first (map view front) (batches_at schema bytes (drop i blocks)) ≡ with_first (map view front ++ view b ∷ []) (batches_at schema bytes (drop (i + 1) blocks)) =
      rw (drop_more blocks i no_block lt, read) (regroup (map view front) (view b) (batches_at schema bytes (drop (i + 1) blocks))) in
      rw (e, map-append view front (b ∷ [])) (sym one ∙ so_far)

  pub batches_end : (front : List RecordBatchTree) (total : Result (List RecordBatchTree) IpcReadError) → length blocks ≤ i → with_first front (batches_at schema bytes (drop i blocks)) ≡ total → total ≡ Ok front
  unfolding batches_at
  batches_end front total le so_far = sym so_far ∙ rw (drop_all i blocks le) (ap (λ (as_ : List RecordBatchTree). Ok as_) (append-nil front))
