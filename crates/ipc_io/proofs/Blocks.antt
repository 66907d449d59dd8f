-- The blocks of an encoded batch of a file, and its errors.
use Rattle.std.proofs.Common.{[], ◌∷◌, ◌++◌, ◌+◌, ◌≡◌, ℕ, ◌^◌, ◌<◌, ◌≤◌, true, false, leb, get_or, List, length, map, None, refl, sym, inr, ap, ◌∙◌, subst, arith}
use Rattle.std.specs.Prelude.{zero, suc}
use Rattle.std.specs.List.{AllByRecursion, flat_map}
use Rattle.std.proofs.lemmas.Bool.{le-leb, lt-leb}
use Rattle.std.proofs.lemmas.List.Concat.{flat_map-cons}
use Rattle.std.proofs.lemmas.List.{length-append}
use Rattle.nest_memory.specs.TypeTree.{TypeTree}
use Rattle.ipc_flatbuf.specs.declared.error.IpcWriteError.{IpcWriteError}
use Rattle.ipc_flatbuf.specs.declared.error.IpcWriteError.TheVariants.{Size}
use Rattle.ipc.specs.DictionaryEntries.{DictionaryEntries}
use Rattle.ipc.specs.FileDictionaries.{DictionaryBatchTree}
use Rattle.ipc.specs.Streams.{RecordBatchTree}
use Rattle.ipc.specs.EncodedStreams.{dictionary_bytes, encoded_batch, size_error_if, IsErrorOrMemory}
use Rattle.ipc.specs.EncodedFiles.{Blocks, FileState, no_blocks, dictionary_blocks, file_dictionary_batches, file_batch_error}
use Rattle.ipc.specs.EncodedBatches.{first_refused, part_long, with_part}
use Rattle.ipc_io.specs.FileWriters.{IsShiftable, shifted_block, shifted_blocks, batch_blocks, placed_error}

-- ---- errors

module _ (position : ℕ) (types : List TypeTree) (f : FileState) (b : RecordBatchTree) where
  abbrev end : ℕ
  end = position + length (encoded_batch file_dictionary_batches f.emitted b)

  pub none_taken : (why : IpcWriteError) → IsErrorOrMemory (file_batch_error types f b) why → IsErrorOrMemory (placed_error position types f b) why
  none_taken why refused = first_refused (file_batch_error types f b) (size_error_if (leb (2 ^ 63) end)) why refused

  pub ends_late : (why : IpcWriteError) → file_batch_error types f b ≡ None → why ≡ Size → 2 ^ 63 ≤ end → IsErrorOrMemory (placed_error position types f b) why
  ends_late why none size late =
      let past : leb (2 ^ 63) end ≡ true = le-leb _ _ late in
      inr (rw (none, past, size) refl)

  pub is_placed : file_batch_error types f b ≡ None → end < 2 ^ 63 → placed_error position types f b ≡ None
  is_placed none near =
      let fits : leb (2 ^ 63) end ≡ false = lt-leb _ _ near in
      rw (none, fits) refl

-- ---- blocks with this added to their offsets

moved_dictionaries : (position start : ℕ) (ps : List DictionaryBatchTree) → map (shifted_block position) (dictionary_blocks start ps) ≡ dictionary_blocks (position + start) ps
unfolding dictionary_blocks
moved_dictionaries position start [] = refl
moved_dictionaries position start (p ∷ ps) =
    let next : position + (start + length (dictionary_bytes p)) ≡ position + start + length (dictionary_bytes p) = omega arith in
    rw (moved_dictionaries position (start + length (dictionary_bytes p)) ps, next) refl

pub moved_part : (position : ℕ) (emitted : DictionaryEntries) (b : RecordBatchTree) → shifted_blocks position (batch_blocks 0 emitted b) ≡ batch_blocks position emitted b
moved_part position emitted b =
    let ps : List DictionaryBatchTree = file_dictionary_batches emitted b in
    let start : position + 0 ≡ position = omega arith in
    let dictionaries : map (shifted_block position) (dictionary_blocks 0 ps) ≡ dictionary_blocks position ps = moved_dictionaries position 0 ps ∙ ap (λ (n : ℕ). dictionary_blocks n ps) start in
    let none : 0 + length (flat_map dictionary_bytes ps) ≡ length (flat_map dictionary_bytes ps) = omega arith in
    rw (dictionaries, none) refl

-- one of the blocks
pub one_of : {A : Type 0} (P : A → Type 0) (xs : List A) (i : ℕ) (x : A) → AllByRecursion P xs → i < length xs → x ≡ get_or xs i x → P x
one_of P [] i x all lt is = absurd (omega (arith, lt))
one_of P (y ∷ xs) zero x all lt is = subst P (sym is) all.0
one_of P (y ∷ xs) (suc i) x all lt is = one_of P xs i x all.1 (omega (arith, lt)) is

ends_within : (position start : ℕ) (ps : List DictionaryBatchTree) → position + start + length (flat_map dictionary_bytes ps) < 2 ^ 63 → AllByRecursion (IsShiftable position) (dictionary_blocks start ps)
unfolding dictionary_blocks
ends_within position start [] near = tt
ends_within position start (p ∷ ps) near =
    let all : length (flat_map dictionary_bytes (p ∷ ps)) ≡ length (dictionary_bytes p) + length (flat_map dictionary_bytes ps) = ap length (flat_map-cons dictionary_bytes p ps) ∙ length-append (dictionary_bytes p) (flat_map dictionary_bytes ps) in
    (omega (arith, all, near), ends_within position (start + length (dictionary_bytes p)) ps (omega (arith, all, near)))

module _ (position : ℕ) (emitted : DictionaryEntries) (b : RecordBatchTree) (blocks : Blocks) (near : position + length (encoded_batch file_dictionary_batches emitted b) < 2 ^ 63) (made : blocks ≡ batch_blocks 0 emitted b) where
  pub dictionaries_end : AllByRecursion (IsShiftable position) blocks.dictionaries
  dictionaries_end = subst (λ (x : Blocks). AllByRecursion (IsShiftable position) x.dictionaries) (sym made) (ends_within position 0 (file_dictionary_batches emitted b) (omega (arith, near, part_long file_dictionary_batches emitted b)))

  pub batch_ends : AllByRecursion (IsShiftable position) blocks.batches
  batch_ends = subst (λ (x : Blocks). AllByRecursion (IsShiftable position) x.batches) (sym made) (omega (arith, near, part_long file_dictionary_batches emitted b), tt)

-- ---- an encoded batch at position 0

pub part_near : (old new : List ℕ) (emitted : DictionaryEntries) (b : RecordBatchTree) → old ≡ [] → new ≡ old ++ encoded_batch file_dictionary_batches emitted b → length new ≡ length (encoded_batch file_dictionary_batches emitted b)
part_near old new emitted b none is = ap length (is ∙ ap (λ (x : List ℕ). x ++ encoded_batch file_dictionary_batches emitted b) none)

pub part_made : (out : List ℕ) (old new : Blocks) (emitted : DictionaryEntries) (b : RecordBatchTree) → out ≡ [] → old ≡ no_blocks → new ≡ with_part old (length out) emitted b → new ≡ batch_blocks 0 emitted b
part_made out old new emitted b none first is = is ∙ ap (λ (x : Blocks). with_part x (length out) emitted b) first ∙ ap (λ (x : List ℕ). with_part no_blocks (length x) emitted b) none
