-- Loops that find the needed buffers.
use Rattle.std.proofs.Common.{◌≡◌, ℕ, suc, ◌-◌, ◌+◌, ◌<◌, ◌≤◌, Bool, true, false, List, [], ◌∷◌, ◌++◌, length, get_or, drop, replicate, Result, Ok, Err, refl, sym, ap, ◌∙◌, append_assoc, arith}
use Rattle.std.specs.Prelude.{ℤ}
use Rattle.std.proofs.lemmas.List.{append-nil, drop_more, drop_all}
use Rattle.ipc_flatbuf.specs.declared.error.IpcReadError.{IpcReadError}
use Rattle.ipc_flatbuf.specs.declared.batch.parts.BufferSpec.{BufferSpec}
use Rattle.ipc_flatbuf.specs.declared.projection.SkippedField.{SkippedField}
use Rattle.ipc_flatbuf.specs.declared.projection.FieldAction.{FieldAction}
use Rattle.ipc_flatbuf.specs.declared.projection.FieldAction.TheVariants.{Read, Skip}
use Rattle.ipc_flatbuf.specs.ReadResults.{◌>>=◌}
use Rattle.nest_memory.specs.TypeTree.{TypeTree}
use Rattle.ipc_arrays.specs.BufferCounts.{array_skipped}
use Rattle.ipc_arrays.specs.NeededBuffers.{column_skipped, flags, spec_needed_buffers}

-- ---- the same flag several times

module _ (flag : Bool) (count i : ℕ) (total : List Bool) where
  pub flag_more : (old new : List Bool) → i < count → new ≡ old ++ flag ∷ [] → old ++ replicate (count - i) flag ≡ total → new ++ replicate (count - (i + 1)) flag ≡ total
  flag_more old new lt is so_far =
      let k : count - i ≡ suc (count - (i + 1)) = omega arith in
      let one : old ++ replicate (count - i) flag ≡ new ++ replicate (count - (i + 1)) flag = rw (k, is) (sym (append_assoc old (flag ∷ []) (replicate (count - (i + 1)) flag))) in
      sym one ∙ so_far

  pub flags_done : (old : List Bool) → count ≤ i → old ++ replicate (count - i) flag ≡ total → old ≡ total
  flags_done old le so_far =
      let k : count - i ≡ 0 = omega arith in
      let one : old ++ replicate (count - i) flag ≡ old = rw k (append-nil old) in
      sym one ∙ so_far

pub flags_start : (old : List Bool) (flag : Bool) (count n : ℕ) → count ≡ n → old ++ replicate (count - 0) flag ≡ old ++ replicate n flag
flags_start old flag count n e = let k : count - 0 ≡ n = omega (arith, e) in ap (λ (m : ℕ). old ++ replicate m flag) k

-- ---- steps

-- the flags so far, then those that follow
abbrev pub with_flags : List Bool → Result (List Bool) IpcReadError → Result (List Bool) IpcReadError
with_flags front read = read >>= λ others. Ok (front ++ others)

pub flags_none : (read : Result (List Bool) IpcReadError) → with_flags [] read ≡ read
flags_none (Ok x) = refl
flags_none (Err e) = refl

regroup : (front own : List Bool) (read : Result (List Bool) IpcReadError) → with_flags front (read >>= λ others. Ok (own ++ others)) ≡ with_flags (front ++ own) read
regroup front own (Ok x) = ap (λ (fs : List Bool). Ok fs) (sym (append_assoc front own x))
regroup front own (Err e) = refl

module _ (steps : List FieldAction) (i : ℕ) (front : List Bool) (left : List TypeTree) (more : List ℤ) (bs : List BufferSpec) (total : Result (List Bool) IpcReadError) where
  pub skip_goes_on : (d : FieldAction) (s : SkippedField) (new : List Bool) (rest : List BufferSpec) (others : List ℤ) → i < length steps → get_or steps i d ≡ Skip s → column_skipped s more bs ≡ Ok (rest, others) → new ≡ front ++ flags bs rest false
      → with_flags front (spec_needed_buffers (drop i steps) left more bs) ≡ total → with_flags new (spec_needed_buffers (drop (i + 1) steps) left others rest) ≡ total
  unfolding spec_needed_buffers
  skip_goes_on d s new rest others lt e h is so_far =
      let one : with_flags front (spec_needed_buffers (drop i steps) left more bs) ≡ with_flags new (spec_needed_buffers (drop (i + 1) steps) left others rest) =
      rw (drop_more steps i d lt, e, h, is) (regroup front (flags bs rest false) (spec_needed_buffers (drop (i + 1) steps) left others rest)) in
      sym one ∙ so_far

  pub skip_ends : (d : FieldAction) (s : SkippedField) (f : IpcReadError) → i < length steps → get_or steps i d ≡ Skip s → column_skipped s more bs ≡ Err f → with_flags front (spec_needed_buffers (drop i steps) left more bs) ≡ total → total ≡ Err f
  unfolding spec_needed_buffers
  skip_ends d s f lt e h so_far =
      let one : with_flags front (spec_needed_buffers (drop i steps) left more bs) ≡ Err f = rw (drop_more steps i d lt, e, h) refl in
      sym so_far ∙ one

  pub column_goes_on : (d : FieldAction) (t : TypeTree) (others : List TypeTree) (new : List Bool) (rest : List BufferSpec) → i < length steps → get_or steps i d ≡ Read → left ≡ t ∷ others → array_skipped t bs ≡ Ok rest → new ≡ front ++ flags bs rest true
      → with_flags front (spec_needed_buffers (drop i steps) left more bs) ≡ total → with_flags new (spec_needed_buffers (drop (i + 1) steps) others more rest) ≡ total
  unfolding spec_needed_buffers
  column_goes_on d t others new rest lt e l h is so_far =
      let one : with_flags front (spec_needed_buffers (drop i steps) left more bs) ≡ with_flags new (spec_needed_buffers (drop (i + 1) steps) others more rest) =
      rw (drop_more steps i d lt, e, l, h, is) (regroup front (flags bs rest true) (spec_needed_buffers (drop (i + 1) steps) others more rest)) in
      sym one ∙ so_far

  pub column_ends : (d : FieldAction) (t : TypeTree) (others : List TypeTree) (f : IpcReadError) → i < length steps → get_or steps i d ≡ Read → left ≡ t ∷ others → array_skipped t bs ≡ Err f → with_flags front (spec_needed_buffers (drop i steps) left more bs) ≡ total → total ≡ Err f
  unfolding spec_needed_buffers
  column_ends d t others f lt e l h so_far =
      let one : with_flags front (spec_needed_buffers (drop i steps) left more bs) ≡ Err f = rw (drop_more steps i d lt, e, l, h) refl in
      sym so_far ∙ one

  pub no_column_left : (d : FieldAction) → i < length steps → get_or steps i d ≡ Read → left ≡ [] → with_flags front (spec_needed_buffers (drop i steps) left more bs) ≡ total → total ≡ Ok front
  unfolding spec_needed_buffers
  no_column_left d lt e l so_far =
      let one : with_flags front (spec_needed_buffers (drop i steps) left more bs) ≡ Ok front = rw (drop_more steps i d lt, e, l) (ap (λ (fs : List Bool). Ok fs) (append-nil front)) in
      sym so_far ∙ one

  pub columns_are_done : length steps ≤ i → with_flags front (spec_needed_buffers (drop i steps) left more bs) ≡ total → total ≡ Ok front
  unfolding spec_needed_buffers
  columns_are_done le so_far =
      let one : with_flags front (spec_needed_buffers (drop i steps) left more bs) ≡ Ok front = rw (drop_all i steps le) (ap (λ (fs : List Bool). Ok fs) (append-nil front)) in
      sym so_far ∙ one
