use Rattle.std.proofs.Common.{◌≡◌, ◌∙◌, ◌<◌, ◌+◌, ◌-◌, ◌^◌, ◌++◌, get_or, List, ℕ, ap, arith, drop, length, map, subst, sym, take}
use Rattle.std.specs.List.{flat_map}
use Rattle.nest_array.specs.Seen.{layout_of}
use Rattle.cli_rows.specs.Rows.{RowSlot, rows_of}
use Rattle.cli_rows.specs.RowLaws.{rows-length}
use Rattle.cli_read.specs.Indices.{AreIndicesInBatch, AreSortedFrom}
use Rattle.cli_read.specs.TakeStates.{AreTaken, rows_taken}
use Rattle.cli_read.proofs.TakeSteps.{all-behind, rows-behind, taken-more}
use Rattle.cli_read.proofs.by_index.rows.take_from_array.Goals as goal

pub returns-clause-took : goal.returns-clause-took
returns-clause-took c = λ fs rows each took.
    let old = c.args.state.now in
    let wanted = old.wanted.items in
    let a = layout_of c.args.array.now in
    let n = c.len-rows.result in
    let found = c.in_ok-found.found.items in
    let taken = c.in_ok-taken.taken.items in
    let ws = flat_map rows_of (map layout_of taken) in
    let later = c.saturating_add-state.result in
    let behind = ap (λ (ps : List ℕ). take (length ps - old.next) (drop old.next ps)) c.deref.ensures.value ∙ all-behind old.next wanted in
    let within = subst (λ (ps : List ℕ). AreSortedFrom old.passed ps → AreIndicesInBatch ps old.passed n found) behind c.in_ok-found.ensures.within in
    let appended : c.append.new.self.items ≡ old.rows.items ++ taken = c.in_ok-append.ensures.items in
    let fits = subst (λ (ps : List ℕ). (i : ℕ) → get_or ps i 0 < 2 ^ 64) behind c.indices_in_batch.ensures.fits in
    let more = taken-more fs wanted rows old.next old.passed n found (rows_of a) (rows_taken old) ws later took c.requires (c.len-rows.ensures ∙ sym (rows-length a)) within c.in_ok-taken.ensures.rows each fits (λ bound. omega (arith, bound, c.saturating_add-state.ensures)) in
    let stored = c.in_ok-found.found.ok.0 in
    let count : length found ≡ c.len-count.result = omega (arith, stored, c.len-count.ensures) in
    subst (λ (k : ℕ). AreTaken fs wanted (rows ++ rows_of a) (old.next + k) later (flat_map rows_of (map layout_of c.append.new.self.items))) count
    (subst (λ (rs : List RowSlot). AreTaken fs wanted (rows ++ rows_of a) (old.next + length found) later rs) (sym (rows-behind old.rows.items c.append.new.self.items taken appended)) more)
