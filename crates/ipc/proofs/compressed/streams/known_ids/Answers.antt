use Rattle.std.proofs.Common.{ℤ, map, take, sym, subst}
use Rattle.std.specs.Int.{w64}
use Rattle.std.specs.Int.RustNames.{FitsSigned}
use Rattle.std.specs.List.{AllByRecursion}
use Rattle.nest_model.specs.Layout.{Layout}
use Rattle.ipc.specs.EntriesOf.{entry_of}
use Rattle.ipc.specs.EncodedBatches.{taken, all_taken, all_push}
use Rattle.ipc.proofs.compressed.streams.known_ids.Goals as goal

abbrev Fit : ℤ × Layout → Type 0
Fit e = FitsSigned w64 e.0

pub loop-entry-preserved : goal.loop-entry-preserved
loop-entry-preserved c =
    let x = c.entry-item.result in
    let i = c.loop-entry.entry-index in
    let pending = c.args.pending.now in
    subst (AllByRecursion Fit) (sym (taken entry_of pending i x c.loop-entry-test.true c.entry-item.is)) (all_push Fit (map entry_of (take i pending)) (entry_of x) c.loop-entry.invariant c.known_id.ensures)

pub returns : goal.returns
returns c = subst (AllByRecursion Fit) (all_taken entry_of c.args.pending.now c.loop-entry.entry-index c.loop-entry-test.false) c.loop-entry.invariant
