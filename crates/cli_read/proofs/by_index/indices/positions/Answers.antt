use Rattle.std.proofs.Common.{List, ℕ, ◌+◌, take, sym, subst, refl}
use Rattle.cli_read.specs.Indices.{HaveRanks}
use Rattle.cli_read.proofs.Positions.{ranks-more}
use Rattle.cli_read.proofs.by_index.indices.positions.Goals as goal

pub loop-index-preserved : goal.loop-index-preserved
loop-index-preserved c = λ up stand.
    let i = c.loop-index.index-index in
    let ps = c.args.indices.now in
    let lt = c.loop-index-test.true in
    subst (λ rs. HaveRanks c.args.sorted_indices.now (take (i + 1) ps) rs) (sym {A = List ℕ} c.in_ok-push.ensures.items) (ranks-more c.args.sorted_indices.now ps c.loop-index.positions.items i _ c.position.result lt refl (c.position.ensures up (stand i 0 lt)) (c.loop-index.invariant up stand))
