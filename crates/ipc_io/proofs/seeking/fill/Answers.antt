use Rattle.std.proofs.Common.{◌≡◌, ◌+◌, ◌-◌, refl, arith}
use Rattle.ipc_io.proofs.Ranges.{kept_on, kept_same, starts_there, reads_on}
use Rattle.ipc_io.proofs.seeking.fill.Goals as goal

pub reads-init : goal.reads-init
reads-init g c = record {
  read = starts_there _ c.args.buf.now.items c.args.want;
  long = refl;
  within = omega arith;
  kept = kept_same _;
}

pub returns-in_err-n-clause-kept : goal.returns-in_err-n-clause-kept
returns-in_err-n-clause-kept g c = kept_on _ _ _ c.reads.invariant.kept c.read_some.ensures.kept

pub reads-preserved : goal.reads-preserved
reads-preserved g c =
    let sum : c.args.want - (c.reads.left - c.in_ok-n.n) ≡ c.args.want - c.reads.left + c.in_ok-n.n = omega (arith, c.in_ok-n.ensures.some.1, c.reads.invariant.within) in
    record {
      read = reads_on _ _ _ _ _ _ _ c.in_ok-n.n _ c.reads.invariant.read c.in_ok-n.ensures.read sum;
      long = omega (arith, c.reads.invariant.long, c.in_ok-n.ensures.long, c.in_ok-n.ensures.some.1);
      within = omega (arith, c.reads.invariant.within);
      kept = kept_on _ _ _ c.reads.invariant.kept c.read_some.ensures.kept;
    }
