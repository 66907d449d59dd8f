use Rattle.std.proofs.Common.{ℕ, Some, subst}
use Rattle.ipc_io.specs.Seeks.{position_and_bytes}
use Rattle.cli_read.specs.EqualBytes.{ReadsEqualBytes}
use Rattle.cli_read.proofs.SameBytes.{behind-end, behind-more, kept_on}
use Rattle.cli_read.proofs.comparison.bytes.have_equal_bytes.Goals as goal

pub returns-in-Some-eq0-clause-alike : goal.returns-in-Some-eq0-clause-alike
returns-in-Some-eq0-clause-alike g c = λ yes.
    let l = position_and_bytes (g.R.Seek.stream_position c.read_equal_bytes.new.left) (g.R.Seek.stream_bytes c.read_equal_bytes.new.left) in
    let r = position_and_bytes (g.S.Seek.stream_position c.read_equal_bytes.new.right) (g.S.Seek.stream_bytes c.read_equal_bytes.new.right) in
    behind-end _ _ _ _ l r c.blocks-2.invariant.same
    (λ n xs ys e f. subst (λ (m : ℕ). ReadsEqualBytes xs ys n (Some m) l r) c.in-Some-eq0.field-0-test (c.in-Some-eq0.ensures.alike n xs ys e f))

pub blocks-2-preserved : goal.blocks-2-preserved
blocks-2-preserved g c =
    record {
      left = kept_on _ _ _ c.blocks-2.invariant.left c.read_equal_bytes.ensures.left;
      right = kept_on _ _ _ c.blocks-2.invariant.right c.read_equal_bytes.ensures.right;
      same = behind-more _ _ _ _ _ _ c.in-Some.field-0 c.blocks-2.invariant.same c.in-Some.ensures.alike;
    }
