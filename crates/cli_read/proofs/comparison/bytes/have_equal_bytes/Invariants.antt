use Rattle.std.specs.Io.KnownBytes.{Keeps}
use Rattle.ipc_io.specs.Seeks.{known, position_and_bytes}
use Rattle.cli_read.proofs.SameBytes.{AreBehind}
use Rattle.cli_read.proofs.comparison.bytes.have_equal_bytes.Given as goal

abbrev pub invariant-blocks-2 : goal.invariant-blocks-2
invariant-blocks-2 g l =
    record {
      left : Keeps (known (g.R.Seek.stream_position l.fn.left) (g.R.Seek.stream_bytes l.fn.left)) (known (g.R.Seek.stream_position l.left) (g.R.Seek.stream_bytes l.left));
      right : Keeps (known (g.S.Seek.stream_position l.fn.right) (g.S.Seek.stream_bytes l.fn.right)) (known (g.S.Seek.stream_position l.right) (g.S.Seek.stream_bytes l.right));
      same : AreBehind (known (g.R.Seek.stream_position l.fn.left) (g.R.Seek.stream_bytes l.fn.left)) (known (g.S.Seek.stream_position l.fn.right) (g.S.Seek.stream_bytes l.fn.right))
          (position_and_bytes (g.R.Seek.stream_position l.left) (g.R.Seek.stream_bytes l.left)) (position_and_bytes (g.S.Seek.stream_position l.right) (g.S.Seek.stream_bytes l.right));
    }
