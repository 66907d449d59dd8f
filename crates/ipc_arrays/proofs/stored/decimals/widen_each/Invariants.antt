use Rattle.std.proofs.Common.{◌≡◌, ◌≤◌, ◌-◌, ◌*◌, ◌++◌, length}
use Rattle.std.specs.Int.{w128}
use Rattle.ipc_arrays.specs.FixedWidth.{signed_format, decoded_natives, values_bytes}
use Rattle.ipc_arrays.proofs.stored.decimals.widen_each.Given as goal

abbrev pub invariant-loop-i : goal.invariant-loop-i
invariant-loop-i g l =
    record {
      enough : (l.slots - l._i) * g.T.FixedWidth.format.size ≤ length l.from;
      done : l.out.items ++ values_bytes (signed_format w128) (decoded_natives g.T.FixedWidth.format (l.slots - l._i) l.from) ≡ l.initial.out.items ++ values_bytes (signed_format w128) (decoded_natives g.T.FixedWidth.format l.slots l.bytes);
    }
