use Rattle.std.proofs.Common.{◌≡◌, ◌≤◌, ◌-◌, ◌*◌, ◌++◌, length, map}
use Rattle.std.specs.Prelude.{vec_capacity}
use Rattle.ipc_arrays.specs.FixedWidth.{decoded_natives}
use Rattle.ipc_arrays.proofs.native.copy_values.Given as goal

abbrev pub invariant-loop-i : goal.invariant-loop-i
invariant-loop-i g l =
    record {
      room : l.slots ≤ vec_capacity l.values;
      so_many : length l.values.items ≡ l.i;
      enough : (l.slots - l.i) * g.T.FixedWidth.format.size ≤ length l.from;
      done : map g.T.NativeType.numbers l.values.items ++ decoded_natives g.T.FixedWidth.format (l.slots - l.i) l.from ≡ decoded_natives g.T.FixedWidth.format l.slots l.bytes;
    }
