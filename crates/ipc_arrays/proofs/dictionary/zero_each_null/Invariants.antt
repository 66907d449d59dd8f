use Rattle.std.proofs.Common.{◌≡◌, ◌≤◌, length, map}
use Rattle.std.specs.Prelude.{vec_capacity}
use Rattle.std.specs.List.{range_with_len}
use Rattle.std.specs.Option.{option_map}
use Rattle.ipc_arrays.specs.DictionaryKeys.{key_or_zero}
use Rattle.ipc_arrays.proofs.dictionary.zero_each_null.Given as goal

abbrev pub invariant-loop-i : goal.invariant-loop-i
invariant-loop-i g l =
    record {
      room : length l.values ≤ vec_capacity l.keys;
      so_many : length l.keys.items ≡ l.i;
      within : l.i ≤ length l.values;
      done : map g.T.NativeType.numbers l.keys.items ≡ map (key_or_zero (option_map (λ b. b.now) l.validity) (map g.T.NativeType.numbers l.values)) (range_with_len 0 l.i);
    }
