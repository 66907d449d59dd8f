use Rattle.std.proofs.Common.{◌≡◌, ◌++◌, map}
use Rattle.std.specs.List.{AllByRecursion, range_with_len}
use Rattle.std.specs.Option.{option_map}
use Rattle.ipc_arrays.specs.DictionaryKeys.{key_or_zero}
use Rattle.ipc_arrays.specs.FixedWidth.{values_bytes}
use Rattle.ipc_arrays.specs.FixedWidthLaws.{ValueRoundTrips}
use Rattle.ipc_arrays.proofs.dictionary.write_each_key.Given as goal

abbrev pub invariant-loop-i : goal.invariant-loop-i
invariant-loop-i g l = record {
  written : l.out.items ≡ l.initial.out.items ++ values_bytes g.T.FixedWidth.format (map (key_or_zero (option_map (λ b. b.now) l.validity) (map g.T.NativeType.numbers l.values)) (range_with_len 0 l.i));
  round_trips : AllByRecursion (ValueRoundTrips g.T.FixedWidth.format) (map (key_or_zero (option_map (λ b. b.now) l.validity) (map g.T.NativeType.numbers l.values)) (range_with_len 0 l.i));
}
