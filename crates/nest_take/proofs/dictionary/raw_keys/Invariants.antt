use Rattle.std.proofs.Common.{◌≡◌, ℕ, ◌<◌, ◌≤◌, [], length, map, get_or}
use Rattle.std.specs.Prelude.{vec_capacity}
use Rattle.nest_take.specs.TakenKeys.{IsRawKey}
use Rattle.nest_take.proofs.dictionary.raw_keys.Given as goal

abbrev pub invariant-loop-place : goal.invariant-loop-place
invariant-loop-place g l =
    record {
      room : length l.indices ≤ vec_capacity l.raw;
      same_length : length l.raw.items ≡ l.place-index;
      done : (j : ℕ) → j < l.place-index → IsRawKey l.keys (get_or l.indices j 0) (get_or (map g.K.NativeType.numbers l.raw.items) j []);
    }
