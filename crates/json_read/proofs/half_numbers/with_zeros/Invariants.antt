use Rattle.std.proofs.Common.{◌≡◌, ◌*◌, ◌^◌, ◌<◌}
use Rattle.json_read.proofs.half_numbers.with_zeros.Given as goal

abbrev pub invariant-loop-zero : goal.invariant-loop-zero
invariant-loop-zero l = (l.total ≡ l.value * 10 ^ l.zero) × (l.total < 2 ^ 100)
