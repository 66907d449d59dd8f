use Rattle.std.proofs.Common.{◌≡◌, ◌^◌, ◌*◌, ◌<◌, length, pos, ◌+ℤ◌, ◌≤ℤ◌}
use Rattle.nest_model.specs.Meaning.{slots_of}
use Rattle.guide.specs.Columns.{total}
use Rattle.guide.proofs.values.sum.Given as goal

abbrev pub invariant-loop-number : goal.invariant-loop-number
invariant-loop-number l = record {
  so_far : (l.sum +ℤ total l.number-iterator) ≡ total (slots_of l.numbers);
  low : pos (length l.number-iterator * 2 ^ 63) ≤ℤ (l.sum +ℤ pos (length (slots_of l.numbers) * 2 ^ 63));
  high : (l.sum +ℤ pos (length l.number-iterator * 2 ^ 63)) ≤ℤ pos (length (slots_of l.numbers) * 2 ^ 63);
  few : length (slots_of l.numbers) < 2 ^ 64;
}
