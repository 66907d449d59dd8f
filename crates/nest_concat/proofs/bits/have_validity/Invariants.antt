use Rattle.std.proofs.Common.{◌≡◌, drop}
use Rattle.nest_concat.specs.Windows.{have_bits}
use Rattle.nest_concat.proofs.bits.have_validity.Given as goal

abbrev pub invariant-loop-window : goal.invariant-loop-window
invariant-loop-window l = have_bits (drop l.window-index l.windows) ≡ have_bits l.windows
