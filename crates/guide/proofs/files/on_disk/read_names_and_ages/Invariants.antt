use Rattle.std.proofs.Common.{◌≡◌}
use Rattle.guide.proofs.files.on_disk.read_names_and_ages.Given as goal

abbrev pub invariant-loop-i : goal.invariant-loop-i
invariant-loop-i l = l.reader.blocks ≡ l.initial.reader.blocks
