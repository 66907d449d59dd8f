use Rattle.std.proofs.Common.{◌≡◌, ◌++◌, length}
use Rattle.json_read.specs.FlatValues.{are_hex_pairs, bytes_of_hex}
use Rattle.json_read.proofs.hexadecimal.bytes_of.Given as goal

abbrev pub invariant-loop-left : goal.invariant-loop-left
invariant-loop-left l = record { bytes : l.bytes.items ++ bytes_of_hex l.left ≡ bytes_of_hex l.fn.text; pairs : are_hex_pairs l.left ≡ are_hex_pairs l.fn.text }

abbrev pub decreases-loop-left : goal.decreases-loop-left
decreases-loop-left l = length l.left
