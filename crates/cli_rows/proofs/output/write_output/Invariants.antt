use Rattle.std.proofs.Common.{◌≡◌, List, ℕ, ◌++◌, length}
use Rattle.std.specs.Io.KnownBytes.{Appends}
use Rattle.cli_rows.proofs.output.write_output.Given as goal

abbrev pub invariant-bytes : goal.invariant-bytes
invariant-bytes g l = let contents = g.W.Write.contents in
    (front : List ℕ) × (l.bytes ≡ front ++ l.rest) × Appends (contents l.fn.writer) (contents l.writer) front

abbrev pub decreases-bytes : goal.decreases-bytes
decreases-bytes g l = length l.rest
