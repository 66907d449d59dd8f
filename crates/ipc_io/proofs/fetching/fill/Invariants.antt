use Rattle.std.proofs.Common.{◌≡◌, ◌+◌, List, ℕ, ◌++◌, length}
use Rattle.std.specs.Io.KnownBytes.{Consumes}
use Rattle.ipc_io.proofs.fetching.fill.Given as goal

abbrev pub invariant-reads : goal.invariant-reads
invariant-reads g l = let remaining = g.R.Read.remaining in
    (more : List ℕ) × (l.buf.items ≡ l.initial.buf.items ++ more) × Consumes (remaining l.fn.reader) (remaining l.reader) more × (length more + l.left ≡ l.want) × (length l.buffer ≡ 16384)

abbrev pub decreases-reads : goal.decreases-reads
decreases-reads g l = l.left
