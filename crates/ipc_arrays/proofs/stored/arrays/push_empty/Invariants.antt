use Rattle.std.proofs.Common.{◌≡◌, []}
use Rattle.std.specs.Prelude.{replicate}
use Rattle.ipc_arrays.specs.Stored.{with_contents, laid_of}
use Rattle.ipc_arrays.proofs.stored.arrays.push_empty.Given as goal

abbrev pub invariant-loop-i : goal.invariant-loop-i
invariant-loop-i l = laid_of l.plain ≡ with_contents (laid_of l.initial.plain) (replicate l._i [])
