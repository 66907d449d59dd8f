use Rattle.std.specs.Fmt.{HasWritten, IsPlainFormatter}
use Rattle.ipc_schema.proofs.Supported.{path_of_last}
use Rattle.ipc_schema.proofs.field_support.write_path.Given as goal

abbrev pub invariant-loop-k : goal.invariant-loop-k
invariant-loop-k g l = IsPlainFormatter l.initial.f → HasWritten g.W.Write.write_str_gives l.initial.f (path_of_last l.k l.names) l.f
