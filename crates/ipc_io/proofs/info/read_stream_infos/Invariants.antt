use Rattle.std.specs.Option.{option_map}
use Rattle.ipc_io.specs.Infos.{infos_in, prefixed}
use Rattle.ipc_io.proofs.InfoLists.{Goes}
use Rattle.ipc_io.proofs.info.read_stream_infos.Given as goal

abbrev pub invariant-messages : goal.invariant-messages
invariant-messages g l = let remaining = g.R.Read.remaining in
    Goes (option_map (λ xs. prefixed l.fn.infos.items (infos_in xs)) (remaining l.fn.reader)) l.infos.items (option_map infos_in (remaining l.reader))
