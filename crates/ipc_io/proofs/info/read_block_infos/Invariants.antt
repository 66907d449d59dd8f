use Rattle.std.specs.Io.KnownBytes.{Keeps}
use Rattle.std.specs.Option.{option_map}
use Rattle.ipc_io.specs.Infos.{block_infos_in, prefixed}
use Rattle.ipc_io.specs.Seeks.{known}
use Rattle.ipc_io.proofs.BlockInfos.{infos_from}
use Rattle.ipc_io.proofs.InfoLists.{Goes}
use Rattle.ipc_io.proofs.info.read_block_infos.Given as goal

abbrev pub invariant-loop-block : goal.invariant-loop-block
invariant-loop-block g l =
    let position = g.R.Seek.stream_position in
    let bytes = g.R.Seek.stream_bytes in
    record {
      kept : Keeps (known (position l.fn.reader) (bytes l.fn.reader)) (known (position l.reader) (bytes l.reader));
      on : Goes (option_map (λ xs. prefixed l.fn.infos.items (block_infos_in l.wanted l.blocks xs)) (known (position l.fn.reader) (bytes l.fn.reader))) l.infos.items (infos_from l.wanted l.blocks l.block-index (known (position l.fn.reader) (bytes l.fn.reader)));
    }
