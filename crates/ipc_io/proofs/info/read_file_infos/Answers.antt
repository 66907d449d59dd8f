use Rattle.ipc_flatbuf.specs.declared.message.types.MessageKind.TheVariants.{DictionaryBatch, RecordBatch}
use Rattle.ipc_io.specs.Infos.{block_infos_in}
use Rattle.ipc_io.proofs.InfoLists.{joined_fails, joined_goes}
use Rattle.ipc_io.proofs.info.read_file_infos.Goals as goal

pub returns-in-Err : goal.returns-in-Err
returns-in-Err g c =
    joined_fails c.args.infos.now.items c.read_block_infos.new.infos.items (block_infos_in DictionaryBatch c.args.dictionaries.now) (block_infos_in RecordBatch c.args.batches.now) _ c.in-Err.error c.in-Err.ensures.read

pub returns-in-Ok : goal.returns-in-Ok
returns-in-Ok g c =
    joined_goes c.args.infos.now.items c.read_block_infos.new.infos.items (block_infos_in DictionaryBatch c.args.dictionaries.now) (block_infos_in RecordBatch c.args.batches.now) _ _ _ c.read_block_infos-in-Ok.result c.in-Ok.ensures.read c.read_block_infos.ensures.kept c.read_block_infos-in-Ok.ensures.read
