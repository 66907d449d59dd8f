use Rattle.ipc_io.specs.Infos.{block_infos_in}
use Rattle.ipc_io.specs.Seeks.{bytes_of}
use Rattle.ipc_io.proofs.BlockInfos.{block_fails, block_read, blocks_end}
use Rattle.ipc_io.proofs.InfoLists.{goes_first, goes_on, goes_to_end, goes_wrong, infos_unread}
use Rattle.ipc_io.proofs.Ranges.{kept_on, kept_same}
use Rattle.ipc_io.proofs.info.read_block_infos.Goals as goal

pub loop-block-init : goal.loop-block-init
loop-block-init g c =
    let known = bytes_of g.R.Seek.stream_position g.R.Seek.stream_bytes c.args.reader.now in
    record {
      kept = kept_same known;
      on = goes_first c.args.infos.now.items (block_infos_in c.args.wanted c.args.blocks.now) known;
    }

pub returns-in-Err-clause-read : goal.returns-in-Err-clause-read
returns-in-Err-clause-read g c =
    let l = c.loop-block in
    goes_wrong _ _ _ _ c.in-Err.error l.invariant.on (block_fails c.args.wanted c.args.blocks.now l.block-index _ _ c.in-Err.error c.loop-block-test.true l.invariant.kept c.in-Err.ensures.info)

pub returns-in-Err-clause-kept : goal.returns-in-Err-clause-kept
returns-in-Err-clause-kept g c = kept_on _ _ _ c.loop-block.invariant.kept c.read_block_info.ensures.kept

pub returns-in-Err-push_info-clause-read : goal.returns-in-Err-push_info-clause-read
returns-in-Err-push_info-clause-read g c = infos_unread _ _ c.in-Err-push_info.error c.in-Err-push_info.ensures.error

pub returns-in-Err-push_info-clause-kept : goal.returns-in-Err-push_info-clause-kept
returns-in-Err-push_info-clause-kept g c = kept_on _ _ _ c.loop-block.invariant.kept c.read_block_info.ensures.kept

pub loop-block-preserved : goal.loop-block-preserved
loop-block-preserved g c =
    let l = c.loop-block in
    record {
      kept = kept_on _ _ _ l.invariant.kept c.read_block_info.ensures.kept;
      on = goes_on _ _ _ _ _ c.in-Ok.info l.invariant.on (block_read c.args.wanted c.args.blocks.now l.block-index _ _ c.in-Ok.info c.loop-block-test.true l.invariant.kept c.in-Ok.ensures.info) c.in-Ok-push_info.ensures.pushed;
    }

pub returns-clause-read : goal.returns-clause-read
returns-clause-read g c =
    let l = c.loop-block in
    goes_to_end _ _ _ _ l.invariant.on (blocks_end c.args.wanted c.args.blocks.now l.block-index _ c.loop-block-test.false)
