use Rattle.std.proofs.lemmas.Result.{err_from_is_err_and}
use Rattle.ipc.specs.Streams.{state_of}
use Rattle.ipc_io.proofs.FileSteps.{was_kept, batch_unread, block_there, batch_is, batch_fails}
use Rattle.ipc_io.proofs.file_reader.FileReader.batch.Goals as goal

pub returns-in_err-own-clause-batch : goal.returns-in_err-own-clause-batch
returns-in_err-own-clause-batch g c =
    let p = err_from_is_err_and c.from_residual.result c.from_residual.ensures.1 in
    rw (p.1, p.2) (batch_unread g.R.Seek.stream_position g.R.Seek.stream_bytes _ c.args.i c.in_err-own.field-0.0 c.in_err-own.ensures.err)

pub returns-in_err-own-clause-still : goal.returns-in_err-own-clause-still
returns-in_err-own-clause-still g c = was_kept g.R.Seek.stream_position g.R.Seek.stream_bytes _ c.self.inside.inner c.read_block.new.reader (state_of c.self.inside.state) c.self.inside.blocks.items c.self.view_is c.read_block.ensures.kept

pub returns-in-Ok-clause-batch : goal.returns-in-Ok-clause-batch
returns-in-Ok-clause-batch g c =
    let there = block_there g.R.Seek.stream_position g.R.Seek.stream_bytes _ c.self.inside.inner (state_of c.self.inside.state) c.self.inside.blocks.items c.args.i c.index-block.result.now c.self.view_is c.requires c.index-block.ensures in
    batch_is g.R.Seek.stream_position g.R.Seek.stream_bytes _ c.self.inside.inner (state_of c.self.inside.state) c.self.inside.blocks.items c.args.i c.index-block.result.now c.in_ok-own.own.items c.deref.result.now c.in-Ok.batch c.self.view_is there c.in_ok-own.ensures.own c.deref.ensures.value c.in-Ok.ensures

pub returns-in-Ok-clause-still : goal.returns-in-Ok-clause-still
returns-in-Ok-clause-still g c = was_kept g.R.Seek.stream_position g.R.Seek.stream_bytes _ c.self.inside.inner c.read_block.new.reader (state_of c.self.inside.state) c.self.inside.blocks.items c.self.view_is c.read_block.ensures.kept

pub returns-clause-batch : goal.returns-clause-batch
returns-clause-batch g c =
    let there = block_there g.R.Seek.stream_position g.R.Seek.stream_bytes _ c.self.inside.inner (state_of c.self.inside.state) c.self.inside.blocks.items c.args.i c.index-block.result.now c.self.view_is c.requires c.index-block.ensures in
    batch_fails g.R.Seek.stream_position g.R.Seek.stream_bytes _ c.self.inside.inner (state_of c.self.inside.state) c.self.inside.blocks.items c.args.i c.index-block.result.now c.in_ok-own.own.items c.deref.result.now c.in-Err.error c.self.view_is there c.in_ok-own.ensures.own c.deref.ensures.value c.in-Err.ensures

pub returns-clause-still : goal.returns-clause-still
returns-clause-still g c = was_kept g.R.Seek.stream_position g.R.Seek.stream_bytes _ c.self.inside.inner c.read_block.new.reader (state_of c.self.inside.state) c.self.inside.blocks.items c.self.view_is c.read_block.ensures.kept
