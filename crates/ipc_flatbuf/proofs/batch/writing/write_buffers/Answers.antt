use Rattle.ipc_flatbuf.specs.BatchLaws.{BufferFits}
use Rattle.ipc_flatbuf.proofs.Loops.{fits_done}
use Rattle.ipc_flatbuf.proofs.batch.writing.write_buffers.Goals as goal

pub returns-clause-fits : goal.returns-clause-fits
returns-clause-fits c = fits_done BufferFits c.args.buffers.now c.loop-buffer.buffer-index c.loop-buffer-test.false c.loop-buffer.invariant.fits
