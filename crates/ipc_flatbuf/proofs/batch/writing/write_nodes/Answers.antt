use Rattle.ipc_flatbuf.specs.BatchLaws.{NodeFits}
use Rattle.ipc_flatbuf.proofs.Loops.{fits_done}
use Rattle.ipc_flatbuf.proofs.batch.writing.write_nodes.Goals as goal

pub returns-clause-fits : goal.returns-clause-fits
returns-clause-fits c = fits_done NodeFits c.args.nodes.now c.loop-node.node-index c.loop-node-test.false c.loop-node.invariant.fits
