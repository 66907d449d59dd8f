use Rattle.ipc_schema.specs.FooterLaws.{BlockFits}
use Rattle.ipc_flatbuf.proofs.Loops.{fits_done}
use Rattle.ipc_schema.proofs.footer.writing.write_each.Goals as goal

pub returns-clause-fits : goal.returns-clause-fits
returns-clause-fits c = fits_done BlockFits c.args.blocks.now c.loop-block.block-index c.loop-block-test.false c.loop-block.invariant.fits
