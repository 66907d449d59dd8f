use Rattle.std.proofs.Common.{◌+◌, arith}
use Rattle.nest_scan.proofs.Records.{children-cover}
use Rattle.nest_scan.proofs.struct_.RefStructArrayTryElements.item.Goals as goal

pub scalars_at-requires : goal.scalars_at-requires
scalars_at-requires c = children-cover c.args.self.now.now _ (c.args.i + 1) c.known.ensures.fits c.known.ensures.kind c.values.ensures (omega arith)
