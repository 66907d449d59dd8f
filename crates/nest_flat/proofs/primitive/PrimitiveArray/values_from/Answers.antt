use Rattle.nest_flat.proofs.RawValues.{raw-shown, values-shown}
use Rattle.nest_flat.proofs.primitive.PrimitiveArray.values_from.Goals as goal

pub returns-clause-raw : goal.returns-clause-raw
returns-clause-raw g c = raw-shown g.T.NativeType.numbers _ _ _ c.args.self.now c.self.inside.values _ c.args.o c.args.n c.self.view_is c.as_slice-values.ensures

pub returns-clause-unmasked : goal.returns-clause-unmasked
returns-clause-unmasked g c = values-shown g.T.NativeType.numbers _ _ _ c.args.self.now c.self.inside.values _ c.args.o c.args.n c.self.view_is c.as_slice-values.ensures c.requires
