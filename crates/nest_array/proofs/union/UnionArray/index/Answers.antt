use Rattle.nest_array.proofs.Picks.{picks-field}
use Rattle.nest_array.proofs.union.UnionArray.index.Goals as goal

pub returns-clause-field_there : goal.returns-clause-field_there
returns-clause-field_there c = (picks-field c.args.self.now c.args.i _ c.known.ensures.fits c.known.ensures.kind c.requires c.field.ensures).field_there

pub returns-clause-slot_there : goal.returns-clause-slot_there
returns-clause-slot_there c = rw c.place.ensures ((picks-field c.args.self.now c.args.i _ c.known.ensures.fits c.known.ensures.kind c.requires c.field.ensures).slot_there)

pub returns-clause-picks : goal.returns-clause-picks
returns-clause-picks c = rw c.place.ensures ((picks-field c.args.self.now c.args.i _ c.known.ensures.fits c.known.ensures.kind c.requires c.field.ensures).picks)
