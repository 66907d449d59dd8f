use Rattle.std.proofs.Common.{ap, sym}
use Rattle.nest_model.specs.Nullness.{is_null_at}
use Rattle.nest_array.proofs.Picks.{never-null}
use Rattle.nest_array.proofs.union.UnionArray.is_null.Goals as goal

pub returns-clause-slot : goal.returns-clause-slot
returns-clause-slot c = (λ t. cc, λ e. absurd (never-null c.args.self.now c.args.i c.known.ensures.fits c.known.ensures.kind c.requires e))

pub returns-clause-place : goal.returns-clause-place
returns-clause-place c = sym (ap (λ a. is_null_at a c.args.i) c.known.ensures.kind)
