use Rattle.std.proofs.Common.{ap, sym}
use Rattle.nest_model.specs.Accessors.{validity_of}
use Rattle.nest_model.specs.Nullness.{is_null_at}
use Rattle.nest_model.specs.NullnessLaws.{null_count-none}
use Rattle.nest_array.proofs.union.UnionArray.null_count.Goals as goal

pub returns : goal.returns
returns c = sym (null_count-none c.args.self.now (ap (λ a. is_null_at a 0) c.known.ensures.kind) (ap validity_of c.known.ensures.kind))
