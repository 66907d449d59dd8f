use Rattle.nest_model.specs.Accessors.{validity_of}
use Rattle.nest_array.specs.RowSlots.{EachValid}
use Rattle.nest_array.proofs.equal.is_full.Given as goal

abbrev pub invariant-loop-k : goal.invariant-loop-k
invariant-loop-k g l = EachValid (validity_of (g.A.ArrayParts.parts l.a)) l.o l.k
