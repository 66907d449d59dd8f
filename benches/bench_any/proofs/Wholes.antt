-- Builders whose children are whole stay so where children are written over, and where a row is added.
use Rattle.std.specs.Prelude.{Err, Ok, OnErr, OnOk, Result, true}
use Rattle.std.proofs.Common.{◌≡◌, ℕ, sym, subst}
use Rattle.nest_model.specs.BuilderAddRow.{RowAdded, AreEachComplete, HasCompleteChildren}
use Rattle.nest_model.specs.BuilderTree.{BuilderTree, BuilderTrees, flat, list, fixed_size_list, dictionary, struct, no_builders, more_builders}
use Rattle.nest_model.specs.BuilderComplete.{AreComplete, IsComplete}
use Rattle.nest_any.specs.Lent.{with_children, written_over}

each_over : (cs ds : BuilderTrees) → AreEachComplete cs → AreEachComplete ds → AreEachComplete (written_over cs ds)
each_over no_builders ds h g = tt
each_over (more_builders c cs) no_builders h g = h
each_over (more_builders c cs) (more_builders d ds) h g = (g.0, each_over cs ds h.1 g.1)

pub whole_over : (b : BuilderTree) (ds : BuilderTrees) → HasCompleteChildren b → AreEachComplete ds → HasCompleteChildren (with_children b ds)
whole_over (flat t xs) ds h g = h
whole_over (list large t rows c) ds h g = h
whole_over (fixed_size_list t bits c) ds h g = h
whole_over (dictionary k t keys c) ds h g = h
whole_over (struct t bits cs) ds h g = each_over cs ds h g

each_of : (cs : BuilderTrees) (n : ℕ) → AreComplete cs n → AreEachComplete cs
each_of no_builders n h = tt
each_of (more_builders c cs) n h = (h.0, each_of cs n h.2)

whole_children : (b : BuilderTree) → IsComplete b → HasCompleteChildren b
whole_children (flat t xs) h = tt
whole_children (list large t rows c) h = (h.0, h.3)
whole_children (fixed_size_list t bits c) h = h.0
whole_children (dictionary k t keys c) h = h.0
whole_children (struct t bits cs) h = each_of cs _ h.0

-- a row added, or refused
pub stays : {A E : Type 0} (r : Result A E) (b d : BuilderTree) → HasCompleteChildren b → OnOk r (RowAdded true b d) → OnErr r (d ≡ b) → HasCompleteChildren d
stays (Ok x) b d h k e = whole_children d k.whole
stays (Err x) b d h k e = subst HasCompleteChildren (sym e) h
