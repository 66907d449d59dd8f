use Rattle.std.specs.Prelude.{option_map}
use Rattle.std.proofs.Common.{refl}
use Rattle.nest_memory.specs.TypeTree.{size_of}
use Rattle.nest_model.specs.BuilderLevels.{own_slots}
use Rattle.nest_model.specs.BuilderTree.{fixed_size_list}
use Rattle.nest_build.specs.Nulled.{lists-tell, size-slot}
use Rattle.nest_build.proofs.fixed_size_list.mutable.MutableFixedSizeListArrayMutableArray.validity.Goals as goal

pub returns-clause-nulls : goal.returns-clause-nulls
returns-clause-nulls g c =
    let b = c.args.self.now in
    let items = g.M.MutableArray.model b.values in
    lists-tell (option_map (λ v. v.now) c.validity.result) b.rows (fixed_size_list b.data_type b.rows items) c.validity.ensures.bits refl (λ i l. size-slot 0 (size_of b.data_type) i b.rows (own_slots items) l)
