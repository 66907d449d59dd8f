use Rattle.std.specs.Prelude.{true}
use Rattle.std.proofs.Common.{get_or}
use Rattle.nest_memory.specs.TypeTree.{size_of}
use Rattle.nest_model.specs.BuilderLevels.{own_slots}
use Rattle.nest_build.specs.Nulled.{size-slot, valid_or_not}
use Rattle.nest_build.proofs.fixed_size_list.mutable.MutableFixedSizeListArrayMutableArray.is_valid.Goals as goal

pub returns : goal.returns
returns g c =
    let b = c.args.self.now in
    let y = size-slot 0 (size_of b.data_type) c.args.i b.rows (own_slots (g.M.MutableArray.model b.values)) c.requires in
    valid_or_not (get_or b.rows c.args.i true) c.is_valid.result _ y.0 y.1 c.is_valid.ensures
