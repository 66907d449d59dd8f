use Rattle.std.proofs.Common.{map}
use Rattle.std.specs.Option.{option_copied}
use Rattle.nest_memory.specs.TypeTree.{size_of}
use Rattle.nest_model.specs.Layout.{layout_type}
use Rattle.nest_array.specs.FixedBytes.{IsMadeOf}
use Rattle.nest_build.proofs.fixed_size_binary.makers.push_items.Given as goal

abbrev pub invariant-loop-item : goal.invariant-loop-item
invariant-loop-item g l =
    (goal.iterator-loop-item g).can_next l.item-iterator ×
    (goal.iterator-loop-item g).is_finite l.item-iterator ×
    IsMadeOf (size_of (layout_type l.fn.builder)) (map option_copied l.yielded) l.builder
