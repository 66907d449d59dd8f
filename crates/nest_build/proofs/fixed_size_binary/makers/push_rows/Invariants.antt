use Rattle.std.proofs.Common.{◌≡◌, take, map}
use Rattle.nest_flat.specs.FlatParts.{optional}
use Rattle.nest_flat.specs.Growth.{is_masked}
use Rattle.nest_model.specs.Layout.{layout_type}
use Rattle.nest_model.specs.Meaning.{slots_of}
use Rattle.nest_model.specs.Slot as slots
use Rattle.nest_flat.specs.Slices.{has_null}
use Rattle.nest_build.proofs.fixed_size_binary.makers.push_rows.Given as goal

abbrev pub invariant-loop-item : goal.invariant-loop-item
invariant-loop-item g l =
    record {
      slots : slots_of l.builder ≡ map (optional slots.bytes) (take l.item-index l.items);
      masked : is_masked l.builder ≡ has_null (take l.item-index l.items);
      same_type : layout_type l.builder ≡ layout_type l.fn.builder;
    }
