use Rattle.std.proofs.Common.{◌≡◌, take}
use Rattle.std.specs.List.{All}
use Rattle.nest_memory.specs.TypeOf.{type_of}
use Rattle.nest_array.specs.Seen.{layout_of}
use Rattle.nest_model.specs.Layout.{layout_type}
use Rattle.nest_concat.proofs.arrays.have_type.Given as goal

abbrev pub invariant-loop-array : goal.invariant-loop-array
invariant-loop-array l = All (λ a. layout_type (layout_of a) ≡ type_of l.data_type) (take l.array-index l.arrays)
