use Rattle.std.proofs.Common.{◌+◌, ◌*◌}
use Rattle.nest_array.specs.Seen.{layout_of, layouts_of}
use Rattle.nest_model.specs.Layout.{weight, weight_all}
use Rattle.promises.proofs.Children.{FitBefore}
use Rattle.promises.proofs.arrays.levels.+levels.Given as goal

abbrev pub invariant-fit_at_every_level-loop-array : goal.invariant-fit_at_every_level-loop-array
invariant-fit_at_every_level-loop-array l =
    FitBefore l.arrays l.array-index

abbrev pub decreases-fits_at_every_level : goal.decreases-fits_at_every_level
decreases-fits_at_every_level l = 2 * weight (layout_of l.array.now) + 1

abbrev pub decreases-fit_at_every_level : goal.decreases-fit_at_every_level
decreases-fit_at_every_level l = 2 * weight_all (layouts_of l.arrays.now) + 1

abbrev pub decreases-fits_in_list : goal.decreases-fits_in_list
decreases-fits_in_list l = 2 * weight l.array.now

abbrev pub decreases-fits_in_large_list : goal.decreases-fits_in_large_list
decreases-fits_in_large_list l = 2 * weight l.array.now

abbrev pub decreases-fits_in_fixed_size_list : goal.decreases-fits_in_fixed_size_list
decreases-fits_in_fixed_size_list l = 2 * weight l.array.now

abbrev pub decreases-fits_in_map : goal.decreases-fits_in_map
decreases-fits_in_map l = 2 * weight l.array.now

abbrev pub decreases-fits_in_dictionary : goal.decreases-fits_in_dictionary
decreases-fits_in_dictionary l = 2 * weight l.array.now

abbrev pub decreases-fits_in_struct : goal.decreases-fits_in_struct
decreases-fits_in_struct l = 2 * weight l.array.now

abbrev pub decreases-fits_in_union : goal.decreases-fits_in_union
decreases-fits_in_union l = 2 * weight l.array.now
