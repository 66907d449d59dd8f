use Rattle.std.proofs.Common.{◌*◌, ◌+◌, take}
use Rattle.nest_model.specs.Layout.{weight, weight_all}
use Rattle.nest_array.specs.Seen.{layout_of, layouts_of}
use Rattle.ipc.specs.EntriesOf.{by_id, borrowed_entries_of}
use Rattle.ipc.specs.Visited.{AreVisited}
use Rattle.ipc.proofs.dictionaries.pending.+visit.Given as goal

abbrev pub decreases-visit : goal.decreases-visit
decreases-visit l = 2 * weight (layout_of l.array.now) + 1

abbrev pub decreases-visit_dictionary : goal.decreases-visit_dictionary
decreases-visit_dictionary l = 2 * weight l.array.now

abbrev pub decreases-visit_each : goal.decreases-visit_each
decreases-visit_each l = 2 * weight_all (layouts_of l.arrays.now)

abbrev pub invariant-visit_each-loop-array : goal.invariant-visit_each-loop-array
invariant-visit_each-loop-array l = AreVisited (by_id l.emitted.entries) l.initial.next (layouts_of (take l.array-index l.arrays)) (borrowed_entries_of l.initial.found.items) (borrowed_entries_of l.found.items) l.next
