use Rattle.std.proofs.Common.{◌≡◌, ◌+◌, ◌*◌}
use Rattle.nest_model.specs.Accessors.{child_of}
use Rattle.nest_model.specs.Layout.{weight, weight_all}
use Rattle.nest_model.specs.Meaning.{run, slot}
use Rattle.nest_model.specs.Slot.{node_counts}
use Rattle.nest_array.specs.RowSlots.{children_nodes}
use Rattle.nest_array.specs.Seen.{layout_of, layouts_of}
use Rattle.nest_array.specs.SeenLists.{lists_layout}
use Rattle.nest_array.proofs.SameRows.{Left}
use Rattle.nest_array.proofs.equal.+equal.Given as goal

abbrev pub decreases-same_run : goal.decreases-same_run
decreases-same_run l = 6 * weight (layout_of l.a.now) + 5

abbrev pub decreases-same_rows : goal.decreases-same_rows
decreases-same_rows l = 6 * weight (child_of (lists_layout l.xs.now)) + 8

abbrev pub decreases-each_same_row : goal.decreases-each_same_row
decreases-each_same_row l = 6 * weight (child_of (lists_layout l.xs.now)) + 7

abbrev pub decreases-same_row : goal.decreases-same_row
decreases-same_row l = 6 * weight (layout_of l.items.now) + 6

abbrev pub decreases-records::same_records : goal.decreases-records::same_records
decreases-records::same_records l = 6 * weight l.x.now + 4

abbrev pub decreases-records::each_same_record : goal.decreases-records::each_same_record
decreases-records::each_same_record l = 6 * weight l.x.now + 3

abbrev pub decreases-records::is_same_record : goal.decreases-records::is_same_record
decreases-records::is_same_record l = 6 * weight l.x.now + 2

abbrev pub decreases-records::same_children : goal.decreases-records::same_children
decreases-records::same_children l = 6 * weight_all (layouts_of l.xs.now) + 6

abbrev pub decreases-picks::same_picks : goal.decreases-picks::same_picks
decreases-picks::same_picks l = 6 * weight l.x.now + 4

abbrev pub decreases-picks::is_same_pick : goal.decreases-picks::is_same_pick
decreases-picks::is_same_pick l = 6 * weight l.x.now + 3

abbrev pub invariant-each_same_row-loop-k : goal.invariant-each_same_row-loop-k
invariant-each_same_row-loop-k l =
    record {
      same : run (slot (lists_layout l.xs)) l.o l.k ≡ run (slot (lists_layout l.ys)) l.p l.k;
      comparisons : l.steps ≡ l.initial.steps + node_counts (run (slot (lists_layout l.xs)) l.o l.k);
    }

abbrev pub invariant-records::each_same_record-loop-k : goal.invariant-records::each_same_record-loop-k
invariant-records::each_same_record-loop-k l =
    record {
      same : run (slot l.x) l.o l.k ≡ run (slot l.y) l.p l.k;
      comparisons : l.steps ≡ l.initial.steps + node_counts (run (slot l.x) l.o l.k);
    }

abbrev pub invariant-records::same_children-loop-x : goal.invariant-records::same_children-loop-x
invariant-records::same_children-loop-x l =
    record {
      left : Left l.xs l.ys l.x-iterator.a.rest.now l.x-iterator.b.rest.now l.o l.p l.n;
      comparisons : l.steps + children_nodes (layouts_of l.x-iterator.a.rest.now) l.o l.n ≡ l.initial.steps + children_nodes (layouts_of l.xs) l.o l.n;
    }

abbrev pub invariant-picks::same_picks-loop-k : goal.invariant-picks::same_picks-loop-k
invariant-picks::same_picks-loop-k l =
    record {
      same : run (slot l.x) l.o l.k ≡ run (slot l.y) l.p l.k;
      comparisons : l.steps ≡ l.initial.steps + node_counts (run (slot l.x) l.o l.k);
    }

abbrev pub decreases-keyed::same_keyed : goal.decreases-keyed::same_keyed
decreases-keyed::same_keyed l = 6 * weight l.x.now + 4

abbrev pub decreases-keyed::is_same_keyed : goal.decreases-keyed::is_same_keyed
decreases-keyed::is_same_keyed l = 6 * weight l.x.now + 3

abbrev pub invariant-keyed::same_keyed-loop-k : goal.invariant-keyed::same_keyed-loop-k
invariant-keyed::same_keyed-loop-k l =
    record {
      same : run (slot l.x) l.o l.k ≡ run (slot l.y) l.p l.k;
      comparisons : l.steps ≡ l.initial.steps + node_counts (run (slot l.x) l.o l.k);
    }
