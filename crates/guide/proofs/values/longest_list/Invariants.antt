use Rattle.std.proofs.Common.{◌≡◌, max}
use Rattle.nest_model.specs.Meaning.{run, slot, slots_of}
use Rattle.guide.specs.Columns.{max_list_length}
use Rattle.guide.proofs.values.longest_list.Given as goal

abbrev pub invariant-loop-row : goal.invariant-loop-row
invariant-loop-row l = record {
  same : l.row-iterator.array ≡ l.lists;
  so_far : max l.longest (max_list_length (run (slot l.lists) l.row-iterator.front l.row-iterator.count)) ≡ max_list_length (slots_of l.lists);
}
