use Rattle.std.proofs.Common.{◌≡◌, ◌-◌, length}
use Rattle.nest_any.specs.Trees.{tree_of}
use Rattle.nest_any.specs.Words.{IsComplete, builder_type, own_slots}
use Rattle.json_read.proofs.RowLaws.{Read}
use Rattle.json_read.specs.JsonLines.{line_row}
use Rattle.json_read.proofs.lines.push_lines.Given as goal

abbrev pub invariant-lines : goal.invariant-lines
invariant-lines l =
    let t = builder_type (tree_of l.initial.builder) in
    record {
      read : Read (line_row t) l.text l.limit l.used l.lines (own_slots (tree_of l.builder));
      complete : IsComplete (tree_of l.builder);
      same_type : builder_type (tree_of l.builder) ≡ t;
    }

abbrev pub decreases-lines : goal.decreases-lines
decreases-lines l = length l.text - l.used
