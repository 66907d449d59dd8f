use Rattle.std.proofs.Common.{◌≡◌, ◌+◌, ◌^◌, ◌<◌, ◌≤◌, length}
use Rattle.nest_memory.specs.TypeTree as types
use Rattle.nest_model.specs.BuilderTree.{builder_len, builder_type}
use Rattle.nest_model.specs.BuilderLevels.{own_slots}
use Rattle.nest_model.specs.BuilderComplete.{IsComplete}
use Rattle.nest_model.specs.Layout.{layout_type}
use Rattle.listcut_rows.specs.Grammar.{lines_of, parsed_rows_after, parsed_rows}
use Rattle.listcut_rows.proofs.Lines.{with_rows}
use Rattle.listcut_rows.specs.RowsBuilder.{item_total, tree_of}
use Rattle.listcut_rows.proofs.input.push_rows.Given as goal

abbrev pub invariant-lines : goal.invariant-lines
invariant-lines l =
    let tree = tree_of l.rows.data_type l.rows.rows l.rows.values in
    record {
      so_far : with_rows (own_slots tree) (parsed_rows_after l.above (item_total tree) (lines_of l.rest)) ≡ parsed_rows l.bytes;
      complete : IsComplete tree;
      same_type : builder_type tree ≡ l.initial.rows.data_type;
      numbers : layout_type l.rows.values ≡ types.int64;
      few : item_total tree < 2 ^ 31;
      counted : builder_len tree ≡ l.above;
      room : l.above + length l.rest ≤ length l.bytes;
    }

abbrev pub decreases-lines : goal.decreases-lines
decreases-lines l = length l.rest
