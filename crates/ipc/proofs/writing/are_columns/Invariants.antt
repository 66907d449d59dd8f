use Rattle.std.proofs.Common.{◌≡◌, length, map, drop}
use Rattle.nest_memory.specs.TypeOf.{field_of}
use Rattle.nest_memory.specs.TypeTree.{field_type}
use Rattle.nest_array.specs.Seen.{layout_of}
use Rattle.ipc.specs.EncodedStreams.{spec_are_columns}
use Rattle.ipc.proofs.writing.are_columns.Given as goal

abbrev pub invariant-loop-i : goal.invariant-loop-i
invariant-loop-i l =
    record {
      so_many : length l.fields ≡ length l.columns;
      left : spec_are_columns (map field_type (map field_of (drop l.i l.fields))) l.rows (map layout_of (drop l.i l.columns)) ≡ spec_are_columns (map field_type (map field_of l.fields)) l.rows (map layout_of l.columns);
    }
