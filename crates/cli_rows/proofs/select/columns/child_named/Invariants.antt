use Rattle.std.proofs.Common.{◌≡◌, ◌≤◌, drop, length}
use Rattle.std.specs.Prelude.{string_bytes}
use Rattle.nest_memory.specs.TypeOf.{field_list_of}
use Rattle.nest_array.specs.Seen.{layouts_of}
use Rattle.cli_rows.specs.Conditions.{column_named}
use Rattle.cli_rows.proofs.select.columns.child_named.Given as goal

abbrev pub invariant-loop-i : goal.invariant-loop-i
invariant-loop-i l =
    (l.i ≤ length l.children)
    × (column_named (string_bytes l.name) (field_list_of l.fields) (layouts_of l.children) ≡ column_named (string_bytes l.name) (field_list_of (drop l.i l.fields)) (layouts_of (drop l.i l.children)))
