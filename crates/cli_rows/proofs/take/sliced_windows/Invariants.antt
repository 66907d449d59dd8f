use Rattle.std.proofs.Common.{◌≡◌, map, take}
use Rattle.std.specs.List.{flat_map}
use Rattle.nest_array.specs.Seen.{layout_of}
use Rattle.cli_rows.specs.Rows.{rows_in, rows_of}
use Rattle.cli_rows.proofs.take.sliced_windows.Given as goal

abbrev pub invariant-loop-window : goal.invariant-loop-window
invariant-loop-window l = flat_map rows_of (map layout_of l.arrays.items) ≡ flat_map rows_in (take l.window-index l.windows)
