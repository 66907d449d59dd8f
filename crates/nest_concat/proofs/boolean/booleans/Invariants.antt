use Rattle.std.proofs.Common.{◌≡◌, length, take}
use Rattle.std.specs.List.{flat_map, sum_by}
use Rattle.nest_concat.specs.Windows.{booleans_in, count_of}
use Rattle.nest_concat.proofs.boolean.booleans.Given as goal

abbrev pub invariant-loop-window : goal.invariant-loop-window
invariant-loop-window l =
    record {
      gathered : l.taken ≡ flat_map booleans_in (take l.window-index l.windows);
      long : length l.taken ≡ sum_by count_of (take l.window-index l.windows);
    }
