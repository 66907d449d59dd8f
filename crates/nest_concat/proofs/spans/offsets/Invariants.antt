use Rattle.std.specs.Prelude.{pos, map, take}
use Rattle.std.proofs.Common.{◌≡◌, sum}
use Rattle.std.specs.List.{flat_map, sum_by}
use Rattle.nest_concat.specs.Windows.{window_item_count, extents_in}
use Rattle.nest_concat.proofs.Pieces.{ends}
use Rattle.nest_concat.proofs.spans.offsets.Given as goal

abbrev pub invariant-loop-window : goal.invariant-loop-window
invariant-loop-window g l =
    record {
      gathered : map g.O.Offset.value l.ends.items ≡ map (λ n. pos n) (ends (flat_map extents_in (take l.window-index l.windows)));
      last : l.base ≡ sum_by window_item_count (take l.window-index l.windows);
      summed : l.base ≡ sum (flat_map extents_in (take l.window-index l.windows));
    }
