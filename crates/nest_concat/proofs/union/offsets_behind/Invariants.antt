use Rattle.std.proofs.Common.{◌≡◌, ℕ, ◌<◌, get_or, map, take}
use Rattle.nest_concat.specs.Moved.{AreFew, moved_offsets}
use Rattle.nest_concat.specs.Windows.{count_slots, field_window}
use Rattle.nest_concat.proofs.union.offsets_behind.Given as goal

abbrev pub invariant-loop-window : goal.invariant-loop-window
invariant-loop-window l =
    record {
      gathered : l.offsets.items ≡ moved_offsets (take l.window-index l.windows);
      counted : (f : ℕ) → f < l.n → get_or l.counts f 0 ≡ count_slots (map (field_window f) (take l.window-index l.windows));
      few : AreFew l.counts;
    }
