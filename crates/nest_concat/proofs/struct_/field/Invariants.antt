use Rattle.std.proofs.Common.{◌≡◌, ◌≤◌, length, take, map}
use Rattle.std.specs.Prelude.{vec_capacity}
use Rattle.nest_concat.specs.Joined.{AreArrays}
use Rattle.nest_concat.specs.Windows.{field_window}
use Rattle.nest_concat.proofs.struct_.field.Given as goal

abbrev pub invariant-loop-window : goal.invariant-loop-window
invariant-loop-window l =
    record {
      room : length l.windows ≤ vec_capacity l.fields;
      long : length l.fields.items ≡ l.window-index;
      gathered : l.fields.items ≡ map (field_window l.f) (take l.window-index l.windows);
      fit : AreArrays l.fields.items;
    }
