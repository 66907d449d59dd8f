use Rattle.std.proofs.Common.{◌≡◌, map}
use Rattle.listcut_rows.specs.RowSlots.{item_slot}
use Rattle.listcut_rows.specs.Grammar.{parsed_item, parsed_items, all_of}
use Rattle.listcut_rows.proofs.Separated.{pieces_left, size_left, with_front}
use Rattle.listcut_rows.proofs.input.parse_items.Given as goal

abbrev pub invariant-items : goal.invariant-items
invariant-items l = with_front (map item_slot l.items.items) (all_of (map parsed_item (pieces_left 44 l.rest))) ≡ parsed_items l.bytes

abbrev pub decreases-items : goal.decreases-items
decreases-items l = size_left l.rest
