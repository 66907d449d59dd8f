use Rattle.listcut_rows.proofs.Separated.{next_piece}
use Rattle.listcut_rows.proofs.Items.{items_stop, items_go}
use Rattle.listcut_rows.proofs.input.parse_items.Goals as goal

pub returns-in_default-parse_item : goal.returns-in_default-parse_item
returns-in_default-parse_item c =
    let s = c.split_at_byte in
    items_stop c.items.items.items c.items.rest c.in-Some.text s.result.0.now _ _ c.in-Some.is (next_piece 44 _ _ _ s.ensures.before s.ensures.complete) c.items.invariant _ c.parse_item.ensures c.in_default-parse_item.is

pub items-preserved : goal.items-preserved
items-preserved c =
    let s = c.split_at_byte in
    items_go c.items.items.items c.items.rest c.in-Some.text s.result.0.now _ _ c.in-Some.is (next_piece 44 _ _ _ s.ensures.before s.ensures.complete) c.items.invariant _ c.in-Some-parse_item.item _ c.parse_item.ensures c.in-Some-parse_item.is c.in_ok-push.ensures.items
