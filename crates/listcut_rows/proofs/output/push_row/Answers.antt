use Rattle.std.proofs.Common.{◌≡◌, ◌++◌, ◌∙◌, sym, ap, true, false}
use Rattle.nest_memory.specs.Sublist.{sublist}
use Rattle.nest_model.specs.Slot.{null}
use Rattle.nest_model.specs.Layout.{Layout, layout_type}
use Rattle.nest_model.specs.Meaning.{slot, slots_of}
use Rattle.nest_model.specs.Accessors.{validity_of}
use Rattle.nest_array.specs.WindowParts.{WindowParts, window_slots}
use Rattle.listcut_rows.proofs.ItemTypes.{items-typed}
use Rattle.listcut_rows.proofs.RowTexts.{joined_items, row-pushed}
use Rattle.listcut_rows.proofs.output.push_row.Goals as goal

pub numbers-requires : goal.numbers-requires
numbers-requires c =
    ap layout_type (c.array.ensures ∙ ap (λ (w : WindowParts). w.array) c.window-row.ensures.parts) ∙ items-typed c.args.rows.now _ c.known.ensures.kind c.known.ensures.fits c.requires.numbers

pub returns : goal.returns
returns c =
    let rows = c.args.rows.now in
    let w = c.window-row.result in
    let some : slot rows c.args.i ≡ null → ⊥ = λ nothing. let clash : false ≡ true = sym c.if-is_null.false ∙ c.is_null.ensures.slot.1 nothing in cc in
    let opened = c.push.new.self.items in
    row-pushed _ _ _ _ (validity_of rows) c.args.i (slot rows c.args.i) (window_slots w) c.window-row.ensures.items some c.in_ok-push.ensures.items
    (c.in_ok-push_items.ensures
    ∙ ap (λ (a : Layout). opened ++ joined_items (sublist (slots_of a) c.offset.result c.len.result)) (c.numbers.ensures ∙ c.array.ensures)
    ∙ ap (λ o. opened ++ joined_items (sublist (slots_of w.array) o c.len.result)) c.offset.ensures
    ∙ ap (λ n. opened ++ joined_items (sublist (slots_of w.array) w.offset n)) c.len.ensures)
    c.in_ok-push-2.ensures.items
