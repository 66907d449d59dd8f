use Rattle.std.proofs.Common.{◌≡◌, ◌∙◌, ◌+◌, refl, sym, ap, [], arith, option_map, length, inl, inr}
use Rattle.std.specs.Option.{option_copied}
use Rattle.std.proofs.lemmas.Bool.{eqb-true}
use Rattle.std.proofs.lemmas.List.{nil_from_length}
use Rattle.nest_model.specs.BuilderLevels.{own_slots}
use Rattle.nest_model.specs.BuilderAppendLaws.{len-accepted, type-accepted}
use Rattle.listcut_rows.specs.RowSlots.{slot_of_row}
use Rattle.listcut_rows.specs.Grammar.{lines_of, parsed_rows_after, parsed_rows}
use Rattle.listcut_rows.proofs.Lines.{lines_stop, lines_many, lines_next, rows_end, with_rows, with_no_rows}
use Rattle.listcut_rows.proofs.ItemsOfRow.{items-len}
use Rattle.listcut_rows.specs.RowsBuilder.{item_total, tree_of}
use Rattle.listcut_rows.proofs.BuilderRows.{row-last, row-items, row-type, row-fits, row-past}
use Rattle.listcut_rows.proofs.input.push_rows.Goals as goal

pub returns-in_default-clause-error : goal.returns-in_default-clause-error
returns-in_default-clause-error c =
    let tree = tree_of c.lines.rows.data_type c.lines.rows.rows c.lines.rows.values in
    lines_stop (own_slots tree) c.lines.above (item_total tree) c.lines.rest.now c.next_line.result.0.now c.next_line.result.1.now _ c.next_line.ensures.line c.lines.invariant.so_far
    (sym c.in_ok-row.ensures ∙ ap (option_map slot_of_row) c.in_default.is)

pub returns-in-Err-Overflow-clause-error : goal.returns-in-Err-Overflow-clause-error
returns-in-Err-Overflow-clause-error c =
    let old = c.lines.rows in
    let tree = tree_of old.data_type old.rows old.values in
    elim c.in-Err-Overflow.ensures.cause [
      | inl memory ↦ cc
      | inr some ↦
          lines_many (own_slots tree) c.lines.above (item_total tree) c.lines.rest.now c.next_line.result.0.now c.next_line.result.1.now _ c.next_line.ensures.line c.lines.invariant.so_far
          (slot_of_row c.in-Some.row) (sym c.in_ok-row.ensures ∙ ap (option_map slot_of_row) c.in-Some.is)
          (omega (arith, row-past old.data_type old.rows old.values (option_copied c.in-Some.row) c.lines.invariant.numbers _ c.lines.invariant.few (omega (arith, c.lines.invariant.counted)) some, items-len c.in-Some.row))
    ]

pub lines-preserved : goal.lines-preserved
lines-preserved c =
    let old = c.lines.rows in
    let items = old.values in
    let tree = tree_of old.data_type old.rows items in
    let row = option_copied c.in-Some.row in
    let is = c.lines.invariant.numbers in
    let grown = c.try_push_slice.new.self in
    let new = tree_of grown.data_type grown.rows grown.values in
    let pushed = c.in-Ok.ensures in
    let added = row-items old.data_type old.rows items row is new pushed.accepted in
    let few = row-fits old.data_type old.rows items row is c.lines.invariant.few pushed.unrefused in
    let same = items-len c.in-Some.row in
    record {
      so_far = ap (λ n. with_rows (own_slots new) (parsed_rows_after (c.lines.above + 1) n (lines_of c.next_line.result.1.now))) added
          ∙ lines_next (own_slots tree) _ c.lines.above (item_total tree) _ c.lines.rest.now c.next_line.result.0.now c.next_line.result.1.now _ (slot_of_row c.in-Some.row)
          c.next_line.ensures.line c.lines.invariant.so_far (sym c.in_ok-row.ensures ∙ ap (option_map slot_of_row) c.in-Some.is) same few (row-last old.data_type old.rows items row is new pushed.accepted);
      complete = pushed.accepted.complete;
      same_type = type-accepted _ _ _ pushed.accepted ∙ c.lines.invariant.same_type;
      numbers = row-type old.data_type old.rows items row is new pushed.accepted;
      few = omega (arith, few, added);
      counted = len-accepted _ _ _ pushed.accepted ∙ ap (λ n. n + 1) c.lines.invariant.counted;
      room = omega arith;
    }

pub lines-init : goal.lines-init
lines-init c = record {
  so_far = (λ i. with_rows (own_slots (tree_of c.args.rows.now.data_type (c.requires.no_rows i) c.args.rows.now.values)) (parsed_rows_after 0 (c.requires.no_items i) (lines_of c.args.bytes.now))) ∙ with_no_rows (parsed_rows c.args.bytes.now);
  complete = c.requires.complete;
  same_type = refl;
  numbers = c.requires.numbers;
  few = omega (arith, c.requires.no_items);
  counted = ap length c.requires.no_rows;
  room = omega arith;
}

pub returns-clause-rows : goal.returns-clause-rows
returns-clause-rows c =
    let done : c.lines.rest.now ≡ [] = nil_from_length _ (eqb-true _ _ (sym c.is_empty.ensures ∙ c.lines-test.false)) in
    let tree = tree_of c.lines.rows.data_type c.lines.rows.rows c.lines.rows.values in
    let front = own_slots tree in
    sym c.lines.invariant.so_far ∙ ap (λ l. with_rows front (parsed_rows_after c.lines.above (item_total tree) (lines_of l))) done ∙ rows_end front c.lines.above (item_total tree)
