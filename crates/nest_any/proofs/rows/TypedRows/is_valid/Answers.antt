use Rattle.std.specs.Prelude.{false, true}
use Rattle.nest_any.proofs.RowLaws.{list_valid, fixed_valid}
use Rattle.nest_any.proofs.rows.TypedRows.is_valid.Goals as goal

pub returns-in-List : goal.returns-in-List
returns-in-List c =
    let l = rw c.in-List.is at c.requires in
    λ d. rw c.in-List.is (list_valid false c.in-List.field-0 c.in-List.rows d c.args.i _ l c.is_valid.ensures)

pub returns-in-LargeList : goal.returns-in-LargeList
returns-in-LargeList c =
    let l = rw c.in-LargeList.is at c.requires in
    λ d. rw c.in-LargeList.is (list_valid true c.in-LargeList.field-0 c.in-LargeList.rows d c.args.i _ l c.is_valid-in-LargeList.ensures)

pub returns-in-FixedSizeList : goal.returns-in-FixedSizeList
returns-in-FixedSizeList c =
    let l = rw c.in-FixedSizeList.is at c.requires in
    λ d. rw c.in-FixedSizeList.is (fixed_valid c.in-FixedSizeList.field-0 c.in-FixedSizeList.rows d c.args.i _ l c.is_valid-in-FixedSizeList.ensures)
