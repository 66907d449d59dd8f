use Rattle.std.proofs.Common.{sym}
use Rattle.nest_any.proofs.RowLaws.{reserve-none}
use Rattle.nest_any.proofs.rows.TypedRows.room_for.Goals as goal

pub returns-in-List : goal.returns-in-List
returns-in-List c = λ d. rw c.in-List.is (sym (reserve-none d))

pub returns-in-LargeList : goal.returns-in-LargeList
returns-in-LargeList c = λ d. rw c.in-LargeList.is (sym (reserve-none d))
