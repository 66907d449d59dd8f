use Rattle.std.specs.Prelude.{false, true}
use Rattle.nest_any.proofs.RowLaws.{list_tells, fixed_tells, no-row}
use Rattle.nest_any.proofs.rows.TypedRows.validity.Goals as goal

pub returns-in-List-clause-nulls : goal.returns-in-List-clause-nulls
returns-in-List-clause-nulls c = λ d. rw c.in-List.is (list_tells false _ _ d _ c.validity.ensures.bits)

pub returns-in-List-clause-none : goal.returns-in-List-clause-none
returns-in-List-clause-none c = rw c.in-List.is (λ e. c.validity.ensures.none (no-row c.in-List.rows e))

pub returns-in-LargeList-clause-nulls : goal.returns-in-LargeList-clause-nulls
returns-in-LargeList-clause-nulls c = λ d. rw c.in-LargeList.is (list_tells true _ _ d _ c.validity-in-LargeList.ensures.bits)

pub returns-in-LargeList-clause-none : goal.returns-in-LargeList-clause-none
returns-in-LargeList-clause-none c = rw c.in-LargeList.is (λ e. c.validity-in-LargeList.ensures.none (no-row c.in-LargeList.rows e))

pub returns-in-FixedSizeList-clause-nulls : goal.returns-in-FixedSizeList-clause-nulls
returns-in-FixedSizeList-clause-nulls c = λ d. rw c.in-FixedSizeList.is (fixed_tells _ _ d _ c.validity-in-FixedSizeList.ensures.bits)

pub returns-in-FixedSizeList-clause-none : goal.returns-in-FixedSizeList-clause-none
returns-in-FixedSizeList-clause-none c = rw c.in-FixedSizeList.is (λ e. c.validity-in-FixedSizeList.ensures.none (no-row c.in-FixedSizeList.rows e))
