use Rattle.std.specs.Prelude.{false, true}
use Rattle.std.proofs.lemmas.Result.{on_ok_weaker}
use Rattle.nest_any.proofs.RowLaws.{list_null}
use Rattle.nest_any.proofs.rows.TypedRows.push_null.Goals as goal

pub returns-in-List-clause-ok : goal.returns-in-List-clause-ok
returns-in-List-clause-ok c = on_ok_weaker c.push.result (λ f d. rw c.in-List.is (list_null false _ _ _ d _ c.last-end.ensures.value f)) c.push.ensures.ok

pub returns-in-LargeList-clause-ok : goal.returns-in-LargeList-clause-ok
returns-in-LargeList-clause-ok c =
    on_ok_weaker c.push-in-LargeList.result (λ f d. rw c.in-LargeList.is (list_null true _ _ _ d _ c.last-end-in-LargeList.ensures.value f)) c.push-in-LargeList.ensures.ok
