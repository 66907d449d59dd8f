use Rattle.std.proofs.Common.{map, sym, subst, ◌∙◌}
use Rattle.nest_memory.specs.TypeOf.{field_of}
use Rattle.nest_array.specs.Seen.{layout_of}
use Rattle.cli_args.specs.ConditionTrees.{condition_tree}
use Rattle.ipc.specs.Streams.{record_batch_of}
use Rattle.nest_take.specs.Taken.{IsTaken}
use Rattle.cli_rows.specs.Rows.{rows_of}
use Rattle.cli_rows.specs.SelectedTables.{AreRowsOf, batch_rows}
use Rattle.cli_rows.proofs.SelectedBatches.{filtered-each, rows-result, true-below, true-rows}
use Rattle.cli_rows.proofs.batches.push_where.Goals as goal

pub take-requires : goal.take-requires
take-requires c = true-below (condition_tree c.args.condition.now) (layout_of c.args.array.now) c.deref.result.now (c.deref.ensures.value ∙ c.in_ok-indices.ensures)

pub push_batch-requires : goal.push_batch-requires
push_batch-requires c =
    let fs = map field_of c.args.fields.now in
    let condition = condition_tree c.args.condition.now in
    let a = layout_of c.args.array.now in
    let b = layout_of c.in-Ok.rows in
    let taken = subst (λ is. IsTaken a is b) (c.deref.ensures.value ∙ c.in_ok-indices.ensures) c.in-Ok.ensures.ok in
    subst (AreRowsOf fs) (sym (true-rows condition a b taken)) (filtered-each fs condition (rows_of a) c.requires)

pub returns-clause-rows : goal.returns-clause-rows
returns-clause-rows c =
    let fs = map field_of c.args.fields.now in
    let condition = condition_tree c.args.condition.now in
    let a = layout_of c.args.array.now in
    let b = layout_of c.in-Ok.rows in
    let taken = subst (λ is. IsTaken a is b) (c.deref.ensures.value ∙ c.in_ok-indices.ensures) c.in-Ok.ensures.ok in
    rows-result (batch_rows fs (map record_batch_of c.args.batches.now.items)) _ _ _ c.push_batch.result (true-rows condition a b taken) c.push_batch.ensures.rows
