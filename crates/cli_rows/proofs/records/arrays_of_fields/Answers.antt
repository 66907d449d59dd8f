use Rattle.std.proofs.Common.{◌≡◌, ◌∷◌, [], ◌++◌, map, sym, ap, ◌∙◌, append_assoc, arith, length}
use Rattle.std.specs.Vec.Iter.{into_iter_items}
use Rattle.std.proofs.lemmas.Result.{err_from_is_err_and}
use Rattle.nest_memory.specs.TypeOf.{field_of}
use Rattle.ipc.specs.declared.batch.Batch.{Batch}
use Rattle.cli_rows.specs.Records.{column_layouts, record_type}
use Rattle.cli_rows.proofs.RecordArrays.{made-error, made-more}
use Rattle.cli_rows.proofs.records.arrays_of_fields.Goals as goal

pub loop-batch-preserved : goal.loop-batch-preserved
loop-batch-preserved c =
    let at = c.loop-batch in
    let b = c.in-Some.batch in
    let steps : into_iter_items at.batch-iterator ≡ b ∷ into_iter_items c.next.new.self = c.in-Some.ensures.steps.0 in (
      append_assoc at.yielded (b ∷ []) _ ∙ rw (← steps) at.invariant.0,
      made-more (record_type (map field_of c.args.fields.now)) (λ (b : Batch). column_layouts b.columns.items) at.arrays.items c.push.new.self.items c.in_ok-array.array at.yielded b c.in_ok-push.ensures.items c.in_ok-array.ensures.made at.invariant.1,
      let was = at.invariant.2 in
          let gone = c.in-Some.ensures.steps.1 in
          let short = ap length steps in
          omega arith,
    )

pub returns-in_err-array-clause-error : goal.returns-in_err-array-clause-error
returns-in_err-array-clause-error c =
    let at = c.loop-batch in
    let b = c.in-Some.batch in
    let steps : into_iter_items at.batch-iterator ≡ b ∷ into_iter_items c.next.new.self = c.in-Some.ensures.steps.0 in
    let whole = ap (λ l. at.yielded ++ l) (sym steps) ∙ at.invariant.0 ∙ c.into_iter-batch-iterator.ensures.into_iter_gives.0 in
    let p = err_from_is_err_and c.from_residual.result c.from_residual.ensures.1 in
    rw (p.1, p.2) (made-error (record_type (map field_of c.args.fields.now)) (λ (b : Batch). column_layouts b.columns.items) c.in_err-array.field-0.0 at.yielded b (into_iter_items c.next.new.self) c.args.batches.items whole c.in_err-array.ensures.error)
