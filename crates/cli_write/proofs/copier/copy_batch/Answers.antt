use Rattle.std.proofs.Common.{inl, inr, map, ap, subst, sym, ◌∙◌}
use Rattle.ipc.specs.Streams.{record_batch_of}
use Rattle.cli_args.specs.RequestTrees.{selection_tree}
use Rattle.cli_rows.specs.RowOrder.{remaining_selection}
use Rattle.cli_write.proofs.copier.copy_batch.Goals as goal

pub returns-in-Err-clause-error : goal.returns-in-Err-clause-error
returns-in-Err-clause-error g c = inl c.in-Err.ensures.error

pub returns-in-Err-written-clause-error : goal.returns-in-Err-written-clause-error
returns-in-Err-written-clause-error g c = inr (λ form start s went p. (map record_batch_of c.in-Ok.batches.items, c.in-Ok.ensures.rows, rw (sym c.deref.ensures.value) (c.in-Err-written.ensures.error form start s went p)))

pub returns-in-Ok-written-clause-put : goal.returns-in-Ok-written-clause-put
returns-in-Ok-written-clause-put g c = λ form start s went p. (map record_batch_of c.in-Ok.batches.items, c.in-Ok.ensures.rows, rw (sym c.deref.ensures.value) (c.in-Ok-written.ensures.put form start s went p))
