use Rattle.std.proofs.Common.{ℤ, List, ◌++◌, ap, ◌∙◌, Bor}
use Rattle.nest_array.specs.Seen.{layouts_of}
use Rattle.nest_array.specs.declared.any.AnyArray.{AnyArray}
use Rattle.ipc.specs.PendingDictionaries.{each_pending}
use Rattle.ipc.specs.EntriesOf.{by_id, borrowed_entries_of}
use Rattle.ipc.proofs.Emitted.{columns_walked, columns_fit}
use Rattle.ipc.proofs.dictionaries.pending.pending_dictionaries.Goals as goal

pub returns-clause-pending : goal.returns-clause-pending
returns-clause-pending c =
    let es = by_id c.args.emitted.now.entries in
    let columns = c.args.columns.now in
    c.in_ok-visit_each.ensures.found ∙ ap (λ (l : List (ℤ × Bor AnyArray)). borrowed_entries_of l ++ each_pending es 0 (layouts_of columns)) c.new-found.ensures.items ∙ columns_walked es 0 columns

pub returns-clause-fit : goal.returns-clause-fit
returns-clause-fit c = columns_fit c.args.columns.now c.in_ok-visit_each.ensures.fit
