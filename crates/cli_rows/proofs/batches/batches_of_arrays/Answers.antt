use Rattle.std.proofs.Common.{◌≡◌, List, ◌∷◌, ◌++◌, [], sym, ap, subst, ◌∙◌, append_assoc, append-nil, arith, map, length}
use Rattle.std.specs.List.{flat_map}
use Rattle.std.specs.Vec.Iter.{into_iter_items}
use Rattle.nest_memory.specs.TypeOf.{field_of}
use Rattle.nest_array.specs.Seen.{layout_of}
use Rattle.nest_array.specs.declared.any.AnyArray.{AnyArray}
use Rattle.ipc.specs.Streams.{record_batch_of}
use Rattle.cli_rows.specs.Rows.{rows_of}
use Rattle.cli_rows.specs.SelectedTables.{AreRowsOf, IsRowOf, batch_rows}
use Rattle.cli_rows.proofs.SelectedBatches.{middle-each}
use Rattle.cli_rows.proofs.Collected.{nothing-left, rows-more}
use Rattle.cli_rows.proofs.batches.batches_of_arrays.Goals as goal

pub push_batch-requires : goal.push_batch-requires
push_batch-requires c =
    let fs = map field_of c.args.fields.now in
    let at = c.loop-array in
    let steps : into_iter_items at.array-iterator ≡ c.in-Some.array ∷ into_iter_items c.next.new.self = c.in-Some.ensures.steps.0 in
    let all : c.args.arrays.items ≡ at.yielded ++ c.in-Some.array ∷ into_iter_items c.next.new.self = sym c.into_iter-array-iterator.ensures.into_iter_gives.0 ∙ sym at.invariant.0 ∙ ap (λ xs. at.yielded ++ xs) steps in
    middle-each (IsRowOf fs) rows_of layout_of at.yielded c.in-Some.array (into_iter_items c.next.new.self) (subst (λ (xs : List AnyArray). AreRowsOf fs (flat_map rows_of (map layout_of xs))) all c.requires)

pub loop-array-preserved : goal.loop-array-preserved
loop-array-preserved c =
    let at = c.loop-array in
    let a = c.in-Some.array in
    let fs = map field_of c.args.fields.now in
    let steps : into_iter_items at.array-iterator ≡ a ∷ into_iter_items c.next.new.self = c.in-Some.ensures.steps.0 in (
      append_assoc at.yielded (a ∷ []) _ ∙ rw (← steps) at.invariant.0,
      rows-more rows_of layout_of at.yielded a (batch_rows fs (map record_batch_of at.batches.items)) (batch_rows fs (map record_batch_of c.push_batch.new.batches.items)) c.in_ok-push_batch.ensures.rows at.invariant.1,
      let was = at.invariant.2 in
          let gone = c.in-Some.ensures.steps.1 in
          let short = ap length steps in
          omega arith,
    )

pub returns-clause-rows : goal.returns-clause-rows
returns-clause-rows c =
    let at = c.loop-array in
    let none = c.in-None.ensures.steps in
    let empty : into_iter_items at.array-iterator ≡ [] = nothing-left _ (sym at.invariant.2 ∙ none.0) in
    let all = sym (append-nil at.yielded) ∙ rw empty at at.invariant.0 ∙ c.into_iter-array-iterator.ensures.into_iter_gives.0 in
    at.invariant.1 ∙ ap (λ xs. flat_map rows_of (map layout_of xs)) all
