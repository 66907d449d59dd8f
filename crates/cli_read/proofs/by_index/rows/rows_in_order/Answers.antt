use Rattle.std.proofs.Common.{◌≡◌, List, Some, ℕ, map, subst}
use Rattle.std.specs.List.{flat_map}
use Rattle.std.specs.List.Sorted.{IsNonDecreasing}
use Rattle.nest_array.specs.Seen.{layout_of}
use Rattle.nest_array.specs.declared.any.AnyArray.{AnyArray}
use Rattle.cli_rows.specs.Selection.{selected_rows}
use Rattle.cli_rows.specs.Rows.{rows_of}
use Rattle.cli_rows.proofs.SelectedBatches.{selected-each}
use Rattle.cli_args.specs.Requests.{indices}
use Rattle.cli_read.specs.Indices.{HaveRanks, AreElementsOf}
use Rattle.cli_read.specs.TakeStates.{rows_taken}
use Rattle.cli_read.proofs.Positions.{stand-shuffled}
use Rattle.cli_read.proofs.IndexedRows.{ranked}
use Rattle.cli_read.proofs.by_index.rows.rows_in_order.Goals as goal

pub returns-in-Ok-clause-rows : goal.returns-in-Ok-clause-rows
returns-in-Ok-clause-rows c = λ fs rows same took.
    let state = c.args.state.now in
    let wanted = c.args.wanted.now in
    let ranks = c.in_ok-positions.field-0.items in
    let out = flat_map rows_of (map layout_of c.in-Ok.rows.items) in
    let stand = subst (λ (ps : List ℕ). IsNonDecreasing ps → AreElementsOf ps wanted → HaveRanks ps wanted ranks) c.deref.ensures.value c.in_ok-positions.ensures in
    let some = subst (λ (as_ : List AnyArray). selected_rows (indices ranks) (flat_map rows_of (map layout_of as_)) ≡ Some out) c.deref-2.ensures.value c.in-Ok.ensures.rows in (
      ranked rows wanted state.wanted.items ranks state.next (rows_taken state) out same (c.is_found.ensures.yes c.if-not-is_found.false) took.within took.are (stand took.rise (stand-shuffled wanted state.wanted.items same)) some,
      selected-each fs (indices ranks) (rows_taken state) out some took.each,
    )
