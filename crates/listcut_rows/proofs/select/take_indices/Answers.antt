use Rattle.std.proofs.Common.{◌≡◌, ◌∙◌, ap, sym, true, ltb, length}
use Rattle.std.specs.List.{list_all}
use Rattle.std.proofs.lemmas.Bool.{cond-true}
use Rattle.nest_model.specs.Selected.{selected}
use Rattle.nest_model.specs.Meaning.{slots_of}
use Rattle.listcut_rows.proofs.BelowLength.{all-below}
use Rattle.listcut_rows.proofs.ItemCounts.{limits-passed, passes-items}
use Rattle.listcut_rows.proofs.select.take_indices.Goals as goal

pub returns-in-Overflow-clause-error : goal.returns-in-Overflow-clause-error
returns-in-Overflow-clause-error c =
    let rows = c.args.rows in
    let indices = c.args.indices.now in
    let passed : list_all (λ index. ltb index c.count_rows.result) indices ≡ true = sym c.are_below.ensures ∙ c.if-not-are_below.false in
    let count = c.count_rows.ensures in
    let within : list_all (λ index. ltb index (length (slots_of rows))) indices ≡ true = ap (λ n. list_all (λ index. ltb index n) indices) (sym count.slots) ∙ passed in
    let below = all-below _ indices (ap (λ n. list_all (λ index. ltb index n) indices) (sym count.len) ∙ passed) in
    let limits = limits-passed c.take-taken.result c.in-Err.error rows indices c.in-Err.is c.in-Overflow.is c.take-taken.ensures.err in
    (selected (slots_of rows) indices, cond-true _ _ _ within, passes-items rows _ _ _ _ _ indices c.known.ensures.kind c.values.ensures (sym c.numbers.ensures ∙ c.known-2.ensures.kind) below limits)
