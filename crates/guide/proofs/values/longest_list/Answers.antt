use Rattle.std.specs.Prelude.{Some, Ok}
use Rattle.std.proofs.Common.{rules, ◌≡◌, ◌+◌, ◌-◌, ap, subst, ◌∙◌}
use Rattle.nest_model.specs.Meaning.{slots_of}
use Rattle.nest_scan.specs.Items.{IsList}
use Rattle.nest_scan.specs.Elements.{IsItemOrMemory, IsItemOrNull, ElementsLeft}
use Rattle.guide.specs.Columns.{max_list_length}
use Rattle.guide.proofs.Rows.{longest_some, longest_none}
use Rattle.guide.proofs.values.longest_list.Goals as goal

pub loop-row-preserved-in-Ok-Some : goal.loop-row-preserved-in-Ok-Some
loop-row-preserved-in-Ok-Some c =
    let known = c.loop-row.invariant in
    let it = c.loop-row.row-iterator in
    let gives = c.in-Some.ensures.steps in
    let item = subst (λ a. IsItemOrMemory (IsItemOrNull IsList) a it.front c.in-Some.row) known.same gives.1 in
    let is : c.in-Some.row ≡ Ok (Some c.in-Ok-Some.items) = c.in-Ok-Some.is ∙ ap Ok c.in-Ok-Some.field-0-is in
    let step = longest_some c.args.lists.now it.front it.count c.loop-row.longest (max_list_length (slots_of c.args.lists.now)) c.in-Some.row c.in-Ok-Some.items is item gives.0 known.so_far in
    record { same = ap (λ p. p.array) gives.2 ∙ known.same; so_far = search (rules, step, gives.2, c.max-longest.ensures, c.len.ensures) }

pub loop-row-preserved : goal.loop-row-preserved
loop-row-preserved c =
    let known = c.loop-row.invariant in
    let it = c.loop-row.row-iterator in
    let gives = c.in-Some.ensures.steps in
    let item = subst (λ a. IsItemOrMemory (IsItemOrNull IsList) a it.front c.in-Some.row) known.same gives.1 in
    let is = c.in-Ok-None.is ∙ ap Ok c.in-Ok-None.field-0-is in
    let step = longest_none c.args.lists.now it.front it.count c.loop-row.longest (max_list_length (slots_of c.args.lists.now)) c.in-Some.row is item gives.0 known.so_far in
    record { same = ap (λ p. p.array) gives.2 ∙ known.same; so_far = search (rules, step, gives.2) }
