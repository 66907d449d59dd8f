use Rattle.std.proofs.Common.{◌≤◌, ◌<◌, ◌∙◌, sym, ap, arith, ◌++◌, length}
use Rattle.std.proofs.lemmas.List.{take_all}
use Rattle.nest_memory.specs.Sublist.{sublist}
use Rattle.nest_model.specs.Meaning.{slots_of}
use Rattle.listcut_rows.proofs.RowTexts.{joined_items, cut-slot, cut-length, got-item, items-next, items-first}
use Rattle.listcut_rows.proofs.output.push_items.Goals as goal
use Rattle.listcut_rows.proofs.output.push_items.Goals.{then-i-gt0+in_ok-push, else-i-gt0}

pub loop-i-preserved : goal.loop-i-preserved
loop-i-preserved c =
    let a = c.args.items.now in
    let xs = sublist (slots_of a) c.args.start c.args.count in
    let within : c.loop-i.i < length xs = omega (arith, cut-length a c.args.start c.args.count c.requires) in
    let is = cut-slot a c.args.start c.args.count c.loop-i.i c.requires (omega arith) ∙ sym c.get.ensures ∙ got-item c.get.result in
    elim c.if-i-gt0.branch [
      | then-i-gt0+in_ok-push w ↦ items-next xs c.loop-i.i within _ c.loop-i.out.items c.if-i-gt0.out.items _ _ c.loop-i.invariant is c.in_ok-push_item.ensures (omega arith) (ap (λ v. v.items) w.out-is ∙ w.in_ok-push.ensures.items)
      | else-i-gt0 w ↦ items-first xs c.loop-i.i within _ c.loop-i.out.items c.if-i-gt0.out.items _ _ c.loop-i.invariant is c.in_ok-push_item.ensures (omega arith) (ap (λ v. v.items) w.out-is)
    ]

pub returns : goal.returns
returns c =
    let xs = sublist (slots_of c.args.items.now) c.args.start c.args.count in
    let end : length xs ≤ c.loop-i.i = omega (arith, cut-length c.args.items.now c.args.start c.args.count c.requires) in
    c.loop-i.invariant ∙ ap (λ ss. c.args.out.now.items ++ joined_items ss) (take_all c.loop-i.i xs end)
