use Rattle.std.proofs.Common.{◌≡◌, ◌<◌, length, get_or, sym, ap, ◌∙◌, subst, arith}
use Rattle.std.proofs.lemmas.List.{get_or_default, length-set}
use Rattle.nest_any.specs.Trees.{tree_of}
use Rattle.json_read.specs.SlotAdded.{SlotAdded}
use Rattle.nest_model.specs.BuilderTree.{builder_len}
use Rattle.nest_model.specs.BuilderComplete.{IsComplete}
use Rattle.nest_model.specs.Slot as slots
use Rattle.json_read.proofs.Completing.{added-null, completed-all, next-done, still-done, whole-at, other-here, same-here, left-more}
use Rattle.json_read.proofs.struct_rows.push_missing_nulls.Goals as goal
use Rattle.json_read.proofs.struct_rows.push_missing_nulls.Goals.{then-len-n+in_default, else-len-n}

pub push_null-requires : goal.push_null-requires
push_null-requires c =
    let l = c.loop-i in
    let d = c.index-children-i-then-len-n.result in
    let bound : l.i < length c.args.children.now = omega (arith, c.loop-i-test.true, l.invariant.same_length, l.auto.i-end) in
    subst (λ x. IsComplete (tree_of x)) (sym (l.invariant.left l.i d (omega arith))) (whole-at tree_of c.args.children.now l.i d bound c.requires)

pub loop-i-preserved : goal.loop-i-preserved
loop-i-preserved c =
    let l = c.loop-i in
    let xs = c.args.children.now in
    let x = c.index-children-i.result in
    let bound : l.i < length xs = omega (arith, c.loop-i-test.true, l.invariant.same_length, l.auto.i-end) in
    let was = l.invariant.left l.i x (omega arith) in
    let len : c.len.result ≡ builder_len (tree_of (get_or xs l.i x)) = c.len.ensures ∙ ap (λ y. builder_len (tree_of y)) was in
    elim c.if-len-n.branch [
      | then-len-n+in_default w ↦ rw w.children-is (record {
        same_length = length-set l.children l.i w.push_null.new.self ∙ l.invariant.same_length;
        done = next-done tree_of c.args.n xs l.children l.i w.push_null.new.self w.index-children-i-then-len-n.result l.invariant.same_length bound l.invariant.done
            (same-here tree_of c.args.n c.len.result (get_or xs l.i w.index-children-i-then-len-n.result) w.push_null.new.self
            (len ∙ ap (λ y. builder_len (tree_of y)) (get_or_default xs l.i x w.index-children-i-then-len-n.result bound)) w.if-len-n.true
            (subst (λ y. SlotAdded slots.null (tree_of y) (tree_of w.push_null.new.self)) (l.invariant.left l.i w.index-children-i-then-len-n.result (omega arith)) (added-null _ _ w.in_default.ensures.accepted)));
        left = left-more xs l.children l.i w.push_null.new.self l.invariant.left;
      })
      | else-len-n w ↦ rw w.children-is (record {
        same_length = l.invariant.same_length;
        done = still-done tree_of c.args.n xs l.children l.i x l.invariant.same_length bound l.invariant.done
            (other-here tree_of c.args.n c.len.result (get_or xs l.i x) (get_or l.children l.i x) len w.if-len-n.false was);
        left = λ k d h. l.invariant.left k d (omega (arith, h));
      })
    ]

pub returns-clause-completed : goal.returns-clause-completed
returns-clause-completed c =
    let l = c.loop-i in
    completed-all tree_of c.args.n c.args.children.now l.children l.invariant.same_length (λ k d h. l.invariant.done k d (omega (arith, h, c.loop-i-test.false, l.invariant.same_length, l.auto.i-end)))
