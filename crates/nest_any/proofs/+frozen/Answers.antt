use Rattle.std.proofs.Common.{length, ap, sym, ◌∙◌, subst, arith}
use Rattle.std.proofs.lemmas.List.{length-set}
use Rattle.std.proofs.lemmas.Result.{IfOk-weaker}
use Rattle.nest_array.specs.Seen.{layout_of, layouts_of}
use Rattle.nest_memory.specs.TypeOf.{type_of}
use Rattle.nest_model.specs.Meaning.{slots_of}
use Rattle.nest_model.specs.BuilderLevels.{own_slots}
use Rattle.nest_model.specs.BuilderTree.{builder_type}
use Rattle.nest_model.specs.BuilderComplete.{IsComplete, emptied}
use Rattle.nest_model.specs.BuilderAddRow.{AreEachComplete}
use Rattle.nest_any.specs.BuilderCode.{weight, weight_all}
use Rattle.nest_any.specs.Trees.{tree_of, trees_of}
use Rattle.nest_any.proofs.Each.{weight-at, each_whole-at, complete-each, emptied-all, done-next, left-next}
use Rattle.nest_any.proofs.Frozen.{arrays-more, array-fits, array-slots}
use Rattle.nest_any.proofs.Over.{child-complete, weight-over, has-items}
use Rattle.nest_any.proofs.+frozen.Goals as goal

pub children::frozen_each-frozen-array-requires : goal.children::frozen_each-frozen-array-requires
children::frozen_each-frozen-array-requires t c =
    let d = c.index-children-i.result in
    let same = c.loop-i.invariant.left c.loop-i.i d (omega arith) in
    let w = weight-at tree_of c.args.children.now c.loop-i.i d (omega arith) in
    let h = each_whole-at tree_of c.args.children.now c.loop-i.i d c.requires (omega arith) in
    rw same (omega arith, h)

pub children::frozen_each-returns-clause-emptied : goal.children::frozen_each-returns-clause-emptied
children::frozen_each-returns-clause-emptied t c = emptied-all tree_of c.loop-i.children c.args.children.now c.loop-i.invariant.same_length (λ k d h. c.loop-i.invariant.done k d (omega arith))

pub lists::ListBuilder::frozen-frozen-requires : goal.lists::ListBuilder::frozen-frozen-requires
lists::ListBuilder::frozen-frozen-requires t c =
    let r = c.self.inside.rows in
    let b = tree_of c.self.inside.values.value in
    let w = subst IsComplete (sym c.self.view_is) c.requires in
    let v = ap tree_of c.deref_mut.ensures.value in
    let s = ap weight c.self.view_is in
    let k = ap weight v in
    (omega (arith, weight-over r b, s, k), subst IsComplete (sym v) (child-complete r b w))

pub struct_::MutableStructArray::frozen_parts-frozen_each-requires : goal.struct_::MutableStructArray::frozen_parts-frozen_each-requires
struct_::MutableStructArray::frozen_parts-frozen_each-requires t c =
    let w = subst IsComplete (sym c.self.view_is) c.requires in
    let v = ap trees_of c.deref_mut.ensures.value in
    let s = ap weight c.self.view_is in
    let k = ap weight_all v in
    (omega (arith, s, k), subst AreEachComplete (sym v) (complete-each (trees_of c.self.inside.values.items) (length c.self.inside.rows) w.0))

pub children::frozen_each-loop-i-preserved : goal.children::frozen_each-loop-i-preserved
children::frozen_each-loop-i-preserved t c =
    let d = c.index-children-i.result in
    let e = c.loop-i.invariant.left c.loop-i.i d (omega arith) in
    record {
      same_length = length-set c.loop-i.children c.loop-i.i c.frozen-array.new.self ∙ c.loop-i.invariant.same_length;
      memory = c.with_array-arrays.ensures.memory;
      arrays = arrays-more tree_of c.args.children.now c.loop-i.i d c.with_array-arrays.result c.loop-i.arrays c.frozen-array.result (omega arith) c.loop-i.invariant.arrays
          (IfOk-weaker c.frozen-array.result _ _ (λ a h. h ∙ ap (λ x. own_slots (tree_of x)) e) c.frozen-array.ensures.slots)
          (IfOk-weaker c.frozen-array.result _ _ (λ a h. h ∙ ap (λ x. builder_type (tree_of x)) e) c.frozen-array.ensures.same_type) c.with_array-arrays.ensures.ok c.with_array-arrays.ensures.both;
      done = done-next tree_of emptied c.loop-i.children c.args.children.now c.loop-i.i c.frozen-array.new.self d c.loop-i.invariant.same_length (omega arith) c.loop-i.invariant.done (c.frozen-array.ensures.emptied ∙ ap (λ x. emptied (tree_of x)) e);
      left = left-next c.loop-i.children c.args.children.now c.loop-i.i c.frozen-array.new.self c.loop-i.invariant.left;
    }

pub lists::ListBuilder::frozen-freeze_over-requires : goal.lists::ListBuilder::frozen-freeze_over-requires
lists::ListBuilder::frozen-freeze_over-requires t c =
    let v = ap tree_of c.deref_mut.ensures.value in
    has-items c.self.inside.rows (tree_of c.self.inside.values.value) (layout_of c.in-Ok.values) (subst IsComplete (sym c.self.view_is) c.requires) (c.in-Ok.ensures.slots ∙ ap own_slots v) (c.in-Ok.ensures.same_type ∙ ap builder_type v)

pub struct_::MutableStructArray::frozen-new-requires : goal.struct_::MutableStructArray::frozen-new-requires
struct_::MutableStructArray::frozen-new-requires t c =
    array-fits c.args.self.now (type_of c.in-Ok.data_type) (layouts_of c.in-Ok.values.items) c.in-Ok.validity c.known.ensures.kind c.known.ensures.records c.known.ensures.some c.requires c.in-Ok.ensures.ok

pub struct_::MutableStructArray::frozen-returns-in-Ok-clause-slots : goal.struct_::MutableStructArray::frozen-returns-in-Ok-clause-slots
struct_::MutableStructArray::frozen-returns-in-Ok-clause-slots t c =
    ap slots_of (c.into_any.ensures ∙ c.new.ensures)
    ∙ array-slots c.args.self.now (type_of c.in-Ok.data_type) (layouts_of c.in-Ok.values.items) c.in-Ok.validity c.known.ensures.kind c.known.ensures.some c.requires c.in-Ok.ensures.ok
