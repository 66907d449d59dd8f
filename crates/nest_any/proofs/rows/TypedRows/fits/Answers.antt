use Rattle.std.specs.Prelude.{◌≡◌, ◌*◌, Some}
use Rattle.std.proofs.Common.{sym, ap, ◌∙◌}
use Rattle.nest_memory.specs.TypeTree.{item_type}
use Rattle.nest_memory.specs.TypeOf.{type_of}
use Rattle.nest_model.specs.BuilderTree.{builder_type}
use Rattle.nest_any.specs.TypedRows.{lists_over}
use Rattle.nest_any.proofs.RowLaws.{list_fits, fixed_fits, not_fitting}
use Rattle.nest_any.proofs.rows.TypedRows.fits.Goals as goal

pub returns-then-typed : goal.returns-then-typed
returns-then-typed c = λ d e n.
    let i : item_type (builder_type (lists_over c.args.self.now d)) ≡ Some (type_of c.args.items.now) = ap item_type (sym (c.data_type.ensures d)) ∙ c.has_items-typed.ensures.0 c.if-typed.true in
    let j = rw c.in-List.is at i in
    rw c.in-List.is (list_fits c.in-List.field-0 c.in-List.rows d (type_of c.args.items.now) _ _ j e n c.last.ensures.value c.last.ensures.rising)

pub returns-else-typed : goal.returns-else-typed
returns-else-typed c = λ d e n. not_fitting c.args.self.now d _ _ _ c.has_items-typed.ensures (c.data_type.ensures d) e c.if-typed.false

pub returns-then-typed-2 : goal.returns-then-typed-2
returns-then-typed-2 c = λ d e n.
    let i : item_type (builder_type (lists_over c.args.self.now d)) ≡ Some (type_of c.args.items.now) = ap item_type (sym (c.data_type.ensures d)) ∙ c.has_items-typed.ensures.0 c.if-typed-2.true in
    let j = rw c.in-LargeList.is at i in
    rw c.in-LargeList.is (list_fits c.in-LargeList.field-0 c.in-LargeList.rows d (type_of c.args.items.now) _ _ j e n c.last-then-typed-2.ensures.value c.last-then-typed-2.ensures.rising)

pub returns-else-typed-2 : goal.returns-else-typed-2
returns-else-typed-2 c = λ d e n. not_fitting c.args.self.now d _ _ _ c.has_items-typed.ensures (c.data_type.ensures d) e c.if-typed-2.false

pub returns-then-typed-3 : goal.returns-then-typed-3
returns-then-typed-3 c = λ d e n.
    let i : item_type (builder_type (lists_over c.args.self.now d)) ≡ Some (type_of c.args.items.now) = ap item_type (sym (c.data_type.ensures d)) ∙ c.has_items-typed.ensures.0 c.if-typed-3.true in
    let j = rw c.in-FixedSizeList.is at i in
    rw c.in-FixedSizeList.is (fixed_fits c.in-FixedSizeList.data_type c.in-FixedSizeList.rows d (type_of c.args.items.now) _ _ j e n (c.in-Some.ensures.1 ∙ (λ i. c.len.ensures i * c.size.ensures.value i)))

pub returns-else-typed-3 : goal.returns-else-typed-3
returns-else-typed-3 c = λ d e n. not_fitting c.args.self.now d _ _ _ c.has_items-typed.ensures (c.data_type.ensures d) e c.if-typed-3.false
