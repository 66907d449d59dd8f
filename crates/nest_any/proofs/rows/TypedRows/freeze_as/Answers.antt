use Rattle.std.specs.Prelude.{[]}
use Rattle.std.proofs.Common.{◌*◌, ◌∙◌, ap, sym, length, arith}
use Rattle.nest_memory.specs.Physical.{physical_type}
use Rattle.nest_memory.specs.TypeTree.{item_type, size_of}
use Rattle.nest_memory.specs.TypeOf.{type_of}
use Rattle.nest_model.specs.BuilderTree.{flat}
use Rattle.nest_any.proofs.rows.TypedRows.freeze_as.Goals as goal

pub freeze_over-requires-clause-lists : goal.freeze_over-requires-clause-lists
freeze_over-requires-clause-lists c =
    let e = rw c.in-List.is at (c.requires.typed (flat (type_of c.args.data_type) [])) in
    ap physical_type e ∙ c.get-lists.ensures.lists

pub freeze_over-requires-clause-items : goal.freeze_over-requires-clause-items
freeze_over-requires-clause-items c =
    let e = rw c.in-List.is at (c.requires.typed (flat (type_of c.args.data_type) [])) in
    let h = rw c.in-List.is at c.requires.items in
    ap item_type e ∙ h.0

pub freeze_over-requires-in-LargeList-clause-lists : goal.freeze_over-requires-in-LargeList-clause-lists
freeze_over-requires-in-LargeList-clause-lists c =
    let e = rw c.in-LargeList.is at (c.requires.typed (flat (type_of c.args.data_type) [])) in
    ap physical_type e ∙ c.get-lists-in-LargeList.ensures.lists

pub freeze_over-requires-in-LargeList-clause-items : goal.freeze_over-requires-in-LargeList-clause-items
freeze_over-requires-in-LargeList-clause-items c =
    let e = rw c.in-LargeList.is at (c.requires.typed (flat (type_of c.args.data_type) [])) in
    let h = rw c.in-LargeList.is at c.requires.items in
    ap item_type e ∙ h.0

pub freeze_over-requires-in-FixedSizeList-clause-lists : goal.freeze_over-requires-in-FixedSizeList-clause-lists
freeze_over-requires-in-FixedSizeList-clause-lists c =
    let e = rw c.in-FixedSizeList.is at (c.requires.typed (flat (type_of c.args.data_type) [])) in
    ap physical_type e ∙ c.get-lists-in-FixedSizeList.ensures.lists

pub freeze_over-requires-in-FixedSizeList-clause-some : goal.freeze_over-requires-in-FixedSizeList-clause-some
freeze_over-requires-in-FixedSizeList-clause-some c =
    let e = rw c.in-FixedSizeList.is at (c.requires.typed (flat (type_of c.args.data_type) [])) in
    omega (arith, c.size-size.ensures.some, c.size-size.ensures.value, ap size_of e)

pub freeze_over-requires-in-FixedSizeList-clause-items : goal.freeze_over-requires-in-FixedSizeList-clause-items
freeze_over-requires-in-FixedSizeList-clause-items c =
    let e = rw c.in-FixedSizeList.is at (c.requires.typed (flat (type_of c.args.data_type) [])) in
    let h = rw c.in-FixedSizeList.is at c.requires.items in
    ap item_type e ∙ h.0

pub freeze_over-requires-in-FixedSizeList-clause-covers : goal.freeze_over-requires-in-FixedSizeList-clause-covers
freeze_over-requires-in-FixedSizeList-clause-covers c =
    let e = rw c.in-FixedSizeList.is at (c.requires.typed (flat (type_of c.args.data_type) [])) in
    let h = rw c.in-FixedSizeList.is at c.requires.items in
    h.1 ∙ ap (λ t. length c.in-FixedSizeList.rows * size_of t) (sym e)
