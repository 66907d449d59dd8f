use Rattle.std.proofs.Common.{◌≡◌, ◌<◌, true, false, map, sym, ap, ◌∙◌, arith}
use Rattle.nest_memory.specs.TypeOf.{field_of}
use Rattle.nest_memory.specs.TypeTree.{field_type}
use Rattle.ipc_schema.specs.Extensions.{spec_table_type}
use Rattle.ipc_schema.specs.Types.{spec_children_of}
use Rattle.ipc_schema.specs.Unions.{spec_is_union}
use Rattle.ipc_schema.proofs.Levels.{no_union, union_here, union_below}
use Rattle.ipc_schema.proofs.unions.+unions.Goals as goal

pub field_has_union-returns-then-depth-eq0 : goal.field_has_union-returns-then-depth-eq0
field_has_union-returns-then-depth-eq0 t c = sym (no_union c.args.depth (field_of c.args.field.now) c.if-depth-eq0.true)

pub field_has_union-returns-then-is_union : goal.field_has_union-returns-then-is_union
field_has_union-returns-then-is_union t c =
    let f = field_of c.args.field.now in
    let deep : 0 < c.args.depth = omega (arith, c.if-depth-eq0.false) in
    let here : spec_is_union (spec_table_type (field_type f)) ≡ true = sym (c.is_union.ensures ∙ ap spec_is_union (c.table_type-data_type.ensures ∙ ap spec_table_type c.data_type.ensures)) ∙ c.if-is_union.true in
    c.if-is_union.true ∙ sym (union_here c.args.depth f deep here)

pub field_has_union-returns-else-is_union : goal.field_has_union-returns-else-is_union
field_has_union-returns-else-is_union t c =
    let f = field_of c.args.field.now in
    let deep : 0 < c.args.depth = omega (arith, c.if-depth-eq0.false) in
    let none : spec_is_union (spec_table_type (field_type f)) ≡ false = sym (c.is_union.ensures ∙ ap spec_is_union (c.table_type-data_type.ensures ∙ ap spec_table_type c.data_type.ensures)) ∙ c.if-is_union.false in
    let kids : map field_of c.children_of.result.now ≡ spec_children_of (spec_table_type (field_type f)) = c.children_of.ensures ∙ ap spec_children_of (c.table_type-data_type.ensures ∙ ap spec_table_type c.data_type.ensures) in
    c.any_has_union.ensures ∙ rw kids (sym (union_below c.args.depth f deep none))
