use Rattle.std.specs.Prelude.{map, None}
use Rattle.std.proofs.Common.{◌≡◌, length, sym, ◌∙◌, ap, subst, rules}
use Rattle.nest_memory.specs.TypeOf.{field_list_of, type_of}
use Rattle.nest_memory.specs.TypeTree as types
use Rattle.nest_memory.specs.declared.datatypes.DataType.{Struct, the_lemmas}
use Rattle.nest_model.specs.Fits.{Fits}
use Rattle.nest_model.specs.Layout as layouts
use Rattle.nest_array.specs.Seen.{layouts_of}
use Rattle.nest_array.specs.Columns.{ColumnsFit, column_fields}
use Rattle.nest_array.proofs.ColumnChecks.{columns-fit}
use Rattle.nest_array.proofs.MadeFields.{names-count-back}
use Rattle.nest_array.proofs.columns.struct_of_columns.Goals as goal

pub nullable_fields-requires : goal.nullable_fields-requires
nullable_fields-requires c =
    let h : ColumnsFit (map (λ n. n.now) c.args.names.now) (layouts_of c.deref.result.now) = search rules in
    names-count-back c.args.names.now c.deref.result.now h.0 ∙ ap (λ cs. length cs) (c.deref.ensures.value ∙ sym c.deref-2.ensures.value)

pub new-requires : goal.new-requires
new-requires c =
    let ns = map (λ n. n.now) c.args.names.now in
    let h : ColumnsFit ns (layouts_of c.deref.result.now) = search rules in
    let f = subst (λ cs. ColumnsFit ns (layouts_of cs)) c.deref.ensures.value h in
    let e = c.in-Ok.ensures.ok ∙ ap (λ cs. column_fields ns (layouts_of cs)) c.deref-2.ensures.value in
    let t : type_of (Struct c.in-Ok.fields) ≡ types.struct (field_list_of c.in-Ok.fields.items) = search (rules, the_lemmas) in
    subst (λ u. Fits (layouts.struct u (layouts_of c.args.columns.items) None)) (sym (t ∙ ap types.struct e)) (columns-fit ns (layouts_of c.args.columns.items) f)
