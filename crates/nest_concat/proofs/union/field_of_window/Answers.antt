use Rattle.std.proofs.Common.{ap, arith}
use Rattle.nest_memory.specs.TypeTree.{count_fields, fields_of}
use Rattle.nest_model.specs.Layout.{count_layouts, layout_type}
use Rattle.nest_concat.proofs.Children.{count-of}
use Rattle.nest_concat.proofs.Picked.{facts-of}
use Rattle.nest_concat.proofs.union.field_of_window.Goals as goal

pub child-field-requires : goal.child-field-requires
child-field-requires c =
    let a = c.union_of-array.result.now in
    let n = (facts-of a c.known-2.ensures.fits c.known-2.ensures.kind).as_many in
    omega (arith, count-of c.fields.result.now, ap count_layouts c.fields.ensures, n, ap (λ z. count_fields (fields_of (layout_type z))) c.union_of-array.ensures, c.requires.field)
