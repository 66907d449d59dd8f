use Rattle.std.proofs.Common.{◌<◌, ap, sym, subst, ◌∙◌, arith}
use Rattle.nest_memory.specs.TypeOf.{field_list_of}
use Rattle.nest_memory.specs.TypeTree.{count_fields, fields_of}
use Rattle.nest_model.specs.BuilderTree.{builder_len, builder_type}
use Rattle.nest_any.specs.Trees.{trees_of}
use Rattle.nest_any.proofs.Types.{some-children}
use Rattle.nest_any.proofs.struct_.MutableStructArray.is_ready.Goals as goal

pub returns-clause-room : goal.returns-clause-room
returns-clause-room c = λ r.
    let fields = c.fields.ensures ∙ ap (λ b. fields_of (builder_type b)) c.self.view_is in
    let some = subst (λ fs. 0 < count_fields fs) (sym fields) c.known.ensures.some in
    let many = some-children (trees_of c.deref.result.now) (field_list_of c.fields.result.now) (c.are_ready.ensures.types r) some in
    omega (arith, c.are_ready.ensures.room r many, c.len.ensures, ap builder_len c.self.view_is)
