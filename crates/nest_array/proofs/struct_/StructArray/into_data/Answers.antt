use Rattle.std.specs.Prelude.{option_map}
use Rattle.std.proofs.Common.{ap, sym, ◌∙◌}
use Rattle.nest_memory.specs.TypeOf.{type_of, field_list_of}
use Rattle.nest_memory.specs.TypeTree.{fields_of}
use Rattle.nest_model.specs.Layout.{layout_type}
use Rattle.nest_model.specs.FactLaws.{struct-facts}
use Rattle.nest_array.specs.Seen.{layouts_of}
use Rattle.nest_array.proofs.ChildTypes.{struct-has_fields, own-fields}
use Rattle.nest_array.proofs.struct_.StructArray.into_data.Goals as goal

pub unreachable-requires : goal.unreachable-requires
unreachable-requires c =
    struct-has_fields (type_of c.self.inside.data_type) (struct-facts (type_of c.self.inside.data_type) (layouts_of c.self.inside.values.items) c.self.inside.validity c.self.invariant.0).typed
    (sym c.into_fields.ensures ∙ ap (option_map (λ fs. field_list_of fs.items)) c.in-None.is)

pub returns-clause-fields : goal.returns-clause-fields
returns-clause-fields c =
    own-fields (type_of c.self.inside.data_type) (field_list_of c.in-Some.fields.items) (sym c.into_fields.ensures ∙ ap (option_map (λ fs. field_list_of fs.items)) c.in-Some.is)
    ∙ ap (λ a. fields_of (layout_type a)) c.self.view_is
