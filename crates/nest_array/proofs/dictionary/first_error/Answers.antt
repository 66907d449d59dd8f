use Rattle.std.proofs.Common.{◌≡◌, true, false, sym, ◌∙◌, subst}
use Rattle.nest_memory.specs.TypeOf.{type_of}
use Rattle.nest_memory.specs.TypeTree.{value_type}
use Rattle.nest_model.specs.Fits.{IsLogically, KeysInRange}
use Rattle.nest_array.specs.SeenKeys.{keys_layout}
use Rattle.nest_array.proofs.dictionary.first_error.Goals as goal

pub returns-then-not-are_in_range : goal.returns-then-not-are_in_range
returns-then-not-are_in_range c = (
  sym c.is_dictionary.ensures ∙ c.if-not-is_dictionary.false,
  (
    c.has_key_type.ensures.0 c.if-not-has_key_type.false ∙ sym c.key_type.ensures,
    (
      subst (IsLogically (value_type (type_of c.args.data_type.now))) c.data_type.ensures (c.has_values.ensures.0 c.if-not-has_values.false),
      λ h. let u : false ≡ true = sym c.if-not-are_in_range.true ∙ c.are_in_range.ensures.1 (subst (KeysInRange (keys_layout c.args.keys.now)) (sym c.len.ensures) h) in cc,
    ),
  ),
)
