use Rattle.std.specs.Prelude.{None}
use Rattle.std.proofs.Common.{refl, sym, ◌∙◌}
use Rattle.nest_memory.specs.Native.{parts_of}
use Rattle.nest_model.specs.Slot as slots
use Rattle.nest_model.specs.BuilderRowLaws.{values_needed-nulls}
use Rattle.nest_build.specs.Keys.{encoded_keys}
use Rattle.nest_build.proofs.Keys.{told_push, kept_push, whole_zeros}
use Rattle.nest_build.proofs.dictionary.rows.DictionaryRows.push_null.Goals as goal

pub invariant_of-self-2 : goal.invariant_of-self-2
invariant_of-self-2 g c =
    let a = c.self.inside.keys in
    let row_list = told_push a c.try_push.new.self slots.null None c.in_default.ensures.slots refl in
    kept_push a c.try_push.new.self _ _ _ _ None None c.self.inside.needed c.self.inside.needed c.self.invariant c.known.ensures.kind c.in_default.ensures.parts
    row_list (whole_zeros (parts_of g.K.NativeType.PRIMITIVE)) (c.self.invariant.count ∙ sym (values_needed-nulls (encoded_keys a) 1))
