use Rattle.std.proofs.Common.{◌≡◌, refl, subst}
use Rattle.nest_memory.specs.Rising.{last_of}
use Rattle.nest_memory.specs.TypeOf.{type_of}
use Rattle.nest_model.specs.Accessors.{offsets_of}
use Rattle.nest_model.specs.BuilderItem.{bytes_held}
use Rattle.nest_model.specs.Layout.{Layout}
use Rattle.nest_model.specs.Meaning.{slots_of}
use Rattle.nest_model.specs.Slot as slots
use Rattle.nest_flat.proofs.BytesGrown.{text_made, text-kind}
use Rattle.nest_flat.proofs.BytesHeld.{kind-held}
use Rattle.nest_flat.proofs.utf8.mutable.MutableUtf8Array.known.Goals as goal

pub returns-clause-held : goal.returns-clause-held
returns-clause-held g c =
    let make = text_made g.O.Offset.IS_LARGE (type_of c.self.inside.data_type) in
    subst (λ (a : Layout). bytes_held (slots_of a) ≡ last_of (offsets_of a)) c.self.view_is (kind-held make slots.utf8 (text-kind _ _) (λ xs. refl) c.self.inside.spans c.known.ensures.spans)
