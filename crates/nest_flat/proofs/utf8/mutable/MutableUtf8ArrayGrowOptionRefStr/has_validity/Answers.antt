use Rattle.std.proofs.Common.{◌≡◌, subst}
use Rattle.nest_memory.specs.TypeOf.{type_of}
use Rattle.nest_model.specs.Layout.{Layout}
use Rattle.nest_model.specs.Meaning.{len}
use Rattle.nest_model.specs.Slot as slots
use Rattle.nest_flat.specs.Growth.{is_masked, rolled_back}
use Rattle.nest_flat.proofs.BytesGrown.{text_made, text-kind, kind-whole}
use Rattle.nest_flat.proofs.utf8.mutable.MutableUtf8ArrayGrowOptionRefStr.has_validity.Goals as goal

pub returns-clause-whole : goal.returns-clause-whole
returns-clause-whole g c =
    let make = text_made g.O.Offset.IS_LARGE (type_of c.self.inside.data_type) in
    subst (λ (a : Layout). rolled_back a (len a) (is_masked a) ≡ a) c.self.view_is (kind-whole make slots.utf8 (text-kind _ _) c.self.inside.spans c.known.ensures.spans)
