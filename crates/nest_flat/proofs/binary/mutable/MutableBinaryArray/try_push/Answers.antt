use Rattle.std.proofs.Common.{[], ◌∷◌, ◌++◌, ap, ◌∙◌}
use Rattle.std.proofs.lemmas.Result.{on_ok_weaker}
use Rattle.std.specs.Option.{option_copied}
use Rattle.nest_memory.specs.TypeOf.{type_of}
use Rattle.nest_model.specs.Layout.{Layout}
use Rattle.nest_model.specs.Meaning.{slots_of}
use Rattle.nest_model.specs.Slot as slots
use Rattle.nest_flat.specs.FlatParts.{optional}
use Rattle.nest_flat.specs.BytesGrowth.{Spans}
use Rattle.nest_flat.proofs.BytesGrown.{binary_made, binary-kind, kind-pushed}
use Rattle.nest_flat.proofs.binary.mutable.MutableBinaryArray.try_push.Goals as goal

pub returns-clause-slots : goal.returns-clause-slots
returns-clause-slots g c =
    let make = binary_made g.O.Offset.IS_LARGE (type_of c.self.inside.data_type) in
    let item = option_copied c.args.item in
    on_ok_weaker c.try_push.result
    (λ e. ap (λ (r : Spans). slots_of (make r)) e
    ∙ kind-pushed make slots.bytes (binary-kind _ _) c.self.inside.spans item c.known.ensures.spans
    ∙ ap (λ (a : Layout). slots_of a ++ optional slots.bytes item ∷ []) c.self.view_is)
    c.try_push.ensures.ok
