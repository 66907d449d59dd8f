use Rattle.std.proofs.Common.{[], ◌∷◌, sym, subst}
use Rattle.std.proofs.lemmas.Result.{on_ok_weaker}
use Rattle.std.specs.Option.{option_copied}
use Rattle.nest_memory.specs.TypeOf.{type_of}
use Rattle.nest_model.specs.Layout.{Layout}
use Rattle.nest_model.specs.Slot as slots
use Rattle.nest_flat.specs.FlatParts.{optional}
use Rattle.nest_flat.specs.BytesGrowth.{Spans}
use Rattle.nest_flat.specs.Growth.{Grew}
use Rattle.nest_flat.proofs.BytesGrown.{binary_made, binary-kind, grew-pushed}
use Rattle.nest_flat.proofs.binary.mutable.MutableBinaryArrayGrowOptionRefSliceU8.push_item.Goals as goal

pub returns-clause-grew : goal.returns-clause-grew
returns-clause-grew g c =
    let make = binary_made g.O.Offset.IS_LARGE (type_of c.self.inside.data_type) in
    let item = option_copied c.args.item in
    let s = c.self.inside.spans in
    let ss = optional slots.bytes item ∷ [] in
    on_ok_weaker c.try_push.result
    (λ e. subst (λ (a : Layout). Grew ss a (make c.try_push.new.self)) c.self.view_is
    (subst (λ (r : Spans). Grew ss (make s) (make r)) (sym e) (grew-pushed make slots.bytes (binary-kind _ _) s item c.known.ensures.spans)))
    c.try_push.ensures.ok
