use Rattle.std.proofs.Common.{[], ◌∷◌, ap, sym, ◌∙◌, subst}
use Rattle.std.proofs.lemmas.Result.{on_ok_weaker}
use Rattle.std.specs.Option.{option_copied}
use Rattle.std.specs.Str.{IsUtf8}
use Rattle.nest_memory.specs.TypeOf.{type_of}
use Rattle.nest_model.specs.Layout.{Layout}
use Rattle.nest_model.specs.Slot as slots
use Rattle.nest_flat.specs.FlatParts.{optional}
use Rattle.nest_flat.specs.BytesGrowth.{Spans, item_bytes, pushed_span}
use Rattle.nest_flat.specs.Growth.{Grew}
use Rattle.nest_flat.proofs.BytesGrown.{text_made, text-kind, grew-pushed, each-pushed, each-after}
use Rattle.nest_flat.proofs.utf8.mutable.MutableUtf8ArrayGrowOptionRefStr.push_item.Goals as goal

pub returns-clause-grew : goal.returns-clause-grew
returns-clause-grew g c =
    let make = text_made g.O.Offset.IS_LARGE (type_of c.self.inside.data_type) in
    let item = option_copied c.args.item in
    let same = ap (λ i. pushed_span i c.self.inside.spans) c.bytes_of.ensures.same in
    let s = c.self.inside.spans in
    let ss = optional slots.utf8 item ∷ [] in
    on_ok_weaker c.try_push.result
    (λ e. subst (λ (a : Layout). Grew ss a (make c.try_push.new.self)) c.self.view_is
    (subst (λ (r : Spans). Grew ss (make s) (make r)) (sym (e ∙ same)) (grew-pushed make slots.utf8 (text-kind _ _) s item c.known.ensures.spans)))
    c.try_push.ensures.ok

pub invariant_of-self : goal.invariant_of-self
invariant_of-self g c =
    let s = c.self.inside.spans in
    let item = option_copied c.bytes_of.result in
    let text = subst (λ i. IsUtf8 (item_bytes i)) (sym c.bytes_of.ensures.same) c.bytes_of.ensures.text in (
      c.self.invariant.0,
      each-after c.try_push.result c.try_push.new.self (pushed_span item s) s c.try_push.ensures.ok c.try_push.ensures.err (each-pushed s item c.known.ensures.spans text c.self.invariant.1) c.self.invariant.1,
    )
