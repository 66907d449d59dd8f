use Rattle.std.proofs.Common.{[], ◌∷◌, ◌++◌, ap, sym, ◌∙◌, subst}
use Rattle.std.proofs.lemmas.Result.{on_ok_weaker}
use Rattle.std.specs.Option.{option_copied}
use Rattle.std.specs.Str.{IsUtf8}
use Rattle.nest_memory.specs.TypeOf.{type_of}
use Rattle.nest_model.specs.Layout.{Layout}
use Rattle.nest_model.specs.Meaning.{slots_of}
use Rattle.nest_model.specs.Slot as slots
use Rattle.nest_flat.specs.FlatParts.{optional}
use Rattle.nest_flat.specs.BytesGrowth.{Spans, item_bytes, pushed_span}
use Rattle.nest_flat.proofs.BytesGrown.{text_made, text-kind, kind-pushed, each-pushed, each-after}
use Rattle.nest_flat.proofs.utf8.mutable.MutableUtf8Array.try_push.Goals as goal

pub returns-clause-slots : goal.returns-clause-slots
returns-clause-slots g c =
    let make = text_made g.O.Offset.IS_LARGE (type_of c.self.inside.data_type) in
    let item = option_copied c.args.item in
    let same = ap (λ i. pushed_span i c.self.inside.spans) c.bytes_of.ensures.same in
    on_ok_weaker c.try_push.result
    (λ e. ap (λ (r : Spans). slots_of (make r)) (e ∙ same)
    ∙ kind-pushed make slots.utf8 (text-kind _ _) c.self.inside.spans item c.known.ensures.spans
    ∙ ap (λ (a : Layout). slots_of a ++ optional slots.utf8 item ∷ []) c.self.view_is)
    c.try_push.ensures.ok

pub invariant_of-self : goal.invariant_of-self
invariant_of-self g c =
    let s = c.self.inside.spans in
    let item = option_copied c.bytes_of.result in
    let text = subst (λ i. IsUtf8 (item_bytes i)) (sym c.bytes_of.ensures.same) c.bytes_of.ensures.text in (
      c.self.invariant.0,
      each-after c.try_push.result c.try_push.new.self (pushed_span item s) s c.try_push.ensures.ok c.try_push.ensures.err (each-pushed s item c.known.ensures.spans text c.self.invariant.1) c.self.invariant.1,
    )
