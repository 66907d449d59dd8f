use Rattle.std.proofs.Common.{◌++◌, ap, ◌∙◌}
use Rattle.std.proofs.lemmas.Result.{on_ok_weaker}
use Rattle.nest_memory.specs.TypeOf.{type_of}
use Rattle.nest_model.specs.Meaning.{slots_of}
use Rattle.nest_model.specs.Slot as slots
use Rattle.nest_flat.specs.BytesGrowth.{Spans, joined_spans}
use Rattle.nest_flat.proofs.BytesGrown.{text_made, text-kind, kind-joined, each-joined, each-after}
use Rattle.nest_flat.proofs.utf8.mutable.MutableUtf8Array.append.Goals as goal

pub returns-clause-slots : goal.returns-clause-slots
returns-clause-slots g c =
    let make = text_made g.O.Offset.IS_LARGE (type_of c.self.inside.data_type) in
    on_ok_weaker c.try_extend_from_self.result
    (λ e. ap (λ (r : Spans). slots_of (make r)) e
    ∙ kind-joined make slots.utf8 (text-kind _ _) c.self.inside.spans c.other.inside.spans c.known.ensures.spans c.known-2.ensures.spans
    ∙ (λ j. slots_of (c.self.view_is j) ++ slots_of (c.other.view_is j)))
    c.try_extend_from_self.ensures.ok

pub invariant_of-self : goal.invariant_of-self
invariant_of-self g c =
    let s = c.self.inside.spans in
    let r = c.other.inside.spans in (
      c.self.invariant.0,
      each-after c.try_extend_from_self.result c.try_extend_from_self.new.self (joined_spans s r) s c.try_extend_from_self.ensures.ok c.try_extend_from_self.ensures.err
          (each-joined s r c.known.ensures.spans c.known-2.ensures.spans c.self.invariant.1 c.other.invariant.1) c.self.invariant.1,
    )
