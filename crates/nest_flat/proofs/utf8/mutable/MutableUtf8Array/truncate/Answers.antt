use Rattle.std.proofs.Common.{◌≤◌, ap, ◌∙◌, arith}
use Rattle.nest_memory.specs.Sublist.{sublist}
use Rattle.nest_memory.specs.TypeOf.{type_of}
use Rattle.nest_model.specs.Layout.{Layout}
use Rattle.nest_model.specs.Meaning.{len, slots_of}
use Rattle.nest_model.specs.Part.{count_rows}
use Rattle.nest_model.specs.Slot as slots
use Rattle.nest_flat.specs.BytesGrowth.{Spans, first_spans}
use Rattle.nest_flat.proofs.BytesGrown.{text_made, text-kind, kind-first, each-first, each-at}
use Rattle.nest_flat.proofs.utf8.mutable.MutableUtf8Array.truncate.Goals as goal

pub returns-clause-slots : goal.returns-clause-slots
returns-clause-slots g c =
    let make = text_made g.O.Offset.IS_LARGE (type_of c.self.inside.data_type) in
    let k : c.args.n ≤ count_rows c.self.inside.spans.offsets = omega (arith, c.requires, ap len c.self.view_is) in
    ap (λ (r : Spans). slots_of (make r)) c.rollback.ensures
    ∙ kind-first make slots.utf8 (text-kind _ _) c.self.inside.spans c.args.n c.known.ensures.spans k
    ∙ ap (λ (a : Layout). sublist (slots_of a) 0 c.args.n) c.self.view_is

pub invariant_of-self : goal.invariant_of-self
invariant_of-self g c =
    let s = c.self.inside.spans in
    let k : c.args.n ≤ count_rows s.offsets = omega (arith, c.requires, ap len c.self.view_is) in
    (c.self.invariant.0, each-at c.rollback.new.self (first_spans c.args.n s) c.rollback.ensures (each-first s c.args.n c.known.ensures.spans k c.self.invariant.1))
