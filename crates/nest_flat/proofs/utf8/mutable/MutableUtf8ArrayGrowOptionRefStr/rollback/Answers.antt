use Rattle.std.proofs.Common.{◌≤◌, ap, sym, ◌∙◌, arith}
use Rattle.std.specs.Prelude.{if◌then◌else◌}
use Rattle.nest_memory.specs.TypeOf.{type_of}
use Rattle.nest_model.specs.Layout.{Layout}
use Rattle.nest_model.specs.Meaning.{len}
use Rattle.nest_model.specs.Part.{count_rows}
use Rattle.nest_model.specs.Slot as slots
use Rattle.nest_flat.specs.Growth.{rolled_back}
use Rattle.nest_flat.specs.BytesGrowth.{first_spans, bare_spans}
use Rattle.nest_flat.proofs.BytesGrown.{text_made, text-kind, kind-taken, each-taken, each-at}
use Rattle.nest_flat.proofs.utf8.mutable.MutableUtf8ArrayGrowOptionRefStr.rollback.Goals as goal

pub returns : goal.returns
returns g c =
    let make = text_made g.O.Offset.IS_LARGE (type_of c.self.inside.data_type) in
    ap make c.rollback.ensures
    ∙ sym (kind-taken make slots.utf8 (text-kind _ _) c.self.inside.spans c.args.n c.args.masked)
    ∙ ap (λ (a : Layout). rolled_back a c.args.n c.args.masked) c.self.view_is

pub invariant_of-self : goal.invariant_of-self
invariant_of-self g c =
    let s = c.self.inside.spans in
    let k : c.args.n ≤ count_rows s.offsets = omega (arith, c.requires, ap len c.self.view_is) in (
      c.self.invariant.0,
      each-at c.rollback.new.self (if c.args.masked then first_spans c.args.n s else bare_spans (first_spans c.args.n s)) c.rollback.ensures
          (each-taken s c.args.n c.args.masked c.known.ensures.spans k c.self.invariant.1),
    )
