use Rattle.std.specs.Prelude.{None, ◌+◌, ◌-◌, List, get_or, slice_range}
use Rattle.std.specs.Str.{IsCharBoundary}
use Rattle.std.proofs.Common.{◌≡◌, ◌∙◌, ℕ, ap, sym, subst, arith}
use Rattle.nest_memory.specs.TypeOf.{type_of}
use Rattle.nest_model.specs.Accessors.{with_validity}
use Rattle.nest_model.specs.Layout.{Layout}
use Rattle.nest_model.specs.Meaning.{slot}
use Rattle.nest_model.specs.Slot as slots
use Rattle.nest_flat.specs.Texts.{IsTextOf}
use Rattle.nest_flat.proofs.Texts.{between-edge, between-slot, offset-at}
use Rattle.nest_flat.proofs.utf8.Utf8Array.value_in.Goals as goal

pub range-requires-clause-start_boundary : goal.range-requires-clause-start_boundary
range-requires-clause-start_boundary g c =
    let h = subst (λ (x : Layout). IsTextOf x c.args.first c.args.end c.args.text.now) (sym c.self.view_is) c.requires.block in
    let a = offset-at c.self.inside.offsets c.args.first c.start_end-start.result.0 c.start_end-start.ensures.first in
    let b = offset-at c.self.inside.offsets c.args.i c.start_end-from.result.0 c.start_end-from.ensures.first in
    let edge = between-edge g.O.Offset.IS_LARGE (type_of c.self.inside.data_type) c.self.inside.offsets c.self.inside.values c.self.inside.validity c.args.first c.args.end c.self.invariant (omega (arith, c.requires.first, c.requires.end)) h.0 c.args.i c.requires.first (omega (arith, c.requires.end)) in
    let p : get_or c.self.inside.offsets c.args.i 0 - get_or c.self.inside.offsets c.args.first 0 ≡ c.start_end-from.result.0 - c.start_end-start.result.0 = λ i. b i - a i in
    λ some. subst (λ n. IsCharBoundary c.args.text.now n) p (subst (λ (x : List ℕ). IsCharBoundary x (get_or c.self.inside.offsets c.args.i 0 - get_or c.self.inside.offsets c.args.first 0)) (sym h.1) edge)

pub range-requires-clause-end_boundary : goal.range-requires-clause-end_boundary
range-requires-clause-end_boundary g c =
    let h = subst (λ (x : Layout). IsTextOf x c.args.first c.args.end c.args.text.now) (sym c.self.view_is) c.requires.block in
    let a = offset-at c.self.inside.offsets c.args.first c.start_end-start.result.0 c.start_end-start.ensures.first in
    let b = offset-at c.self.inside.offsets (c.args.i + 1) c.start_end-from.result.1 c.start_end-from.ensures.second in
    let edge = between-edge g.O.Offset.IS_LARGE (type_of c.self.inside.data_type) c.self.inside.offsets c.self.inside.values c.self.inside.validity c.args.first c.args.end c.self.invariant (omega (arith, c.requires.first, c.requires.end)) h.0 (c.args.i + 1) (omega (arith, c.requires.first)) (omega (arith, c.requires.end)) in
    let p : get_or c.self.inside.offsets (c.args.i + 1) 0 - get_or c.self.inside.offsets c.args.first 0 ≡ c.start_end-from.result.1 - c.start_end-start.result.0 = λ i. b i - a i in
    subst (λ n. IsCharBoundary c.args.text.now n) p (subst (λ (x : List ℕ). IsCharBoundary x (get_or c.self.inside.offsets (c.args.i + 1) 0 - get_or c.self.inside.offsets c.args.first 0)) (sym h.1) edge)

pub returns : goal.returns
returns g c =
    let h = subst (λ (x : Layout). IsTextOf x c.args.first c.args.end c.args.text.now) (sym c.self.view_is) c.requires.block in
    let a = offset-at c.self.inside.offsets c.args.first c.start_end-start.result.0 c.start_end-start.ensures.first in
    let b = offset-at c.self.inside.offsets c.args.i c.start_end-from.result.0 c.start_end-from.ensures.first in
    let d = offset-at c.self.inside.offsets (c.args.i + 1) c.start_end-from.result.1 c.start_end-from.ensures.second in
    let part = between-slot g.O.Offset.IS_LARGE (type_of c.self.inside.data_type) c.self.inside.offsets c.self.inside.values c.self.inside.validity c.args.first c.args.end c.self.invariant (omega (arith, c.requires.first, c.requires.end)) h.0 c.args.i c.requires.first c.requires.end in
    ap (λ (x : Layout). slot (with_validity x None) c.args.i) (sym c.self.view_is)
    ∙ ap slots.utf8 (sym part ∙ (λ i. slice_range (sym h.1 i) (b i - a i) (d i - a i)) ∙ sym c.range.ensures.value)
