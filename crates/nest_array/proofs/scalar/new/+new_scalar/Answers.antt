use Rattle.std.proofs.Common.{◌≡◌, ◌+◌, ◌<◌, length, ap, sym, ◌∙◌, arith}
use Rattle.nest_model.specs.Layout.{weight, weight_all}
use Rattle.nest_model.specs.Meaning.{len}
use Rattle.nest_model.specs.Slot as slots
use Rattle.nest_array.specs.Seen.{layout_of, layouts_of}
use Rattle.nest_array.proofs.Children.{covers-at, weight-at}
use Rattle.nest_array.proofs.Keyed.{keyed-place}
use Rattle.nest_array.proofs.KeyedScalars.{keyed-value}
use Rattle.nest_array.proofs.SameRows.{struct-known, children-cover, record-shown}
use Rattle.nest_array.proofs.Scalars.{made-slots, made-types, fields-typed}
use Rattle.nest_array.proofs.scalar.new.+new_scalar.Goals as goal

pub record_at-scalars_at-requires : goal.record_at-scalars_at-requires
record_at-scalars_at-requires t c =
    let x = struct-known c.args.records.now (layouts_of c.values.result.now) c.known.ensures.fits c.known.ensures.kind c.values.ensures in
    let w = ap weight c.known.ensures.kind in
    let v = ap weight_all c.values.ensures in
    (omega (arith, w, v), children-cover c.args.records.now _ (c.args.i + 1) x c.known.ensures.kind c.values.ensures (omega arith))

pub record_at-returns-in-Ok-clause-ok : goal.record_at-returns-in-Ok-clause-ok
record_at-returns-in-Ok-clause-ok t c =
    let x = struct-known c.args.records.now (layouts_of c.values.result.now) c.known.ensures.fits c.known.ensures.kind c.values.ensures in
    record {
      spells = ap slots.record_of c.in-Ok.ensures.slots
          ∙ sym (record-shown c.args.records.now _ c.args.i _ c.known.ensures.kind c.values.ensures c.is_null.ensures.place c.if-is_null.false);
      fits = fields-typed c.args.records.now _ _ x c.in-Ok.ensures.types;
    }

pub pick_at-new_scalar-requires : goal.pick_at-new_scalar-requires
pick_at-new_scalar-requires t c =
    let l = ap len c.field_at.ensures.shown in
    (omega (arith, c.field_at.ensures.lighter), omega (arith, l, c.index-field.ensures.slot_there))

pub scalars_at-new_scalar-requires : goal.scalars_at-new_scalar-requires
scalars_at-new_scalar-requires t c =
    let l : c.loop-k.k < length c.args.arrays.now = omega arith in
    let d = c.index-arrays-k.result in
    let w = weight-at c.args.arrays.now c.loop-k.k d l in
    let v = ap (λ a. weight (layout_of a)) c.index-arrays-k.is in
    let a = covers-at c.args.arrays.now c.loop-k.k (c.args.i + 1) d c.requires l in
    let p = ap (λ z. len (layout_of z)) c.index-arrays-k.is in
    (omega arith, omega arith)

pub scalars_at-returns-clause-slots : goal.scalars_at-returns-clause-slots
scalars_at-returns-clause-slots t c =
    let l : length c.loop-k.scalars.items ≡ length c.args.arrays.now = omega (arith, c.loop-k.invariant.same_length) in
    made-slots c.loop-k.scalars.items c.args.arrays.now c.args.i l (λ j d e n. c.loop-k.invariant.done j d e (omega arith))

pub scalars_at-returns-clause-types : goal.scalars_at-returns-clause-types
scalars_at-returns-clause-types t c =
    let l : length c.loop-k.scalars.items ≡ length c.args.arrays.now = omega (arith, c.loop-k.invariant.same_length) in
    made-types c.loop-k.scalars.items c.args.arrays.now c.args.i l (λ j d e n. c.loop-k.invariant.done j d e (omega arith))

pub keyed_at-value_at-requires : goal.keyed_at-value_at-requires
keyed_at-value_at-requires t c =
    let a = c.args.keyed.now in
    let w = ap weight c.values.ensures in
    let e = ap weight c.known.ensures.kind in
    let u = ap len c.values.ensures in
    let x = keyed-place a c.args.i c.known.ensures.fits c.known.ensures.kind c.requires (sym c.is_null.ensures.place ∙ c.if-is_null.false) in
    (omega arith, omega (arith, u, x, c.place.ensures))

pub keyed_at-returns-clause-ok : goal.keyed_at-returns-clause-ok
keyed_at-returns-clause-ok t c =
    keyed-value c.args.keyed.now (layout_of c.values.result.now) c.args.i _ _ c.known.ensures.fits c.known.ensures.kind c.values.ensures c.place.ensures
    (sym c.is_null.ensures.place ∙ c.if-is_null.false) c.value_at.ensures.ok
