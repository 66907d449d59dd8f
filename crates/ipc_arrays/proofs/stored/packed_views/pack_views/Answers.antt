use Rattle.std.proofs.Common.{arith, map, sym}
use Rattle.ipc_arrays.specs.Views.{viewed_string}
use Rattle.ipc_arrays.proofs.PackedViews.{packed_none, packed_more, views_fail, views_are_packed}
use Rattle.ipc_arrays.proofs.stored.packed_views.pack_views.Goals as goal

pub loop-i-init : goal.loop-i-init
loop-i-init c = record {
  within = omega arith;
  packed = packed_none (viewed_string c.args.validity.now c.args.views.now (map (λ b. b.now) c.args.variadic.now)) c.in_ok-packed.packed.offsets.items c.in_ok-packed.packed.values.items c.in_ok-packed.ensures;
}

pub returns-in-Err : goal.returns-in-Err
returns-in-Err c = λ known.
    views_fail c.args.validity.now c.args.slots c.args.views.now (map (λ b. b.now) c.args.variadic.now) c.loop-i.i c.loop-i.packed.offsets.items c.loop-i.packed.values.items c.in-Err.error (sym c.if-not-is_enough.ensures) c.loop-i-test.true c.in-Err.ensures c.loop-i.invariant.packed

pub loop-i-preserved : goal.loop-i-preserved
loop-i-preserved c = record {
  within = omega (arith, c.loop-i-test.true);
  packed =
      packed_more (viewed_string c.args.validity.now c.args.views.now (map (λ b. b.now) c.args.variadic.now)) c.loop-i.i c.loop-i.packed.offsets.items c.loop-i.packed.values.items c.push_string.new.packed.offsets.items c.push_string.new.packed.values.items c.in-Ok.string.now
      c.in-Ok.ensures c.in_ok-push_string-in-Ok.ensures.offsets c.in_ok-push_string-in-Ok.ensures.values c.loop-i.invariant.packed;
}

pub returns : goal.returns
returns c =
    views_are_packed c.args.validity.now c.args.slots c.args.views.now (map (λ b. b.now) c.args.variadic.now) c.loop-i.i c.loop-i.packed.offsets.items c.loop-i.packed.values.items (sym c.if-not-is_enough.ensures) (omega (arith, c.loop-i-test.false, c.loop-i.invariant.within)) c.loop-i.invariant.packed
