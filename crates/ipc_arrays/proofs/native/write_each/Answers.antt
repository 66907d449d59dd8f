use Rattle.std.proofs.Common.{◌≡◌, ◌+◌, ◌++◌, map, take, sym, subst}
use Rattle.std.proofs.lemmas.List.{append-nil}
use Rattle.std.specs.List.{AllByRecursion}
use Rattle.ipc_arrays.specs.FixedWidth.{values_bytes}
use Rattle.ipc_arrays.specs.FixedWidthLaws.{ValueRoundTrips}
use Rattle.ipc_arrays.proofs.Bodies.{taken, all_taken, all_push, value_more}
use Rattle.ipc_arrays.proofs.native.write_each.Goals as goal

pub loop-value-init : goal.loop-value-init
unfolding values_bytes
loop-value-init g c = record { written = sym (append-nil c.args.out.now.items); round_trips = tt }

pub loop-value-preserved : goal.loop-value-preserved
loop-value-preserved g c =
    let x = c.value-item.result in
    let i = c.loop-value.value-index in
    let numbers = g.T.NativeType.numbers in
    let format = g.T.FixedWidth.format in
    let more = taken numbers c.args.values.now i x c.loop-value-test.true c.value-item.is in
    record {
      written = value_more format c.args.out.now.items c.loop-value.out.items c.put.new.out.items (map numbers (take i c.args.values.now)) (map numbers (take (i + 1) c.args.values.now)) (numbers x) more c.loop-value.invariant.written c.in_ok-put.ensures.ok;
      round_trips = subst (AllByRecursion (ValueRoundTrips format)) (sym more) (all_push (ValueRoundTrips format) (map numbers (take i c.args.values.now)) (numbers x) c.loop-value.invariant.round_trips c.in_ok-put.ensures.round_trips);
    }

pub returns-clause-ok : goal.returns-clause-ok
returns-clause-ok g c =
    subst (λ vs. c.loop-value.out.items ≡ c.args.out.now.items ++ values_bytes g.T.FixedWidth.format vs) (all_taken g.T.NativeType.numbers c.args.values.now c.loop-value.value-index c.loop-value-test.false) c.loop-value.invariant.written

pub returns-clause-round_trips : goal.returns-clause-round_trips
returns-clause-round_trips g c =
    subst (AllByRecursion (ValueRoundTrips g.T.FixedWidth.format)) (all_taken g.T.NativeType.numbers c.args.values.now c.loop-value.value-index c.loop-value-test.false) c.loop-value.invariant.round_trips
