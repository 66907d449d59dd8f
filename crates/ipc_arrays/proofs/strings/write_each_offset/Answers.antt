use Rattle.std.proofs.Common.{◌≡◌, ◌+◌, ◌-◌, ◌++◌, ◌∷◌, [], map, take, sym, ap, subst, arith}
use Rattle.std.specs.List.{AllByRecursion}
use Rattle.std.proofs.lemmas.List.{append-nil}
use Rattle.nest_memory.specs.Native.{unsigned}
use Rattle.ipc_arrays.specs.FixedWidth.{offset_format, values_bytes}
use Rattle.ipc_arrays.specs.FixedWidthLaws.{ValueRoundTrips}
use Rattle.ipc_arrays.specs.Encoding.{rebased}
use Rattle.ipc_arrays.proofs.Bodies.{value_more, all_push}
use Rattle.ipc_arrays.proofs.Offsets.{first_rebased, next_rebased, end_small, first_small}
use Rattle.ipc_arrays.proofs.strings.write_each_offset.Goals as goal

pub loop-i-init : goal.loop-i-init
unfolding values_bytes
loop-i-init g c =
    let format = offset_format g.O.Offset.IS_LARGE in
    let os = c.args.offsets.now in
    let first : map unsigned (take (0 + 1) (rebased os)) ≡ [] ++ unsigned 0 ∷ [] = ap (map unsigned) (first_rebased os c.known.ensures.some) in
    record {
      written = value_more format c.args.out.now.items c.args.out.now.items c.write_offset.new.out.items [] (map unsigned (take (0 + 1) (rebased os))) (unsigned 0) first (sym (append-nil c.args.out.now.items)) c.in_ok-write_offset.ensures.ok;
      round_trips = subst (AllByRecursion (ValueRoundTrips format)) (sym first) (c.in_ok-write_offset.ensures.round_trips, tt);
    }

pub overflow_sub-end : goal.overflow_sub-end
overflow_sub-end g c = first_small c.args.offsets.now (c.loop-i.i + 1) c.first-first.result c.start_end-end.result.1 c.known.ensures.rising (omega (arith, c.loop-i-test.true, c.len_proxy-i-end.ensures)) c.first-first.ensures c.start_end-end.ensures.second

pub write_offset-requires-in-loop-i : goal.write_offset-requires-in-loop-i
write_offset-requires-in-loop-i g c =
    let small = end_small c.args.offsets.now c.loop-i.i c.start_end-end.result.1 g.O.Offset.largest c.known.ensures.rising (omega (arith, c.loop-i-test.true, c.len_proxy-i-end.ensures)) c.start_end-end.ensures.second c.known.ensures.fits in
    omega (arith, small)

pub loop-i-preserved : goal.loop-i-preserved
loop-i-preserved g c =
    let format = offset_format g.O.Offset.IS_LARGE in
    let os = c.args.offsets.now in
    let before = map unsigned (take (c.loop-i.i + 1) (rebased os)) in
    let after = map unsigned (take (c.loop-i.i + 1 + 1) (rebased os)) in
    let offset = unsigned (c.start_end-end.result.1 - c.first-first.result) in
    let more = next_rebased os c.loop-i.i c.first-first.result c.start_end-end.result.1 (omega (arith, c.loop-i-test.true, c.len_proxy-i-end.ensures)) c.first-first.ensures c.start_end-end.ensures.second in
    record {
      written = value_more format c.args.out.now.items c.loop-i.out.items c.write_offset-in-loop-i.new.out.items before after offset more c.loop-i.invariant.written c.in_ok-write_offset-2.ensures.ok;
      round_trips = subst (AllByRecursion (ValueRoundTrips format)) (sym more) (all_push (ValueRoundTrips format) before offset c.loop-i.invariant.round_trips c.in_ok-write_offset-2.ensures.round_trips);
    }
