use Rattle.std.proofs.Common.{arith}
use Rattle.nest_model.specs.Part.{count_rows}
use Rattle.ipc_arrays.specs.Decoding.{binary_parts, string_of_slot}
use Rattle.ipc_arrays.proofs.Packings.{packed_none, packed_more, packed_done, packed_errs}
use Rattle.ipc_arrays.proofs.utf8.pack_slots.Goals as goal

pub loop-i-init : goal.loop-i-init
loop-i-init g c = record {
  within = omega arith;
  packed = packed_none (string_of_slot (binary_parts c.args.offsets.now c.args.bytes.now c.args.validity.now)) c.in_ok-packed.packed.offsets c.in_ok-packed.packed.bytes.items c.in_ok-packed.ensures;
}

pub returns-in-Err : goal.returns-in-Err
returns-in-Err g c = λ known.
    packed_errs (string_of_slot (binary_parts c.args.offsets.now c.args.bytes.now c.args.validity.now)) c.loop-i.i (count_rows c.args.offsets.now) c.loop-i.packed.offsets c.loop-i.packed.bytes.items c.args.validity.now c.in-Err.error (omega (arith, c.loop-i-test.true, c.len_proxy-slots.ensures)) c.in-Err.ensures c.loop-i.invariant.packed

pub loop-i-preserved : goal.loop-i-preserved
loop-i-preserved g c = record {
  within = omega (arith, c.loop-i-test.true, c.len_proxy-slots.ensures);
  packed =
      packed_more (string_of_slot (binary_parts c.args.offsets.now c.args.bytes.now c.args.validity.now)) c.loop-i.i c.loop-i.packed.offsets c.loop-i.packed.bytes.items c.push_string.new.packed.offsets c.push_string.new.packed.bytes.items c.in-Ok.string.now
      c.in-Ok.ensures c.in_ok-push_string-in-Ok.ensures.offsets c.in_ok-push_string-in-Ok.ensures.bytes c.loop-i.invariant.packed;
}

pub returns : goal.returns
returns g c =
    packed_done (string_of_slot (binary_parts c.args.offsets.now c.args.bytes.now c.args.validity.now)) c.loop-i.i (count_rows c.args.offsets.now) c.loop-i.packed.offsets c.loop-i.packed.bytes.items c.args.validity.now (omega (arith, c.loop-i-test.false, c.loop-i.invariant.within, c.len_proxy-slots.ensures)) c.loop-i.invariant.packed
