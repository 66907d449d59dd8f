use Rattle.std.proofs.Common.{sym, ◌∙◌}
use Rattle.std.specs.Prelude.{pos}
use Rattle.ipc_flatbuf.specs.declared.batch.parts.BufferSpec.{BufferSpec}
use Rattle.ipc_flatbuf.proofs.Loops.{within_more, within_ends, within_done}
use Rattle.ipc_flatbuf.proofs.batch.bounds.each_within.Goals as goal

pub loop-buffer-preserved : goal.loop-buffer-preserved
loop-buffer-preserved c =
    let zero : BufferSpec = record { offset = pos 0; length = pos 0 } in
    within_more c.args.body c.args.buffers.now c.loop-buffer.buffer-index zero c.loop-buffer-test.true (sym c.is_within.ensures ∙ c.if-not-is_within.false) c.loop-buffer.invariant

pub returns-then-not-is_within : goal.returns-then-not-is_within
returns-then-not-is_within c =
    let zero : BufferSpec = record { offset = pos 0; length = pos 0 } in
    sym (within_ends c.args.body c.args.buffers.now c.loop-buffer.buffer-index zero c.loop-buffer-test.true (sym c.is_within.ensures ∙ c.if-not-is_within.true) c.loop-buffer.invariant)

pub returns : goal.returns
returns c = sym (within_done c.args.body c.args.buffers.now c.loop-buffer.buffer-index c.loop-buffer-test.false c.loop-buffer.invariant)
