use Rattle.std.proofs.Common.{◌++◌, refl, ◌∙◌}
use Rattle.ipc_arrays.specs.BodyBuffers.{padded}
use Rattle.ipc_arrays.specs.Encoding.{rebased, offset_bytes}
use Rattle.ipc_arrays.proofs.Arrays.{two_written}
use Rattle.ipc_arrays.proofs.list.write_list_buffers.Goals as goal

pub returns-clause-ok : goal.returns-clause-ok
returns-clause-ok g c =
    two_written c.args.out.now.items c.write_validity.new.out.items c.write_offsets.new.out.items _ _ _ refl c.in_ok-write_validity.ensures
    (c.in_ok-write_offsets.ensures.ok ∙ (λ w. c.write_validity.new.out.items ++ padded (offset_bytes g.O.Offset.IS_LARGE (rebased (c.in_ok-rows.ensures.ok w)))))
