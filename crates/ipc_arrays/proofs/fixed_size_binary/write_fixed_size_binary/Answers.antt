use Rattle.std.proofs.Common.{◌++◌, ap, ◌∙◌}
use Rattle.ipc_arrays.specs.BodyBuffers.{padded}
use Rattle.ipc_arrays.specs.Encoding.{normalized_validity_bytes, flat_buffers}
use Rattle.ipc_arrays.proofs.Arrays.{on_ok, two_written}
use Rattle.ipc_arrays.proofs.fixed_size_binary.write_fixed_size_binary.Goals as goal

pub returns-clause-ok : goal.returns-clause-ok
returns-clause-ok c =
    on_ok c.write_bytes.result c.write_bytes.ensures
    (λ e. two_written c.args.out.now.items c.write_validity.new.out.items c.write_bytes.new.out.items _ _ (flat_buffers c.args.array.now) (ap flat_buffers c.known.ensures.kind)
    (c.in_ok-write_validity.ensures ∙ (λ w. c.args.out.now.items ++ padded (normalized_validity_bytes (c.validity.ensures w))))
    (e ∙ (λ w. c.write_validity.new.out.items ++ padded ((c.as_slice.ensures ∙ c.values.ensures) w))))
