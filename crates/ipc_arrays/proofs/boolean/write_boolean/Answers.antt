use Rattle.std.proofs.Common.{◌++◌, ap, ◌∙◌}
use Rattle.ipc_arrays.specs.Bitmaps.{bitmap_bytes}
use Rattle.ipc_arrays.specs.BodyBuffers.{padded}
use Rattle.ipc_arrays.specs.Encoding.{normalized_validity_bytes, flat_buffers}
use Rattle.ipc_arrays.proofs.Arrays.{on_ok, two_written}
use Rattle.ipc_arrays.proofs.boolean.write_boolean.Goals as goal

pub returns-clause-ok : goal.returns-clause-ok
returns-clause-ok c =
    on_ok c.write_bitmap.result c.write_bitmap.ensures
    (λ e. two_written c.args.out.now.items c.write_validity.new.out.items c.write_bitmap.new.out.items _ _ (flat_buffers c.args.array.now) (ap flat_buffers c.known.ensures.kind)
    (c.in_ok-write_validity.ensures ∙ (λ w. c.args.out.now.items ++ padded (normalized_validity_bytes (c.validity.ensures w))))
    (e ∙ (λ w. c.write_validity.new.out.items ++ padded (bitmap_bytes (c.values.ensures w)))))
