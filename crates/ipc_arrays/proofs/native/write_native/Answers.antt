use Rattle.std.proofs.Common.{◌++◌, map, ap, ◌∙◌}
use Rattle.ipc_arrays.specs.BodyBuffers.{padded}
use Rattle.ipc_arrays.specs.FixedWidth.{values_bytes}
use Rattle.ipc_arrays.specs.Encoding.{normalized_validity_bytes, flat_buffers}
use Rattle.ipc_arrays.proofs.Arrays.{IsOf, on_ok, two_written, native_buffers}
use Rattle.ipc_arrays.proofs.native.write_native.Goals as goal

pub returns-clause-ok : goal.returns-clause-ok
returns-clause-ok g c =
    let format = g.T.FixedWidth.format in
    let h : IsOf c.args.array.now g.T.NativeType.PRIMITIVE format = record { parts = c.known.ensures.kind; has = g.met.T.FixedWidth.formed; fits = c.known.ensures.fits } in
    let values = ap (map g.T.NativeType.numbers) c.as_slice.ensures ∙ c.values.ensures in
    on_ok c.write_values.result c.write_values.ensures.ok
    (λ e. two_written c.args.out.now.items c.write_validity.new.out.items c.write_values.new.out.items _ _ (flat_buffers c.args.array.now) (native_buffers c.args.array.now g.T.NativeType.PRIMITIVE format h)
    (c.in_ok-write_validity.ensures ∙ (λ w. c.args.out.now.items ++ padded (normalized_validity_bytes (c.validity.ensures w))))
    (e ∙ (λ w. c.write_validity.new.out.items ++ padded (values_bytes format (values w)))))
