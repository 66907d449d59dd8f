use Rattle.std.proofs.Common.{◌++◌, ap, sym, ◌∙◌}
use Rattle.nest_memory.specs.Sublist.{sublist}
use Rattle.ipc_arrays.specs.BodyBuffers.{padded}
use Rattle.ipc_arrays.specs.FixedWidth.{offset_format, type_format}
use Rattle.ipc_arrays.specs.Encoding.{numbers_bytes}
use Rattle.std.specs.Prelude.{false}
use Rattle.ipc_arrays.proofs.Arrays.{on_ok, one_written, two_written}
use Rattle.ipc_arrays.proofs.Covers.{own_sparse, own_dense}
use Rattle.ipc_arrays.proofs.union.write_union_buffers.Goals as goal

pub returns-in-None-clause-ok : goal.returns-in-None-clause-ok
returns-in-None-clause-ok c =
    let a = c.args.array.now in
    let types = c.part.ensures ∙ ap (λ zs. sublist zs c.args.offset c.args.count) c.types.ensures in
    one_written c.args.out.now.items c.write_values.new.out.items _ _ (own_sparse a c.args.offset c.args.count c.known.ensures.kind (sym c.in-None.ensures))
    (c.in_ok-write_values.ensures.ok ∙ (λ w. c.args.out.now.items ++ padded (numbers_bytes type_format (types w))))

pub returns-in-Some-clause-ok : goal.returns-in-Some-clause-ok
returns-in-Some-clause-ok c =
    let a = c.args.array.now in
    let types = c.part.ensures ∙ ap (λ zs. sublist zs c.args.offset c.args.count) c.types.ensures in
    on_ok c.write_values-in-Some.result c.write_values-in-Some.ensures.ok
    (λ h. two_written c.args.out.now.items c.write_values.new.out.items c.write_values-in-Some.new.out.items _ _ _ (own_dense a c.in-Some.offsets.now c.args.offset c.args.count c.known.ensures.kind (sym c.in-Some.ensures))
    (c.in_ok-write_values.ensures.ok ∙ (λ w. c.args.out.now.items ++ padded (numbers_bytes type_format (types w))))
    (h ∙ (λ w. c.write_values.new.out.items ++ padded (numbers_bytes (offset_format false) (c.part-in-Some.ensures w)))))
