use Rattle.std.proofs.Common.{◌++◌, ◌∙◌}
use Rattle.ipc_arrays.specs.BodyBuffers.{padded}
use Rattle.ipc_arrays.proofs.Arrays.{on_ok, three_written}
use Rattle.ipc_arrays.proofs.strings.write_strings.Goals as goal

pub returns-clause-ok : goal.returns-clause-ok
returns-clause-ok g c =
    on_ok c.write_bytes.result c.write_bytes.ensures
    (λ e. three_written c.args.out.now.items c.write_validity.new.out.items c.write_offsets.new.out.items c.write_bytes.new.out.items _ _ _ c.in_ok-write_validity.ensures c.in_ok-write_offsets.ensures.ok
    (e ∙ (λ w. c.write_offsets.new.out.items ++ padded (c.covered_bytes.ensures w))))
