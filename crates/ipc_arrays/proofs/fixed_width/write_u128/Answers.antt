use Rattle.ipc_arrays.proofs.Arrays.{appended}
use Rattle.ipc_arrays.proofs.fixed_width.write_u128.Goals as goal

pub returns-clause-ok : goal.returns-clause-ok
returns-clause-ok c = appended c.extend_from_slice.result c.args.out.now.items c.extend_from_slice.new.self.items c.to_le_bytes.result _ c.to_le_bytes.ensures c.extend_from_slice.ensures.items
