use Rattle.std.proofs.Common.{refl}
use Rattle.ipc_arrays.proofs.Arrays.{one_written}
use Rattle.ipc_arrays.proofs.writing.write_validity_only.Goals as goal

pub returns-clause-ok : goal.returns-clause-ok
returns-clause-ok c = one_written c.args.out.now.items c.write_validity.new.out.items _ _ refl c.in_ok-write_validity.ensures
