use Rattle.std.proofs.Common.{arith, refl, inr, append_assoc}
use Rattle.std.proofs.lemmas.Result.{err_from_is_err_and}
use Rattle.ipc_flatbuf.specs.PartBytes.{table_vector_bytes}
use Rattle.ipc_flatbuf.specs.WriteErrors.{size_error_of_whole}
use Rattle.ipc_flatbuf.proofs.Parts.{row_bytes_long, count_is}
use Rattle.ipc_flatbuf.proofs.writers.write_tables.Goals as goal

pub returns-then-count-clause-size : goal.returns-then-count-clause-size
returns-then-count-clause-size c = inr (refl, omega (arith, row_bytes_long c.args.head c.args.bodies.now))

pub returns-in_err-write_offsets-clause-size : goal.returns-in_err-write_offsets-clause-size
returns-in_err-write_offsets-clause-size c =
    let p = err_from_is_err_and c.from_residual-in_err-write_offsets.result c.from_residual-in_err-write_offsets.ensures.1 in
    rw (p.1, p.2) (size_error_of_whole _ _ _ (omega (arith, row_bytes_long c.args.head c.args.bodies.now)) c.in_err-write_offsets.ensures.size)

pub returns-clause-ok : goal.returns-clause-ok
unfolding table_vector_bytes
returns-clause-ok c = rw (c.in_ok-write_each.ensures, c.in_ok-write_zeros.ensures, c.in_ok-write_offsets.ensures.ok, c.in_ok-write_u32.ensures, count_is c.args.bodies.now) (simp append_assoc)
