use Rattle.std.proofs.Common.{arith}
use Rattle.std.proofs.lemmas.Result.{err_from_is_err_and}
use Rattle.ipc_flatbuf.specs.WriteErrors.{size_error_of_whole}
use Rattle.ipc_schema.specs.MetadataLaws.{pair_cost, pair_long}
use Rattle.ipc_schema.proofs.metadata.pair_part.Goals as goal

pub returns-in_err-write_string-clause-size : goal.returns-in_err-write_string-clause-size
unfolding pair_cost
returns-in_err-write_string-clause-size c =
    let p = err_from_is_err_and c.from_residual.result c.from_residual.ensures.1 in
    rw (p.1, p.2) (size_error_of_whole _ _ _ (omega (arith, pair_long (c.args.key.now, c.args.value.now))) c.in_err-write_string.ensures.size)

pub returns-in_err-write_string-2-clause-size : goal.returns-in_err-write_string-2-clause-size
unfolding pair_cost
returns-in_err-write_string-2-clause-size c =
    let p = err_from_is_err_and c.from_residual-in_err-write_string-2.result c.from_residual-in_err-write_string-2.ensures.1 in
    rw (p.1, p.2) (size_error_of_whole _ _ _ (omega (arith, pair_long (c.args.key.now, c.args.value.now))) c.in_err-write_string-2.ensures.size)
