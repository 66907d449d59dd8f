use Rattle.std.proofs.Common.{map, arith}
use Rattle.std.proofs.lemmas.Result.{err_from_is_err_and}
use Rattle.nest_memory.specs.TypeOf.{entries_of}
use Rattle.ipc_flatbuf.specs.VectorLaws.{table_vector_is_long}
use Rattle.ipc_flatbuf.specs.WriteErrors.{size_error_of_whole}
use Rattle.ipc_schema.specs.SchemaBytes.{pair_bytes}
use Rattle.ipc_schema.proofs.metadata.write_metadata.Goals as goal

pub returns-in_err-parts-clause-size : goal.returns-in_err-parts-clause-size
returns-in_err-parts-clause-size c =
    let p = err_from_is_err_and c.from_residual.result c.from_residual.ensures.1 in
    rw (p.1, p.2) (size_error_of_whole _ _ _ (omega (arith, table_vector_is_long 8 (map pair_bytes (entries_of c.args.metadata.now.entries)))) c.in_err-parts.ensures.size)
