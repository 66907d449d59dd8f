use Rattle.std.proofs.Common.{arith}
use Rattle.std.proofs.lemmas.Result.{err_from_is_err_and}
use Rattle.ipc_flatbuf.specs.WriteErrors.{size_error_of_whole}
use Rattle.ipc_schema.specs.FieldLaws.{field_parts_long}
use Rattle.ipc_schema.proofs.writing.write_field.Goals as goal

pub returns-in_err-write_head-clause-size : goal.returns-in_err-write_head-clause-size
returns-in_err-write_head-clause-size c =
    let p = err_from_is_err_and c.from_residual.result c.from_residual.ensures.1 in
    let long = field_parts_long c.args.is_nullable c.args.tag c.args.dictionary.now c.args.data_type.now c.args.children.now c.args.name.now c.args.metadata.now in
    rw (p.1, p.2) (size_error_of_whole _ _ _ (omega (arith, long)) c.in_err-write_head.ensures.size)
