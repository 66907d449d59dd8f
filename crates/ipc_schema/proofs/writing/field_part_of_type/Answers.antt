use Rattle.std.proofs.Common.{length, ap, arith}
use Rattle.std.specs.Prelude.{string_bytes}
use Rattle.std.proofs.lemmas.Result.{err_from_is_err_and}
use Rattle.nest_memory.specs.TypeOf.{type_of, entries_of}
use Rattle.ipc_flatbuf.specs.PartBytes as parts
use Rattle.ipc_flatbuf.specs.TemplateLaws.{string_long}
use Rattle.ipc_flatbuf.specs.WriteErrors.{size_error_of_whole}
use Rattle.ipc_schema.specs.SchemaBytes.{spec_type_number, type_bytes, entries_bytes}
use Rattle.ipc_schema.specs.FieldLaws.{field_parts_long}
use Rattle.ipc_schema.proofs.writing.field_part_of_type.Goals as goal

pub returns-in_err-write_type-clause-size : goal.returns-in_err-write_type-clause-size
returns-in_err-write_type-clause-size c =
    let p = err_from_is_err_and c.from_residual.result c.from_residual.ensures.1 in
    let type = type_of c.args.data_type.now in
    let long = field_parts_long c.args.is_nullable (spec_type_number type) c.args.dictionary.now (type_bytes type) c.args.children.now (parts.string_bytes (string_bytes c.args.name.now)) (entries_bytes (entries_of c.args.own.now.entries)) in
    rw (p.1, p.2) (size_error_of_whole _ _ _ (omega (arith, long)) c.in_err-write_type.ensures.size)

pub returns-in_err-write_string-clause-size : goal.returns-in_err-write_string-clause-size
returns-in_err-write_string-clause-size c =
    let p = err_from_is_err_and c.from_residual-in_err-write_string.result c.from_residual-in_err-write_string.ensures.1 in
    let text = string_bytes c.args.name.now in
    let type = type_of c.args.data_type.now in
    let long = field_parts_long c.args.is_nullable (spec_type_number type) c.args.dictionary.now (type_bytes type) c.args.children.now (parts.string_bytes text) (entries_bytes (entries_of c.args.own.now.entries)) in
    rw (p.1, p.2) (size_error_of_whole _ _ _ (omega (arith, long, string_long text, ap length c.as_str.ensures.value)) c.in_err-write_string.ensures.size)

pub returns-in_err-write_metadata-clause-size : goal.returns-in_err-write_metadata-clause-size
returns-in_err-write_metadata-clause-size c =
    let p = err_from_is_err_and c.from_residual-in_err-write_metadata.result c.from_residual-in_err-write_metadata.ensures.1 in
    let type = type_of c.args.data_type.now in
    let long = field_parts_long c.args.is_nullable (spec_type_number type) c.args.dictionary.now (type_bytes type) c.args.children.now (parts.string_bytes (string_bytes c.args.name.now)) (entries_bytes (entries_of c.args.own.now.entries)) in
    rw (p.1, p.2) (size_error_of_whole _ _ _ (omega (arith, long)) c.in_err-write_metadata.ensures.size)
