use Rattle.std.proofs.Common.{Option, length, ap, arith}
use Rattle.std.specs.Prelude.{String, string_bytes}
use Rattle.std.specs.declared.alloc.Global.{Global}
use Rattle.std.proofs.lemmas.Result.{err_from_is_err_and}
use Rattle.nest_memory.specs.TypeOf.{text_of}
use Rattle.ipc_flatbuf.specs.WriteErrors.{size_error_of_whole}
use Rattle.ipc_schema.specs.SchemaBytes.{timestamp_bytes}
use Rattle.ipc_schema.specs.TypeLaws.{timestamp_long}
use Rattle.ipc_schema.proofs.type_writing.write_timestamp.Goals as goal

pub returns-in_err-write_string-in-Some-clause-size : goal.returns-in_err-write_string-in-Some-clause-size
returns-in_err-write_string-in-Some-clause-size c =
    let p = err_from_is_err_and c.from_residual-in_err-write_string-in-Some.result c.from_residual-in_err-write_string-in-Some.ensures.1 in
    rw (p.1, p.2) (size_error_of_whole _ _ _ (omega (arith, ap (λ (zone : Option (String Global)). length (timestamp_bytes c.args.unit (text_of zone))) c.in-Some.is, timestamp_long c.args.unit (string_bytes c.in-Some.zone), ap length c.as_str.ensures.value)) c.in_err-write_string-in-Some.ensures.size)
