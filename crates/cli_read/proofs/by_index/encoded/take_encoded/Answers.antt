use Rattle.std.proofs.Common.{inl, inr, refl}
use Rattle.cli_rows.specs.Tables.{table_of}
use Rattle.cli_read.proofs.by_index.encoded.take_encoded.Goals as goal

pub returns-in-Err-clause-error : goal.returns-in-Err-clause-error
returns-in-Err-clause-error g c = inl c.in-Err.ensures.error

pub returns-in-Ok-written-clause-bytes : goal.returns-in-Ok-written-clause-bytes
returns-in-Ok-written-clause-bytes g c = (table_of c.in-Ok.table, c.in-Ok.ensures.rows, c.in-Ok-written.ensures.bytes)

pub returns-in-Err-written-clause-error : goal.returns-in-Err-written-clause-error
returns-in-Err-written-clause-error g c = inr (table_of c.in-Ok.table, c.in-Err-written.error, c.in-Ok.ensures.rows, refl, refl, c.in-Err-written.ensures.error, c.in-Ok.ensures.names)
