use Rattle.std.proofs.Common.{inl, inr, refl}
use Rattle.cli_rows.specs.Tables.{table_of}
use Rattle.cli_read.proofs.by_index.encoded.take_lines.Goals as goal

pub returns-in-Err-clause-error : goal.returns-in-Err-clause-error
returns-in-Err-clause-error g c = inl c.in-Err.ensures.error

pub returns-in-Ok-table_text-clause-text : goal.returns-in-Ok-table_text-clause-text
returns-in-Ok-table_text-clause-text g c = (table_of c.in-Ok.table, c.in-Ok.ensures.rows, c.in-Ok-table_text.ensures.text)

pub returns-in-Err-table_text-clause-error : goal.returns-in-Err-table_text-clause-error
returns-in-Err-table_text-clause-error g c = inr (table_of c.in-Ok.table, c.in-Ok.ensures.rows, refl, c.in-Err-table_text.ensures.error, c.in-Ok.ensures.names)
