use Rattle.nest_model.specs.Meaning.{first_len}
use Rattle.ipc.proofs.NamedColumns.{columns-have}
use Rattle.ipc.proofs.column_laws.batch_has_the_columns_of_its_schema.Goals as goal

pub returns : goal.returns
returns c = λ ns cs h. columns-have ns cs (first_len cs) h.0 h.1.0
