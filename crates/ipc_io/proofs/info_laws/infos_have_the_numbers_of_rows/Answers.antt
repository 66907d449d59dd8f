use Rattle.ipc_io.proofs.InfoRows.{rows_counted_alike}
use Rattle.ipc_io.proofs.info_laws.infos_have_the_numbers_of_rows.Goals as goal

pub returns : goal.returns
returns c = rows_counted_alike
