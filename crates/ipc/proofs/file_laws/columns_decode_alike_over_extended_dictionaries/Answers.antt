use Rattle.ipc.specs.ExtendedColumns.{column_grown, columns_grown, picked_grown, column_fits}
use Rattle.ipc.proofs.file_laws.columns_decode_alike_over_extended_dictionaries.Goals as goal

pub returns-clause-same : goal.returns-clause-same
returns-clause-same c = column_grown

pub returns-clause-columns : goal.returns-clause-columns
returns-clause-columns c = columns_grown

pub returns-clause-picked : goal.returns-clause-picked
returns-clause-picked c = picked_grown

pub returns-clause-arrays : goal.returns-clause-arrays
returns-clause-arrays c = column_fits
