use Rattle.std.proofs.Common.{refl}
use Rattle.nest_model.specs.BuilderAddRowLaws.{with_row-ready, list_rows_added}
use Rattle.nest_model.proofs.builders.rows_added.Goals as goal

pub returns-clause-row : goal.returns-clause-row
returns-clause-row c = with_row-ready

pub returns-clause-lengths : goal.returns-clause-lengths
returns-clause-lengths c = λ ns large k rows c w n. list_rows_added ns large k rows _ c refl n w
