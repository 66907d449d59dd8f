use Rattle.std.proofs.Common.{[], ◌∷◌, true, false, refl}
use Rattle.cli_rows.specs.TableExamples.{boolean_table}
use Rattle.cli_rows.proofs.laws.inputs_are_concatenated.Goals as goal

pub returns : goal.returns
returns c = record {
  parts = boolean_table ((true ∷ []) ∷ []) ∷ boolean_table ((false ∷ []) ∷ []) ∷ [];
  read = refl;
  schemas = (refl, (refl, tt));
  batches = refl;
}
