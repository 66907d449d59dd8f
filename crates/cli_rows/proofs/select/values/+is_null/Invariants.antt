use Rattle.nest_model.specs.Layout.{weight}
use Rattle.nest_array.specs.Seen.{layout_of}
use Rattle.cli_rows.proofs.select.values.+is_null.Given as goal

abbrev pub decreases-is_null : goal.decreases-is_null
decreases-is_null l = weight (layout_of l.array.now)
