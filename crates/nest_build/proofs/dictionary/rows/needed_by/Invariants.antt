use Rattle.std.proofs.Common.{◌≡◌, take}
use Rattle.nest_model.specs.BuilderRow.{values_needed}
use Rattle.nest_build.specs.Keys.{encoded_keys}
use Rattle.nest_build.proofs.dictionary.rows.needed_by.Given as goal

abbrev pub invariant-loop-i : goal.invariant-loop-i
invariant-loop-i g l = l.needed ≡ values_needed (take l.i (encoded_keys l.keys))
