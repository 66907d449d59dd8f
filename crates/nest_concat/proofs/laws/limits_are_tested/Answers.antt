use Rattle.std.specs.Prelude.{map}
use Rattle.nest_concat.specs.Joined.{first_array, whole}
use Rattle.nest_concat.specs.LaidLaws.{passes-decides}
use Rattle.nest_concat.proofs.laws.limits_are_tested.Goals as goal

pub returns-clause-windows : goal.returns-clause-windows
returns-clause-windows c a ws = passes-decides a ws

pub returns-clause-wholes : goal.returns-clause-wholes
returns-clause-wholes c bs = passes-decides (first_array (map whole bs)) (map whole bs)
