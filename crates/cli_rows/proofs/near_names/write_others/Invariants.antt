use Rattle.std.proofs.Common.{◌++◌, codes, map, take}
use Rattle.std.specs.Fmt.{HasWritten, IsPlainFormatter}
use Rattle.std.specs.List.{flat_map}
use Rattle.cli_rows.specs.NearNames.{quoted_name}
use Rattle.cli_rows.proofs.near_names.write_others.Given as goal

abbrev pub invariant-loop-name : goal.invariant-loop-name
invariant-loop-name g l = IsPlainFormatter l.initial.f → HasWritten g.W.Write.write_str_gives l.initial.f (flat_map (λ n. codes ", " ++ quoted_name n) (map (λ n. n.now) (take l.name-index l.names))) l.f
