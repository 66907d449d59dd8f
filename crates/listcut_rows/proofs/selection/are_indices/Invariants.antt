use Rattle.std.proofs.Common.{◌≡◌, ◌^◌, true, map, take}
use Rattle.std.specs.List.{list_all}
use Rattle.std.specs.Option.{is_some}
use Rattle.std.specs.Prelude.{string_bytes}
use Rattle.listcut_rows.specs.Grammar.{number_below}
use Rattle.listcut_rows.proofs.selection.are_indices.Given as goal

abbrev pub invariant-loop-argument : goal.invariant-loop-argument
invariant-loop-argument l = list_all (λ word. is_some (number_below (2 ^ 64) word)) (take l.argument-index (map string_bytes l.arguments)) ≡ true
