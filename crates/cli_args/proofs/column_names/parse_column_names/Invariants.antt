use Rattle.std.proofs.Common.{length, map}
use Rattle.std.specs.Prelude.{option_map, string_bytes}
use Rattle.cli_args.specs.ColumnNames.{column_names}
use Rattle.cli_args.proofs.NameLists.{IsRead, size}
use Rattle.cli_args.proofs.column_names.parse_column_names.Given as goal

abbrev pub invariant-names : goal.invariant-names
invariant-names l = IsRead (length l.text) (map string_bytes l.names.items) (option_map (λ r. r.now) l.rest) (column_names l.text)

abbrev pub decreases-names : goal.decreases-names
decreases-names l = size (option_map (λ r. r.now) l.rest)
