-- The model of `Column`.
use Rattle.std.specs.Prelude.{string_bytes}
use Rattle.cli_args.specs.Columns.{ColumnTree, named, indexed}
use Rattle.cli_args.specs.declared.request.Column.{Column}
use Rattle.cli_args.specs.declared.request.Column.TheVariants as declared_columns

abbrev pub column_tree : Column → ColumnTree
column_tree (declared_columns.Named name) = named (string_bytes name)
column_tree (declared_columns.Indexed i) = indexed i
