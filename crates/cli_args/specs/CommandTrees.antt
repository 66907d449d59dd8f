-- The models of `ColumnNames`, `Command` and `Arguments`.
use Rattle.std.specs.Prelude.{map, option_map, string_bytes}
use Rattle.cli_args.specs.Commands.{ArgumentsTree, ColumnNamesTree, CommandTree, listed, in_file, schema, select, tail, count, info, equal, concat, convert, from_json}
use Rattle.cli_args.specs.RequestTrees.{selection_tree}
use Rattle.cli_args.specs.declared.arguments.Arguments.{Arguments}
use Rattle.cli_args.specs.declared.arguments.ColumnNames.{ColumnNames}
use Rattle.cli_args.specs.declared.arguments.ColumnNames.TheVariants as column_lists
use Rattle.cli_args.specs.declared.command.Command.{Command}
use Rattle.cli_args.specs.declared.command.Command.TheVariants as commands

abbrev pub command_tree : Command → CommandTree
command_tree (commands.Schema file) = schema file.now
command_tree (commands.Select file selection out) = select file.now (selection_tree selection) (option_map (λ o. o.now) out)
command_tree (commands.Tail file n) = tail file.now n
command_tree (commands.Count file) = count file.now
command_tree (commands.Info file) = info file.now
command_tree (commands.Equal file other) = equal file.now other.now
command_tree (commands.Concat files out) = concat (map (λ f. f.now) files.items) out.now
command_tree (commands.Convert file out) = convert file.now out.now
command_tree (commands.FromJson i) = from_json i.row_type.now i.input.now i.output.now

abbrev pub column_names_tree : ColumnNames → ColumnNamesTree
column_names_tree (column_lists.Listed names) = listed (map string_bytes names.items)
column_names_tree (column_lists.InFile file) = in_file file.now

abbrev pub arguments_tree : Arguments → ArgumentsTree
arguments_tree a = record { columns = option_map column_names_tree a.columns; command = command_tree a.command }
