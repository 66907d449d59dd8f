-- A command of `nest` and its arguments, by what clap finds in the arguments of the process.
use Rattle.std.specs.Prelude.{ℕ, ◌^◌, Bool, List, [], map, ◌&&◌, Option, Some, None, option_map, Result, Ok, Err, unwrap_or, nat_lt, bytes_eq, codes, if◌then◌else◌}
use Rattle.std.specs.Str.Parse.{digits_value, without_leading_plus}
use Rattle.clap.specs.Faults.{fault_of}
use Rattle.clap.specs.Kinds.{Kinds, or_else}
use Rattle.clap.specs.Matches.{found_of}
use Rattle.clap.specs.ValueTests.{is_numeral}
use Rattle.clap.specs.Words.{Row, Text, all_of, first_of, rows_of, subcommand_of}
use Rattle.clap.specs.declared.parser.matches.ArgMatches.{ArgMatches}
use Rattle.cli_args.specs.ColumnNames.{column_names}
use Rattle.cli_args.specs.CommandLine.{nest_app}
use Rattle.cli_args.specs.ConditionParser.{parsed_condition}
use Rattle.cli_args.specs.Conditions.{ConditionTree}
use Rattle.cli_args.specs.Requests.{SelectionTree, all, slice, indices, where_true}
use Rattle.cli_args.specs.UsageErrors.{map_ok, usage_kinds}
use Rattle.cli_args.specs.declared.column_names.ColumnNamesError.{ColumnNamesError}
use Rattle.cli_args.specs.declared.condition_error.ConditionSyntaxError.{ConditionSyntaxError}
use Rattle.cli_args.specs.declared.usage_error.UsageError.{UsageError}
use Rattle.cli_args.specs.declared.usage_error.UsageError.TheVariants.{UnknownCommand, ColumnNames, ColumnsTwice, Condition}

pub data CommandTree : Type 0 where
  -- `schema FILE`
  schema : Text → CommandTree
  -- rows of a file, and the output if there is one
  select : Text → SelectionTree → Option Text → CommandTree
  -- `tail FILE COUNT`
  tail : Text → ℕ → CommandTree
  -- `count FILE`
  count : Text → CommandTree
  -- `info FILE`
  info : Text → CommandTree
  -- `equal FILE OTHER`
  equal : Text → Text → CommandTree
  -- `concat FILE.. -o OUT`
  concat : List Text → Text → CommandTree
  -- `convert FILE OUT`
  convert : Text → Text → CommandTree
  -- `from-json TYPE LINES OUT`
  from_json : Text → Text → Text → CommandTree

-- the names of columns, or the file with a name a line
pub data ColumnNamesTree : Type 0 where
  listed : List Text → ColumnNamesTree
  in_file : Text → ColumnNamesTree

-- a command, and the columns that it reads
pub record ArgumentsTree : Type 0 where
  pub columns : Option ColumnNamesTree
  pub command : CommandTree

-- what clap finds of a command's own arguments
abbrev pub found_rows : ArgMatches → List Row
found_rows m = rows_of (found_of m)

-- Of arguments that clap accepts, a required one has a value, and a value that must be an integer is one. The other cases are never used.

-- the value of a required argument
abbrev pub argument_text : Text → List Row → Text
argument_text id found = unwrap_or (first_of id found) []

-- the values of an argument that can have several
abbrev pub texts_of : Text → List Row → List Text
texts_of id found = unwrap_or (all_of id found) []

abbrev pub is_integer : Text → Bool
is_integer digits = is_numeral digits && nat_lt (digits_value 10 digits) (2 ^ 64)

-- the integer of 64 bits that the text encodes: digits, after a plus sign or none
abbrev pub argument_integer : Text → ℕ
argument_integer text = if is_integer (without_leading_plus text) then digits_value 10 (without_leading_plus text) else 0

abbrev pub integer_in : Text → List Row → Option ℕ
integer_in id found = option_map argument_integer (first_of id found)

abbrev pub required_integer : Text → List Row → ℕ
required_integer id found = unwrap_or (integer_in id found) 0

-- the slice of `rows`, by its options `--start` and `--count`
abbrev pub rows_selection : Option ℕ → Option ℕ → SelectionTree
rows_selection None None = all
rows_selection None (Some n) = slice 0 n
rows_selection (Some start) None = slice start 18446744073709551615
rows_selection (Some start) (Some n) = slice start n

-- the rows where a condition is true
abbrev pub condition_selection : Result ConditionTree ConditionSyntaxError → Result SelectionTree UsageError
condition_selection (Ok condition) = Ok (where_true condition)
condition_selection (Err e) = Err (Condition e)

-- the rows that a command selects, by its name
abbrev pub selection_of : Text → List Row → Result SelectionTree UsageError
selection_of name found =
    if bytes_eq name (codes "rows") then Ok (rows_selection (integer_in (codes "START") found) (integer_in (codes "COUNT") found))
    else if bytes_eq name (codes "head") then Ok (slice 0 (required_integer (codes "COUNT") found))
    else if bytes_eq name (codes "slice") then Ok (slice (required_integer (codes "START") found) (required_integer (codes "COUNT") found))
    else if bytes_eq name (codes "take") then Ok (indices (map argument_integer (texts_of (codes "INDEX") found)))
    else if bytes_eq name (codes "where") then condition_selection (parsed_condition (argument_text (codes "EXPRESSION") found))
    else Err UnknownCommand

abbrev pub select_of : Text → List Row → Result CommandTree UsageError
select_of name found = map_ok (λ s. select (argument_text (codes "FILE") found) s (first_of (codes "OUT") found)) (selection_of name found)

abbrev pub import_in : List Row → CommandTree
import_in found = from_json (argument_text (codes "TYPE") found) (argument_text (codes "LINES") found) (argument_text (codes "OUT") found)

abbrev pub command_of : Text → List Row → Result CommandTree UsageError
command_of name found =
    if bytes_eq name (codes "schema") then Ok (schema (argument_text (codes "FILE") found))
    else if bytes_eq name (codes "tail") then Ok (tail (argument_text (codes "FILE") found) (required_integer (codes "COUNT") found))
    else if bytes_eq name (codes "count") then Ok (count (argument_text (codes "FILE") found))
    else if bytes_eq name (codes "info") then Ok (info (argument_text (codes "FILE") found))
    else if bytes_eq name (codes "equal") then Ok (equal (argument_text (codes "FILE") found) (argument_text (codes "OTHER") found))
    else if bytes_eq name (codes "concat") then Ok (concat (texts_of (codes "FILE") found) (argument_text (codes "OUT") found))
    else if bytes_eq name (codes "convert") then Ok (convert (argument_text (codes "FILE") found) (argument_text (codes "OUT") found))
    else if bytes_eq name (codes "from-json") then Ok (import_in found)
    else select_of name found

abbrev pub listed_in : Result (List Text) ColumnNamesError → Result (Option ColumnNamesTree) UsageError
listed_in (Ok names) = Ok (Some (listed names))
listed_in (Err e) = Err (ColumnNames e)

-- the columns of a command, by the values of `--columns` and `--columns-file`
abbrev pub columns_of : Option Text → Option Text → Result (Option ColumnNamesTree) UsageError
columns_of None None = Ok None
columns_of None (Some file) = Ok (Some (in_file file))
columns_of (Some text) None = listed_in (column_names text)
columns_of (Some text) (Some file) = Err ColumnsTwice

abbrev pub columns_in : List Row → Result (Option ColumnNamesTree) UsageError
columns_in found = columns_of (first_of (codes "NAMES") found) (first_of (codes "LIST") found)

-- the command is read after the columns
abbrev pub with_columns : Result CommandTree UsageError → Result (Option ColumnNamesTree) UsageError → Result ArgumentsTree UsageError
with_columns command (Ok columns) = map_ok (λ c. record { columns = columns; command = c }) command
with_columns command (Err e) = Err e

abbrev pub arguments_in : Text → List Row → Result ArgumentsTree UsageError
arguments_in name found = with_columns (command_of name found) (columns_in found)

-- the same of the command that clap finds
abbrev pub arguments_found : Option (Text × List Row) → Result ArgumentsTree UsageError
arguments_found None = Err UnknownCommand
arguments_found (Some p) = arguments_in p.0 p.1

-- what the arguments of the process mean, the name of the program first
abbrev pub arguments_of : List Text → Result ArgumentsTree UsageError
arguments_of words = arguments_found (subcommand_of nest_app words)

-- the kinds of their error: those of clap; if clap accepts them, that of what they mean; and none if they mean a command
abbrev pub kinds_of : List Text → Kinds
kinds_of words = or_else (fault_of nest_app words) (usage_kinds (arguments_of words))
