-- The command line of `nest` as data of clap's contracts: its commands, and the arguments of each, under the names that `--help` shows.
use Rattle.std.specs.Prelude.{◌≡◌, [], ◌∷◌, ◌++◌, Some, Option, true, false, codes}
use Rattle.clap.specs.Lexer.{usize_max}
use Rattle.clap.specs.Words.{App, Rule, Shape, Text, app_of, new_app, new_rule, rule_of, with_rule, with_subcommand}
use Rattle.clap.specs.Simple.{on_top}
use Rattle.clap.specs.declared.builder.arg.Arg.{Arg}
use Rattle.clap.specs.declared.builder.command.Command.{Command}
use Rattle.clap.specs.declared.builder.command.Command.TheViews.{out-Command as fields_of}
use Rattle.clap.specs.declared.builder.range.ValueRange.{ValueRange}
use Rattle.clap.specs.declared.builder.value_parser.ValueParser.{ValueParser}
use Rattle.clap.specs.declared.builder.value_parser.ValueParser.TheVariants as parsers

-- ---- arguments

-- an argument that must be present; with no option name it is positional
abbrev pub required_rule : Text → Rule
required_rule id = record (new_rule id) { required = true }

abbrev pub integer_parser : Option ValueParser
integer_parser = Some (parsers.Unsigned 0 18446744073709551615)

abbrev pub required_integer_rule : Text → Rule
required_integer_rule id = record (required_rule id) { parser = integer_parser }

-- one value or more
abbrev pub values_range : Option ValueRange
values_range = Some (record { start_inclusive = 1; end_inclusive = usize_max })

abbrev pub files_rule : Rule
files_rule = record (required_rule (codes "FILE")) { range = values_range }

abbrev pub indices_rule : Rule
indices_rule = record (required_integer_rule (codes "INDEX")) { range = values_range }

abbrev pub optional_count_rule : Rule
optional_count_rule = record (new_rule (codes "COUNT")) { parser = integer_parser; defaults = codes "10" ∷ [] }

-- `--columns NAMES`
abbrev pub columns_rule : Rule
columns_rule = record (new_rule (codes "NAMES")) { long = Some (codes "columns") }

-- `--columns-file LIST`
abbrev pub columns_file_rule : Rule
columns_file_rule = record (new_rule (codes "LIST")) { long = Some (codes "columns-file") }

-- `-o OUT`
abbrev pub out_rule : Rule
out_rule = record (new_rule (codes "OUT")) { short = Some 111; long = Some (codes "output") }

-- `--start START`
abbrev pub start_rule : Rule
start_rule = record (new_rule (codes "START")) { long = Some (codes "start"); parser = integer_parser }

-- `--count COUNT`
abbrev pub count_rule : Rule
count_rule = record (new_rule (codes "COUNT")) { long = Some (codes "count"); parser = integer_parser }

-- ---- commands

-- a command that reads Arrow files
abbrev pub command_app : Text → App
command_app name = with_rule (with_rule (new_app name) columns_rule) columns_file_rule

-- a command that reads one
abbrev pub file_app : Text → App
file_app name = with_rule (command_app name) (required_rule (codes "FILE"))

abbrev pub with_alias : Text → App → App
with_alias name a = on_top (λ (s : Shape). record s { aliases = s.aliases ++ name ∷ [] }) a

abbrev pub rows_app : App
rows_app = with_rule (with_rule (file_app (codes "rows")) start_rule) count_rule

abbrev pub head_app : App
head_app = with_rule (file_app (codes "head")) optional_count_rule

abbrev pub tail_app : App
tail_app = with_rule (file_app (codes "tail")) optional_count_rule

abbrev pub count_app : App
count_app = file_app (codes "count")

-- it reads no column
abbrev pub info_app : App
info_app = with_rule (new_app (codes "info")) (required_rule (codes "FILE"))

abbrev pub slice_app : App
slice_app = with_rule (with_rule (with_rule (with_alias (codes "cut") (file_app (codes "slice"))) (required_integer_rule (codes "START"))) (required_integer_rule (codes "COUNT"))) out_rule

abbrev pub take_app : App
take_app = with_rule (with_rule (file_app (codes "take")) indices_rule) out_rule

abbrev pub where_app : App
where_app = with_rule (with_rule (file_app (codes "where")) (required_rule (codes "EXPRESSION"))) out_rule

abbrev pub equal_app : App
equal_app = with_rule (file_app (codes "equal")) (required_rule (codes "OTHER"))

abbrev pub concat_app : App
concat_app = with_rule (with_rule (command_app (codes "concat")) files_rule) (record out_rule { required = true })

abbrev pub convert_app : App
convert_app = with_rule (file_app (codes "convert")) (required_rule (codes "OUT"))

abbrev pub from_json_app : App
from_json_app = with_rule (with_rule (with_rule (new_app (codes "from-json")) (required_rule (codes "TYPE"))) (required_rule (codes "LINES"))) (required_rule (codes "OUT"))

-- the program, with no command yet
abbrev pub top_app : App
top_app = on_top (λ (s : Shape). record s { has_version = true; subcommand_required = true; arg_required_else_help = true }) (new_app (codes "nest"))

abbrev pub printing_app : App
printing_app = with_subcommand (with_subcommand (with_subcommand top_app (file_app (codes "schema")).top) rows_app.top) head_app.top

abbrev pub counting_app : App
counting_app = with_subcommand (with_subcommand (with_subcommand printing_app tail_app.top) count_app.top) info_app.top

abbrev pub slicing_app : App
slicing_app = with_subcommand (with_subcommand counting_app slice_app.top) take_app.top

abbrev pub comparing_app : App
comparing_app = with_subcommand (with_subcommand slicing_app where_app.top) equal_app.top

abbrev pub copying_app : App
copying_app = with_subcommand (with_subcommand comparing_app concat_app.top) convert_app.top

abbrev pub nest_app : App
nest_app = with_subcommand copying_app from_json_app.top

-- ---- clap's values that are these

abbrev pub IsArg : Rule → Arg → Type 0
IsArg r a = (rule_of a ≡ r) × (a.global ≡ false)

abbrev pub IsCommand : App → Command → Type 0
IsCommand x c = (app_of c ≡ x) × ((fields_of c).has_globals ≡ false)

-- the second command is what f makes of the first, and has no new global argument
abbrev pub ExtendsCommand : (App → App) → Command → Command → Type 0
ExtendsCommand f c d = (app_of d ≡ f (app_of c)) × ((fields_of d).has_globals ≡ (fields_of c).has_globals)
