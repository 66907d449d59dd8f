-- Errors of conditions, whatever rows there are.
use Rattle.std.specs.Prelude.{ℕ, List, Option, Some, None, if◌then◌else◌}
use Rattle.std.specs.Option.{option_or}
use Rattle.nest_memory.specs.TypeTree.{FieldTree, field_type}
use Rattle.cli_args.specs.Conditions.{ConditionTree, LiteralTree, NumberTree, number, text, is_true, is_null, compare, negation, both, either}
use Rattle.cli_rows.specs.ColumnFields.{field_of_column, resolved_column}
use Rattle.cli_rows.specs.Conditions.{spec_is_boolean}
use Rattle.cli_rows.specs.Kinds.{spec_accepts, spec_column_kind}
use Rattle.cli_rows.specs.TimeLiterals.{spec_number_of_text}
use Rattle.cli_rows.specs.declared.error.ColumnError.{ColumnError}
use Rattle.cli_rows.specs.declared.error.ColumnError.TheVariants.{UnknownColumn, NotBoolean, NotComparable, OtherLiteral, InvalidText}
use Rattle.cli_rows.specs.declared.select.kinds.ValueKind.{ValueKind}
use Rattle.cli_rows.specs.declared.select.kinds.ValueKind.TheVariants as kinds

-- of a column that must be boolean, by the position of its name
abbrev pub spec_boolean_error : ℕ → Option FieldTree → Option ColumnError
spec_boolean_error at None = Some (UnknownColumn at)
spec_boolean_error at (Some f) = if spec_is_boolean (field_type f) then None else Some (NotBoolean at)

-- of a column of any type
abbrev pub spec_column_error : ℕ → Option FieldTree → Option ColumnError
spec_column_error at None = Some (UnknownColumn at)
spec_column_error at (Some f) = None

-- of a literal that values of a kind are not compared with
abbrev pub spec_literal_error : ℕ → LiteralTree → ValueKind → ColumnError
spec_literal_error at (text bs) (kinds.Temporal u) = InvalidText at
spec_literal_error at literal kind = OtherLiteral at

abbrev pub spec_kind_error : ℕ → LiteralTree → Option ValueKind → Option ColumnError
spec_kind_error at literal None = Some (NotComparable at)
spec_kind_error at literal (Some kind) = if spec_accepts kind literal then None else Some (spec_literal_error at literal kind)

-- of a column that is compared with a literal
abbrev pub spec_comparison_error : ℕ → LiteralTree → Option FieldTree → Option ColumnError
spec_comparison_error at literal None = Some (UnknownColumn at)
spec_comparison_error at literal (Some f) = spec_kind_error at literal (spec_column_kind (field_type f))

-- the first error in the text of a condition
abbrev pub spec_condition_error : ConditionTree → List FieldTree → Option ColumnError
spec_condition_error (is_true column at) fs = spec_boolean_error at (field_of_column column fs)
spec_condition_error (is_null column at) fs = spec_column_error at (field_of_column column fs)
spec_condition_error (compare column at op literal) fs = spec_comparison_error at literal (field_of_column column fs)
spec_condition_error (negation c) fs = spec_condition_error c fs
spec_condition_error (both c d) fs = option_or (spec_condition_error c fs) (spec_condition_error d fs)
spec_condition_error (either c d) fs = option_or (spec_condition_error c fs) (spec_condition_error d fs)

-- the kind of the values of a field
abbrev pub spec_field_kind : Option FieldTree → Option ValueKind
spec_field_kind None = None
spec_field_kind (Some f) = spec_column_kind (field_type f)

abbrev pub number_or_text : List ℕ → Option NumberTree → LiteralTree
number_or_text bs None = text bs
number_or_text bs (Some n) = number n

-- the text of a date or a time as the number that it is compared as
abbrev pub resolved_literal : Option ValueKind → LiteralTree → LiteralTree
resolved_literal (Some (kinds.Temporal u)) (text bs) = number_or_text bs (spec_number_of_text u bs)
resolved_literal kind literal = literal

-- a condition whose columns and literals are resolved
abbrev pub resolved_condition : List FieldTree → ConditionTree → ConditionTree
resolved_condition fs (is_true column at) = is_true (resolved_column fs column) at
resolved_condition fs (is_null column at) = is_null (resolved_column fs column) at
resolved_condition fs (compare column at op literal) = compare (resolved_column fs column) at op (resolved_literal (spec_field_kind (field_of_column column fs)) literal)
resolved_condition fs (negation c) = negation (resolved_condition fs c)
resolved_condition fs (both c d) = both (resolved_condition fs c) (resolved_condition fs d)
resolved_condition fs (either c d) = either (resolved_condition fs c) (resolved_condition fs d)
