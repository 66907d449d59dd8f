-- Names of columns in requests.
use Rattle.std.specs.Prelude.{ℕ, suc, Bool, true, false, List, [], ◌∷◌, bytes_eq, Option, Some, None, option_map, if◌then◌else◌}
use Rattle.nest_memory.specs.TypeTree.{FieldTree}
use Rattle.json_write.specs.JsonText.{field_name}
use Rattle.ipc_schema.specs.Projections as projections
use Rattle.ipc_schema.specs.Projections.{ProjectionModel}
use Rattle.cli_args.specs.Requests.{SelectionTree, RequestTree, all, indices, columns, slice, rows, where_true}
use Rattle.cli_rows.specs.ConditionErrors.{resolved_condition, spec_condition_error}
use Rattle.cli_rows.specs.declared.error.CliError.{CliError}
use Rattle.cli_rows.specs.declared.error.CliError.TheVariants.{Condition}

-- whether no field has a name
abbrev pub lacks_name : List ℕ → List FieldTree → Bool
lacks_name name [] = true
lacks_name name (f ∷ fs) = if bytes_eq (field_name f) name then false else lacks_name name fs

-- the first of some names that no field has, by its index among them
abbrev pub unknown_name : List (List ℕ) → List FieldTree → Option ℕ
unknown_name [] fields = None
unknown_name (name ∷ names) fields = if lacks_name name fields then Some 0 else option_map suc (unknown_name names fields)

-- that of the names of a projection
abbrev pub unknown_projected_name : ProjectionModel → List FieldTree → Option ℕ
unknown_projected_name projections.all fields = None
unknown_projected_name (projections.at places) fields = None
unknown_projected_name (projections.named names) fields = unknown_name names fields

-- the error of a selection, whatever rows there are
abbrev pub spec_selection_error : SelectionTree → List FieldTree → Option CliError
spec_selection_error (where_true c) fields = option_map Condition (spec_condition_error c fields)
spec_selection_error all fields = None
spec_selection_error (slice o n) fields = None
spec_selection_error (indices places) fields = None

abbrev pub request_error : RequestTree → List FieldTree → Option CliError
request_error columns fields = None
request_error (rows c) fields = spec_selection_error c fields

-- ---- names resolved

abbrev pub resolved_selection : List FieldTree → SelectionTree → SelectionTree
resolved_selection fields (where_true c) = where_true (resolved_condition fields c)
resolved_selection fields all = all
resolved_selection fields (slice o n) = slice o n
resolved_selection fields (indices places) = indices places

abbrev pub resolved_request : List FieldTree → RequestTree → RequestTree
resolved_request fields columns = columns
resolved_request fields (rows c) = rows (resolved_selection fields c)
