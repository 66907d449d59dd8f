-- The models of `Selection` and `Request`.
pub use Rattle.cli_args.specs.ColumnTrees.{column_tree}
use Rattle.cli_args.specs.ConditionTrees.{condition_tree}
use Rattle.cli_args.specs.Requests.{SelectionTree, all, slice, indices, where_true, RequestTree, columns, rows}
use Rattle.cli_args.specs.declared.request.Request.{Request}
use Rattle.cli_args.specs.declared.request.Request.TheVariants as requests
use Rattle.cli_args.specs.declared.request.Selection.{Selection}
use Rattle.cli_args.specs.declared.request.Selection.TheVariants as choices

abbrev pub selection_tree : Selection → SelectionTree
selection_tree choices.All = all
selection_tree (choices.Slice o n) = slice o n
selection_tree (choices.Indices ps) = indices ps.items
selection_tree (choices.Where condition) = where_true (condition_tree condition)

abbrev pub request_tree : Request → RequestTree
request_tree requests.Columns = columns
request_tree (requests.Rows c) = rows (selection_tree c)
