use Rattle.std.proofs.Common.{ap, ◌∙◌}
use Rattle.json.specs.Json.{document}
use Rattle.json.proofs.Printed.Trees.{document-print}
use Rattle.json_write.specs.JsonTree.{tree_of_window, window-printed}
use Rattle.json_write.proofs.laws.text_is_valid_json.Goals as goal

pub returns-clause-printed : goal.returns-clause-printed
returns-clause-printed c = window-printed c.args.window.now

pub returns-clause-read : goal.returns-clause-read
returns-clause-read c numbers shallow = ap document (window-printed c.args.window.now) ∙ document-print (tree_of_window c.args.window.now) numbers shallow
