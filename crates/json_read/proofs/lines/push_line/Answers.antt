use Rattle.std.proofs.Common.{◌∙◌, Err, ap, subst, sym}
use Rattle.nest_any.specs.Trees.{tree_of}
use Rattle.nest_any.specs.Words.{builder_type}
use Rattle.json_read.specs.JsonLines.{IsLineError, line_row}
use Rattle.json_read.proofs.LineLaws.{added-row, row-failed, row-none}
use Rattle.nest_memory.specs.TypeOf.{type_of}
use Rattle.json_read.proofs.lines.push_line.Goals as goal

pub returns-in-Ok-pushed-clause-added : goal.returns-in-Ok-pushed-clause-added
returns-in-Ok-pushed-clause-added c = added-row (builder_type (tree_of c.args.builder.now)) c.args.line.now _ _ _ c.in-Ok.ensures.ok c.in-Ok-pushed.ensures.valid c.in-Ok-pushed.ensures.added

pub returns-in-Err-pushed-clause-error : goal.returns-in-Err-pushed-clause-error
returns-in-Err-pushed-clause-error c =
    let failed = row-failed (type_of c.args.data_type.now) c.args.line.now _ _ c.in-Ok.ensures.ok c.row_failure-failed.ensures in
    subst (λ u. IsLineError c.row_failure-failed.result (line_row u c.args.line.now)) (sym c.requires.typed) failed

pub returns-in-Err-Invalid-clause-error : goal.returns-in-Err-Invalid-clause-error
returns-in-Err-Invalid-clause-error c = row-none (builder_type (tree_of c.args.builder.now)) c.args.line.now (c.from_slice.ensures.invalid (c.in-Err-Invalid.is ∙ ap Err c.in-Err-Invalid.field-0-is))
