use Rattle.std.proofs.Common.{◌∙◌, ap, subst, sym}
use Rattle.json.specs.Value.{value_view}
use Rattle.nest_any.specs.Trees.{tree_of}
use Rattle.nest_any.specs.Words.{builder_type}
use Rattle.json_read.specs.RequiredFields.{null_error}
use Rattle.json_read.specs.SlotAdded.{IsPushError}
use Rattle.json_read.proofs.LineLaws.{null-refused, row-valid, value-refused}
use Rattle.json_read.proofs.Pushed.{if-err, on-ok}
use Rattle.json_read.proofs.lines.push_row.Goals as goal

pub returns-in-Ok-clause-added : goal.returns-in-Ok-clause-added
returns-in-Ok-clause-added c = on-ok c.check_nulls.result _ _ (λ none. c.in-Ok.ensures.added) c.check_nulls.ensures.valid

pub returns-in-Ok-clause-valid : goal.returns-in-Ok-clause-valid
returns-in-Ok-clause-valid c =
    let t = builder_type (tree_of c.args.builder.now) in
    let j = value_view c.args.value.now in
    let row = sym c.is_null_struct.ensures ∙ c.if-is_null_struct.false in
    on-ok c.check_nulls.result _ _ (λ none. row-valid t j row c.in-Ok.ensures.valid (ap (λ u. null_error u j) c.requires.typed ∙ none)) c.check_nulls.ensures.valid

pub returns-in-Ok-clause-error : goal.returns-in-Ok-clause-error
returns-in-Ok-clause-error c =
    let t = builder_type (tree_of c.args.builder.now) in
    let j = value_view c.args.value.now in
    let row = sym c.is_null_struct.ensures ∙ c.if-is_null_struct.false in
    if-err c.check_nulls.result _ _ (λ e h. null-refused t j e row c.in-Ok.ensures.valid (subst (λ u. IsPushError e (null_error u j)) (sym c.requires.typed) h)) c.check_nulls.ensures.error

pub returns-in-Err-clause-error : goal.returns-in-Err-clause-error
returns-in-Err-clause-error c =
    let t = builder_type (tree_of c.args.builder.now) in
    let j = value_view c.args.value.now in
    value-refused t j c.in-Err.error (sym c.is_null_struct.ensures ∙ c.if-is_null_struct.false) c.in-Err.ensures.error
