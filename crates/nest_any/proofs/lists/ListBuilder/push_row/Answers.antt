use Rattle.std.specs.Prelude.{◌⊎◌, alloc_error}
use Rattle.std.proofs.Common.{◌≡◌, ap, subst, ◌∙◌}
use Rattle.std.proofs.lemmas.Result.{on_ok_weaker, on_err_weaker, IfErr-weaker}
use Rattle.nest_memory.specs.declared.error.Error.TheVariants.{Memory}
use Rattle.nest_model.specs.Checks.{FailFirst, Pass}
use Rattle.nest_model.specs.BuilderTree.{builder_len, builder_type}
use Rattle.nest_model.specs.BuilderAddRow.{row_checks}
use Rattle.nest_any.specs.Trees.{tree_of}
use Rattle.nest_any.proofs.TellLaws.{row_told, on_ok_both}
use Rattle.nest_any.proofs.lists.ListBuilder.push_row.Goals as goal

pub returns-clause-ok : goal.returns-clause-ok
returns-clause-ok c =
    let b = tree_of c.self.inside.values.value in
    let n = c.len-count.ensures ∙ ap (λ x. builder_len (tree_of x)) c.deref.ensures in
    let u = c.data_type.ensures ∙ ap (λ x. builder_type (tree_of x)) c.deref-2.ensures in
    on_ok_both c.push_row.result (λ e p. row_told c.args.valid c.self.inside.rows _ b c.args.self.now c.self.view_is c.requires (e b n) (p b u n)) c.push_row.ensures.ok c.push_row.ensures.passed

pub returns-clause-passed : goal.returns-clause-passed
returns-clause-passed c =
    let b = tree_of c.self.inside.values.value in
    let n = c.len-count.ensures ∙ ap (λ x. builder_len (tree_of x)) c.deref.ensures in
    let u = c.data_type.ensures ∙ ap (λ x. builder_type (tree_of x)) c.deref-2.ensures in
    on_ok_weaker c.push_row.result (λ p. subst (λ x. Pass (row_checks x)) c.self.view_is (p b u n)) c.push_row.ensures.passed

pub returns-clause-err : goal.returns-clause-err
returns-clause-err c =
    let b = tree_of c.self.inside.values.value in
    on_err_weaker c.push_row.result (λ e. e b ∙ c.self.view_is) c.push_row.ensures.err

pub returns-clause-cause : goal.returns-clause-cause
returns-clause-cause c =
    let b = tree_of c.self.inside.values.value in
    let n = c.len-count.ensures ∙ ap (λ x. builder_len (tree_of x)) c.deref.ensures in
    let u = c.data_type.ensures ∙ ap (λ x. builder_type (tree_of x)) c.deref-2.ensures in
    IfErr-weaker c.push_row.result _ _ (λ e h. subst (λ x. (e ≡ Memory alloc_error) ⊎ FailFirst e (row_checks x)) c.self.view_is (h b u n)) c.push_row.ensures.cause
