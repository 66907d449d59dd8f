use Rattle.std.proofs.Common.{◌∙◌, refl, ap, subst, map}
use Rattle.std.proofs.lemmas.Result.{err_from_is_err_and}
use Rattle.nest_array.specs.Seen.{layout_of}
use Rattle.ipc_arrays.specs.NormalizedLaws.{columns_written}
use Rattle.ipc_arrays.specs.Encoding.{window_arrays, IsArrayError, AppendsArrays}
use Rattle.ipc_arrays.proofs.Bodies.{past_unwritten, placed_all, form_is}
use Rattle.ipc_arrays.proofs.layout.layout_columns.Goals as goal

pub returns-in_err-layout_windows-clause-err : goal.returns-in_err-layout_windows-clause-err
returns-in_err-layout_windows-clause-err c =
    let e = ap window_arrays (c.deref.ensures.value ∙ c.in_ok-windows.ensures) ∙ columns_written c.args.columns.now in
    let p = err_from_is_err_and c.from_residual-in_err-layout_windows.result c.from_residual-in_err-layout_windows.ensures.1 in
    rw (p.1, p.2) (past_unwritten _ (map layout_of c.args.columns.now) (subst (IsArrayError _ 0) e c.in_err-layout_windows.ensures.err))

pub returns-clause-ok : goal.returns-clause-ok
returns-clause-ok c =
    let e = ap window_arrays (c.deref.ensures.value ∙ c.in_ok-windows.ensures) ∙ columns_written c.args.columns.now in
    placed_all (map layout_of c.args.columns.now) _ _ c.new.ensures.items c.new-2.ensures.items refl (subst (AppendsArrays _ _) e c.in_ok-layout_windows.ensures.ok)

pub returns-clause-form : goal.returns-clause-form
returns-clause-form c =
    let e = ap window_arrays (c.deref.ensures.value ∙ c.in_ok-windows.ensures) ∙ columns_written c.args.columns.now in
    form_is (map layout_of c.args.columns.now) _ (placed_all (map layout_of c.args.columns.now) _ _ c.new.ensures.items c.new-2.ensures.items refl (subst (AppendsArrays _ _) e c.in_ok-layout_windows.ensures.ok))
