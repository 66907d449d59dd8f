use Rattle.std.proofs.Common.{◌∙◌, ap, arith}
use Rattle.std.proofs.lemmas.Result.{err_from_is_err_and}
use Rattle.nest_memory.specs.TypeTree as types
use Rattle.nest_model.specs.Layout.{Layout}
use Rattle.nest_flat.specs.Growth.{pushed_all, pushed_boolean}
use Rattle.nest_flat.proofs.Slices.{if_ok-same, memory-alone, booleans-made, booleans-unrefused}
use Rattle.nest_flat.proofs.boolean.BooleanArray.from_options.Goals as goal

pub returns-in_err-push_options-clause-memory : goal.returns-in_err-push_options-clause-memory
returns-in_err-push_options-clause-memory c =
    let p = err_from_is_err_and c.from_residual.result c.from_residual.ensures.1 in
    rw p.1 (p.2 ∙ memory-alone _ _ (booleans-unrefused types.boolean _ c.args.items.now c.new-builder.ensures (omega arith)) c.in_err-push_options.ensures.cause)

pub returns-clause-parts : goal.returns-clause-parts
returns-clause-parts c =
    if_ok-same c.freeze.result _ _
    (c.in_ok-push_options.ensures.ok.parts
    ∙ ap (λ (b : Layout). pushed_all pushed_boolean b c.args.items.now) c.new-builder.ensures
    ∙ booleans-made types.boolean c.args.items.now)
    c.freeze.ensures.ok
