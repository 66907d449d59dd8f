use Rattle.std.specs.Prelude.{option_map}
use Rattle.std.proofs.Common.{◌∙◌, ap}
use Rattle.std.proofs.lemmas.Result.{err_from_is_err_and}
use Rattle.nest_memory.specs.Physical.{primitive_tree}
use Rattle.nest_model.specs.Layout.{Layout}
use Rattle.nest_flat.specs.Growth.{pushed_all, pushed_native}
use Rattle.nest_flat.proofs.Slices.{if_ok-same, memory-alone, natives-made, natives-unrefused}
use Rattle.nest_flat.proofs.primitive.PrimitiveArray.from_options.Goals as goal

pub returns-in_err-push_options-clause-memory : goal.returns-in_err-push_options-clause-memory
returns-in_err-push_options-clause-memory g c =
    let p = err_from_is_err_and c.from_residual.result c.from_residual.ensures.1 in
    rw p.1 (p.2 ∙ memory-alone _ _ (natives-unrefused _ _ c.args.items.now) c.in_err-push_options.ensures.cause)

pub returns-clause-parts : goal.returns-clause-parts
returns-clause-parts g c =
    let num = g.T.NativeType.numbers in
    let kind = g.T.NativeType.PRIMITIVE in
    if_ok-same c.freeze.result _ _
    (c.in_ok-push_options.ensures.ok.parts
    ∙ ap (λ (b : Layout). pushed_all (λ a x. pushed_native a (option_map num x)) b c.args.items.now) c.new-builder.ensures
    ∙ natives-made kind (primitive_tree kind) num c.args.items.now)
    c.freeze.ensures.ok
