use Rattle.std.proofs.Common.{sym, subst, arith}
use Rattle.std.proofs.lemmas.Result.{IfOk-weaker}
use Rattle.nest_take.specs.TakenKeys.{AreRawKeysAt}
use Rattle.nest_take.proofs.dictionary.raw_keys.Goals as goal

pub returns-clause-ok : goal.returns-clause-ok
returns-clause-ok g c =
    let ks = c.args.keys.now in
    let is = c.args.indices.now in
    let v = c.loop-place.invariant in
    IfOk-weaker c.from_vec.result _ _
    (λ b h. subst (AreRawKeysAt g.K.NativeType.numbers ks is) (sym h) (omega (arith, v.same_length), λ j l. v.done j (omega arith)))
    c.from_vec.ensures.ok
