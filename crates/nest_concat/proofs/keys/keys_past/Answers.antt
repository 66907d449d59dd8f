use Rattle.std.proofs.Common.{◌≡◌, ◌+◌, ◌≤◌, ◌^◌, ap, arith, drop, inr, refl, subst, sym}
use Rattle.std.proofs.lemmas.Result.{err_from_is_err_and}
use Rattle.nest_model.specs.BuilderTree.{key_count}
use Rattle.nest_model.specs.Meaning.{len}
use Rattle.nest_concat.specs.Joined.{RefusesKeys}
use Rattle.nest_concat.specs.Lookups.{KeysPass, count_values}
use Rattle.nest_concat.proofs.Grown.{sum-more}
use Rattle.nest_concat.proofs.KeyRuns.{gathered-more, pass-behind, pass-left, pass-none, pushed-refuse, values-past}
use Rattle.nest_concat.proofs.LaidParts.{ok-always}
use Rattle.nest_concat.proofs.keys.keys_past.Goals as goal

pub returns-in_err-push_window-clause-err : goal.returns-in_err-push_window-clause-err
returns-in_err-push_window-clause-err g c =
    let n = key_count g.K.DictionaryKey.KEY_TYPE in
    let ws = c.args.windows.now in
    let p = err_from_is_err_and c.from_residual-in_err-push_window.result c.from_residual-in_err-push_window.ensures.1 in
    let r = pushed-refuse c.in_err-push_window.field-0.0 n ws c.loop-window.before c.loop-window.window-index c.window-item.result c.loop-window-test.true c.window-item.is c.loop-window.invariant.passes c.in_err-push_window.ensures.err in
    rw p.1 (subst (λ e. RefusesKeys _ e n ws) (sym p.2) r)

pub returns-in_default-clause-err : goal.returns-in_default-clause-err
returns-in_default-clause-err g c =
    let w = c.window-item.result in
    let b : 2 ^ 64 ≤ c.loop-window.before + count_values w = omega (arith, c.in_default.ensures, c.len.ensures, ap len c.values_of_window.ensures) in
    inr (refl, (refl, inr (values-past c.args.windows.now c.loop-window.window-index c.loop-window.before w c.loop-window-test.true c.window-item.is c.loop-window.invariant.summed b)))

pub loop-window-preserved : goal.loop-window-preserved
loop-window-preserved g c =
    let n = key_count g.K.DictionaryKey.KEY_TYPE in
    let ws = c.args.windows.now in
    let k = c.loop-window.window-index in
    let w = c.window-item.result in
    let i = c.loop-window.invariant in
    let h = c.loop-window-test.true in
    let b : c.in-Some.sum ≡ c.loop-window.before + count_values w = omega (arith, c.in-Some.ensures.1, c.len.ensures, ap len c.values_of_window.ensures) in
    record {
      gathered = gathered-more g.K.NativeType.numbers ws c.loop-window.before k c.in-Some.sum w c.loop-window.raw.items c.push_window.new.raw.items h c.window-item.is b c.in_ok-push_window.ensures.ok i.gathered;
      passes = λ p. i.passes (pass-left n ws c.loop-window.before k w h c.window-item.is (inr (subst (λ z. KeysPass n z (drop (k + 1) ws)) b p)));
      left = pass-behind n ws c.loop-window.before k c.in-Some.sum w h c.window-item.is b c.in_ok-push_window.ensures.room i.left;
      summed = omega (arith, b, i.summed, sum-more count_values ws k w h c.window-item.is);
    }

pub returns-clause-room : goal.returns-clause-room
returns-clause-room g c =
    ok-always c.from_vec.result _ (pass-none (key_count g.K.DictionaryKey.KEY_TYPE) c.args.windows.now c.loop-window.before c.loop-window.window-index (omega (arith, c.loop-window-test.false)) c.loop-window.invariant.left)
