use Rattle.std.proofs.Common.{◌++◌, sym, subst, ap, ◌∙◌, arith}
use Rattle.std.specs.List.{AllByRecursion, sum_by}
use Rattle.std.proofs.lemmas.List.{append-nil}
use Rattle.nest_model.specs.Array.{TopFits}
use Rattle.ipc_arrays.specs.ReplacedValues.{WindowRoundTripsOverExtensions, again_over}
use Rattle.ipc_arrays.specs.NormalizedLaws.{load, below_load}
use Rattle.ipc_arrays.specs.Encoding.{is_supported}
use Rattle.ipc_arrays.proofs.Arrays.{on_ok}
use Rattle.ipc_arrays.proofs.Trees.{body_nothing, write_more, window_put, again_push}
use Rattle.ipc_arrays.proofs.writing.+write.Goals as goal

pub write_windows-loop-window-init : goal.write_windows-loop-window-init
write_windows-loop-window-init t c = record { written = sym (ap (λ x. c.args.out.now.items ++ x) body_nothing ∙ append-nil c.args.out.now.items); again = tt }

pub write_windows-loop-window-preserved : goal.write_windows-loop-window-preserved
write_windows-loop-window-preserved t c =
    let ws = c.args.windows.now in
    let i = c.loop-window.window-index in
    let w = c.window-item.result in
    record {
      written = write_more c.args.out.now.items c.loop-window.out.items c.write_window.new.out.items ws i w c.loop-window-test.true c.window-item.is c.loop-window.invariant.written c.in_ok-write_window.ensures.ok;
      again = again_push ws i w c.loop-window-test.true c.window-item.is c.loop-window.invariant.again c.in_ok-write_window.ensures.again;
    }

pub write_window-write_windows-requires : goal.write_window-write_windows-requires
write_window-write_windows-requires t c =
    let v = c.args.window.now in
    let e = c.deref.ensures.value ∙ c.in_ok-children.ensures in
    omega (arith, ap (sum_by load) e, below_load v.array v.offset v.count)

pub write_window-returns-clause-ok : goal.write_window-returns-clause-ok
write_window-returns-clause-ok t c =
    let v = c.args.window.now in
    let e = c.deref.ensures.value ∙ c.in_ok-children.ensures in
    on_ok c.write_windows.result c.write_windows.ensures.ok (λ h. window_put c.args.out.now.items c.write_own_buffers.new.out.items c.write_windows.new.out.items v.array v.offset v.count _ e c.in_ok-write_own_buffers.ensures.ok h)

pub write_window-returns-clause-again : goal.write_window-returns-clause-again
write_window-returns-clause-again t c =
    let v = c.args.window.now in
    let e = c.deref.ensures.value ∙ c.in_ok-children.ensures in
    on_ok c.write_windows.result c.write_windows.ensures.again
    (λ h. again_over v.array v.offset v.count (subst TopFits c.array-array.ensures c.known-2.ensures) (ap is_supported (sym c.array-array.ensures) ∙ c.known_kind.ensures.supported) c.known.ensures c.in_ok-write_own_buffers.ensures.round_trips (subst (AllByRecursion WindowRoundTripsOverExtensions) e h))
