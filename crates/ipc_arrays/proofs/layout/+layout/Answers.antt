use Rattle.std.proofs.Common.{sym, subst, ap, ◌∙◌, arith}
use Rattle.std.specs.List.{sum_by}
use Rattle.std.proofs.lemmas.Result.{err_from_is_err_and}
use Rattle.ipc_arrays.specs.NormalizedLaws.{load, written_none, below_load, normalized_len}
use Rattle.ipc_arrays.specs.Encoding.{normalized_window, AppendsArrays}
use Rattle.ipc_arrays.proofs.Arrays.{on_ok, if_err}
use Rattle.ipc_arrays.proofs.Bodies.{more_none, more_one}
use Rattle.ipc_arrays.proofs.Trees.{windows_more, windows_long, window_more, window_slots, window_buffers, window_long}
use Rattle.ipc_arrays.proofs.layout.+layout.Goals as goal

pub layout_windows-loop-window-init : goal.layout_windows-loop-window-init
layout_windows-loop-window-init t c = subst (AppendsArrays c.args.layout.now c.args.layout.now) (sym written_none) (more_none c.args.layout.now c.requires)

pub layout_windows-returns-in_err-layout_window-clause-err : goal.layout_windows-returns-in_err-layout_window-clause-err
layout_windows-returns-in_err-layout_window-clause-err t c =
    let p = err_from_is_err_and c.from_residual.result c.from_residual.ensures.1 in
    rw (p.1, p.2) (windows_long _ c.args.layout.now c.loop-window.layout c.args.windows.now c.loop-window.window-index c.window-item.result c.loop-window-test.true c.window-item.is c.loop-window.invariant c.in_err-layout_window.ensures.err)

pub layout_windows-loop-window-preserved : goal.layout_windows-loop-window-preserved
layout_windows-loop-window-preserved t c =
    windows_more c.args.layout.now c.loop-window.layout c.layout_window.new.layout c.args.windows.now c.loop-window.window-index c.window-item.result c.loop-window-test.true c.window-item.is c.loop-window.invariant c.in_ok-layout_window.ensures.ok

pub layout_window-returns-in_err-layout_node-clause-err : goal.layout_window-returns-in_err-layout_node-clause-err
layout_window-returns-in_err-layout_node-clause-err t c =
    let v = c.args.window.now in
    let p = err_from_is_err_and c.from_residual.result c.from_residual.ensures.1 in
    rw (p.1, p.2) (window_slots _ c.args.layout.now.length v.array v.offset v.count c.known.ensures c.in_err-layout_node.ensures.err)

pub layout_window-returns-in_err-layout_own_buffers-clause-err : goal.layout_window-returns-in_err-layout_own_buffers-clause-err
layout_window-returns-in_err-layout_own_buffers-clause-err t c =
    let v = c.args.window.now in
    let p = err_from_is_err_and c.from_residual-in_err-layout_own_buffers.result c.from_residual-in_err-layout_own_buffers.ensures.1 in
    rw (p.1, p.2) (window_buffers _ c.args.layout.now.length c.layout_node.new.layout.length v.array v.offset v.count c.in_ok-layout_node.ensures.length c.in_err-layout_own_buffers.ensures.err)

pub layout_window-layout_windows-requires : goal.layout_window-layout_windows-requires
layout_window-layout_windows-requires t c =
    let v = c.args.window.now in
    let e = c.deref.ensures.value ∙ c.in_ok-children.ensures in
    (omega (arith, ap (sum_by load) e, below_load v.array v.offset v.count), c.in_ok-layout_own_buffers.ensures.ok.small)

pub layout_window-returns-clause-ok : goal.layout_window-returns-clause-ok
layout_window-returns-clause-ok t c =
    let v = c.args.window.now in
    let e = c.deref.ensures.value ∙ c.in_ok-children.ensures in
    let n = c.in_ok-layout_node.ensures in
    let own =
    more_one c.args.layout.now c.layout_node.new.layout c.layout_own_buffers.new.layout (normalized_window v) n.ok n.buffers n.length c.in_ok-layout_own_buffers.ensures.nodes c.in_ok-layout_own_buffers.ensures.ok
    (omega (arith, n.slots, normalized_len v.array v.offset v.count c.known.ensures)) in
    on_ok c.layout_windows.result c.layout_windows.ensures.ok (λ more. window_more c.args.layout.now c.layout_own_buffers.new.layout c.layout_windows.new.layout v.array v.offset v.count _ e own more)

pub layout_window-returns-clause-err : goal.layout_window-returns-clause-err
layout_window-returns-clause-err t c =
    let v = c.args.window.now in
    let e = c.deref.ensures.value ∙ c.in_ok-children.ensures in
    let n = c.in_ok-layout_node.ensures in
    let own =
    more_one c.args.layout.now c.layout_node.new.layout c.layout_own_buffers.new.layout (normalized_window v) n.ok n.buffers n.length c.in_ok-layout_own_buffers.ensures.nodes c.in_ok-layout_own_buffers.ensures.ok
    (omega (arith, n.slots, normalized_len v.array v.offset v.count c.known.ensures)) in
    if_err c.layout_windows.result c.layout_windows.ensures.err (λ error long. window_long error c.args.layout.now c.layout_own_buffers.new.layout v.array v.offset v.count _ e own long)
