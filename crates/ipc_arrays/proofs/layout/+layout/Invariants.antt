use Rattle.std.proofs.Common.{◌*◌, ◌+◌, take}
use Rattle.std.specs.List.{sum_by}
use Rattle.nest_model.specs.Layout.{weight}
use Rattle.ipc_arrays.specs.NormalizedLaws.{load}
use Rattle.ipc_arrays.specs.Encoding.{window_arrays, AppendsArrays}
use Rattle.ipc_arrays.proofs.layout.+layout.Given as goal

abbrev pub decreases-layout_window : goal.decreases-layout_window
decreases-layout_window l = 2 * weight l.window.now.array + 1

abbrev pub decreases-layout_windows : goal.decreases-layout_windows
decreases-layout_windows l = 2 * sum_by load l.windows.now

abbrev pub invariant-layout_windows-loop-window : goal.invariant-layout_windows-loop-window
invariant-layout_windows-loop-window l = AppendsArrays l.initial.layout l.layout (window_arrays (take l.window-index l.windows))
