use Rattle.std.proofs.Common.{◌≡◌, ◌*◌, ◌+◌, ◌++◌, take}
use Rattle.std.specs.List.{AllByRecursion, sum_by}
use Rattle.nest_model.specs.Layout.{weight}
use Rattle.ipc_arrays.specs.ReplacedValues.{WindowRoundTripsOverExtensions}
use Rattle.ipc_arrays.specs.BodyBuffers.{body_of}
use Rattle.ipc_arrays.specs.NormalizedLaws.{load}
use Rattle.ipc_arrays.specs.Encoding.{buffers_of, window_arrays}
use Rattle.ipc_arrays.proofs.writing.+write.Given as goal

abbrev pub decreases-write_window : goal.decreases-write_window
decreases-write_window l = 2 * weight l.window.now.array + 1

abbrev pub decreases-write_windows : goal.decreases-write_windows
decreases-write_windows l = 2 * sum_by load l.windows.now

abbrev pub invariant-write_windows-loop-window : goal.invariant-write_windows-loop-window
invariant-write_windows-loop-window l = record {
  written : l.out.items ≡ l.initial.out.items ++ body_of (buffers_of (window_arrays (take l.window-index l.windows)));
  again : AllByRecursion WindowRoundTripsOverExtensions (take l.window-index l.windows);
}
