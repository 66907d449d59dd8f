use Rattle.std.proofs.Common.{◌++◌, ◌∙◌, map, ap, subst}
use Rattle.std.specs.List.{AllByRecursion}
use Rattle.nest_array.specs.Seen.{layout_of}
use Rattle.ipc_arrays.specs.BodyBuffers.{body_of}
use Rattle.ipc_arrays.specs.ReplacedValues.{WindowRoundTripsOverExtensions, read_over, all_self_alike}
use Rattle.ipc_arrays.specs.NormalizedLaws.{columns_written}
use Rattle.ipc_arrays.specs.Encoding.{window_arrays, buffers_of}
use Rattle.ipc_arrays.proofs.Arrays.{on_ok}
use Rattle.ipc_arrays.proofs.writing.write_columns.Goals as goal

pub returns-clause-ok : goal.returns-clause-ok
returns-clause-ok c =
    let e = ap window_arrays (c.deref.ensures.value ∙ c.in_ok-windows.ensures) ∙ columns_written c.args.columns.now in
    on_ok c.write_windows.result c.write_windows.ensures.ok (λ h. h ∙ ap (λ x. c.args.out.now.items ++ body_of (buffers_of x)) e)

pub returns-clause-again : goal.returns-clause-again
returns-clause-again c =
    let e = c.deref.ensures.value ∙ c.in_ok-windows.ensures in
    let columns = map layout_of c.args.columns.now in
    on_ok c.write_windows.result c.write_windows.ensures.again (λ all. let over = read_over c.args.columns.now (subst (AllByRecursion WindowRoundTripsOverExtensions) e all) columns (all_self_alike columns) in over.back)

pub returns-clause-over : goal.returns-clause-over
returns-clause-over c =
    let e = c.deref.ensures.value ∙ c.in_ok-windows.ensures in
    on_ok c.write_windows.result c.write_windows.ensures.again (λ all. read_over c.args.columns.now (subst (AllByRecursion WindowRoundTripsOverExtensions) e all))
