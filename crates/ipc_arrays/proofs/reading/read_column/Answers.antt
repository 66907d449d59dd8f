use Rattle.std.proofs.Common.{subst}
use Rattle.ipc_flatbuf.specs.ReadResults.{ReturnsOrRunsOut}
use Rattle.nest_memory.specs.TypeOf.{type_of}
use Rattle.nest_array.specs.Seen.{layout_of}
use Rattle.ipc_arrays.specs.Decoding.{rest_of}
use Rattle.ipc_arrays.proofs.Nested.{column_goes}
use Rattle.ipc_arrays.proofs.reading.read_column.Goals as goal

pub returns : goal.returns
returns c =
    subst (λ z. ReturnsOrRunsOut (λ x. (layout_of x.0, rest_of x.1)) c.read_array.result z)
    (column_goes (type_of c.args.data_type.now) c.args.expected c.args.body.now (rest_of c.args.cursor) (c.in_ok-counts.counts, rest_of c.in_ok-counts.cursor) c.in_ok-counts.ensures) c.read_array.ensures
