use Rattle.std.proofs.Common.{List, map, subst}
use Rattle.ipc_flatbuf.specs.ReadResults.{ReturnsOrRunsOut}
use Rattle.nest_array.specs.Seen.{layout_of}
use Rattle.nest_memory.specs.TypeOf.{field_of}
use Rattle.nest_memory.specs.TypeTree.{TypeTree, field_type}
use Rattle.ipc_arrays.specs.Projection.{decoded_projection, projection_state}
use Rattle.ipc.proofs.Loops.{map_twice}
use Rattle.ipc.proofs.reading.columns_of.Goals as goal

pub returns : goal.returns
returns c =
    subst (λ (types : List TypeTree). ReturnsOrRunsOut (λ v. map layout_of v.items) c.read_projected.result (decoded_projection c.args.steps.now types c.args.rows c.args.body.now (projection_state c.args.ahead)))
    (map_twice field_type field_of c.args.fields.now) c.read_projected.ensures
