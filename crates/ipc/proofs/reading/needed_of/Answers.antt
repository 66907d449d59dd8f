use Rattle.std.proofs.Common.{List, subst}
use Rattle.ipc_flatbuf.specs.ReadResults.{ReturnsOrRunsOut}
use Rattle.nest_memory.specs.TypeOf.{field_of}
use Rattle.nest_memory.specs.TypeTree.{TypeTree, field_type}
use Rattle.ipc_arrays.specs.NeededBuffers.{spec_needed_buffers}
use Rattle.ipc.proofs.Loops.{map_twice}
use Rattle.ipc.proofs.reading.needed_of.Goals as goal

pub returns : goal.returns
returns c =
    subst (λ (types : List TypeTree). ReturnsOrRunsOut (λ v. v.items) c.needed_buffers.result (spec_needed_buffers c.args.steps.now types c.args.more.now c.args.buffers.now))
    (map_twice field_type field_of c.args.fields.now) c.needed_buffers.ensures
