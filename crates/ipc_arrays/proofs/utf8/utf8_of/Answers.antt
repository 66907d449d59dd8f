use Rattle.std.proofs.Common.{subst}
use Rattle.ipc_flatbuf.specs.ReadResults.{ReturnsOrRunsOut}
use Rattle.nest_memory.specs.TypeOf.{type_of}
use Rattle.ipc_arrays.specs.Decoding.{binary_parts}
use Rattle.ipc_arrays.proofs.Packings.{kept_is, not_kept}
use Rattle.ipc_arrays.proofs.utf8.utf8_of.Goals as goal

pub returns-in-Some : goal.returns-in-Some
returns-in-Some g c =
    kept_is g.O.Offset.IS_LARGE (type_of c.args.data_type.now) (binary_parts c.args.offsets c.args.bytes c.args.validity) c.in-Ok.kept c.in-Some.array c.in-Ok.ensures c.in-Some.is

pub returns : goal.returns
returns g c =
    subst (λ z. ReturnsOrRunsOut (λ a. a) c.pack_utf8.result z)
    (not_kept g.O.Offset.IS_LARGE (type_of c.args.data_type.now) (binary_parts c.args.offsets c.args.bytes c.args.validity) c.in-Ok.kept c.in-Ok.ensures c.in-None.is)
    c.pack_utf8.ensures
