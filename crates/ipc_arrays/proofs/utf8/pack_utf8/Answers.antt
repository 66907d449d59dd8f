use Rattle.std.proofs.Common.{Ok, subst, sym}
use Rattle.ipc_flatbuf.specs.ReadResults.{ReturnsOrRunsOut, ◌>>=◌}
use Rattle.nest_memory.specs.TypeOf.{type_of}
use Rattle.nest_model.specs.Layout.{utf8}
use Rattle.nest_model.specs.Part.{count_rows}
use Rattle.ipc_arrays.specs.Decoding.{binary_parts, packed_slots}
use Rattle.ipc_arrays.specs.Utf8Laws.{packed_fit}
use Rattle.ipc_arrays.proofs.Packings.{packed_array}
use Rattle.ipc_arrays.proofs.utf8.pack_utf8.Goals as goal

pub utf8_of_packed-requires : goal.utf8_of_packed-requires
utf8_of_packed-requires g c =
    let parts = binary_parts c.args.offsets.now c.args.bytes.now c.args.validity in
    packed_array g.O.Offset.IS_LARGE (type_of c.args.data_type.now) (count_rows c.args.offsets.now) c.args.validity (packed_slots parts) c.in-Ok.packed.offsets c.in-Ok.packed.bytes.items (packed_fit parts) c.in-Ok.ensures c.requires.fits c.requires.kind

pub returns-in-Ok : goal.returns-in-Ok
returns-in-Ok g c =
    subst (λ z. ReturnsOrRunsOut (λ a. a) c.utf8_of_packed.result (z >>= λ p. Ok (utf8 g.O.Offset.IS_LARGE (type_of c.args.data_type.now) p.offsets p.bytes p.validity))) (sym c.in-Ok.ensures) c.utf8_of_packed.ensures
