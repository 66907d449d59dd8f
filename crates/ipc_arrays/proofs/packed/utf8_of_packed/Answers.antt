use Rattle.nest_memory.specs.TypeOf.{type_of}
use Rattle.ipc_arrays.proofs.Packings.{frozen_fit, frozen_read}
use Rattle.ipc_arrays.proofs.packed.utf8_of_packed.Goals as goal

pub utf8_of_parts-requires : goal.utf8_of_parts-requires
utf8_of_parts-requires g c = frozen_fit g.O.Offset.IS_LARGE (type_of c.args.data_type.now) c.args.packed.offsets c.args.packed.bytes.items c.in-Ok.offsets c.in-Ok.bytes c.args.validity c.in-Ok.ensures c.requires

pub returns-in-Ok : goal.returns-in-Ok
returns-in-Ok g c =
    frozen_read g.O.Offset.IS_LARGE (type_of c.args.data_type.now) c.args.packed.offsets c.args.packed.bytes.items c.in-Ok.offsets c.in-Ok.bytes c.args.validity c.utf8_of_parts.result c.in-Ok.ensures c.utf8_of_parts.ensures
