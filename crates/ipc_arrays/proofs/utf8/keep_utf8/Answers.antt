use Rattle.std.proofs.Common.{ap, sym, ◌∙◌}
use Rattle.std.specs.Prelude.{Some}
use Rattle.nest_memory.specs.TypeOf.{type_of}
use Rattle.nest_model.specs.Layout.{Layout}
use Rattle.ipc_arrays.proofs.Offsets.{texts_are, texts_are_none}
use Rattle.ipc_arrays.proofs.utf8.keep_utf8.Goals as goal

pub returns-in-Ok : goal.returns-in-Ok
returns-in-Ok g c =
    ap (λ (a : Layout). Some a) c.in-Ok.ensures.1
    ∙ sym (texts_are g.O.Offset.IS_LARGE (type_of c.args.data_type) c.args.offsets c.args.bytes c.args.validity c.in-Ok.ensures.0)

pub returns-in-Err : goal.returns-in-Err
returns-in-Err g c =
    sym (texts_are_none g.O.Offset.IS_LARGE (type_of c.args.data_type) c.args.offsets c.args.bytes c.args.validity c.in-Err.field-0 c.requires.within c.requires.fits c.requires.kind c.in-Err.ensures)
