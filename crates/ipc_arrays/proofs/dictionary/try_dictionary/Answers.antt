use Rattle.std.proofs.Common.{◌∙◌, ap}
use Rattle.nest_memory.specs.TypeOf.{type_of}
use Rattle.nest_memory.specs.declared.error.Error.TheVariants.{OutOfSpec}
use Rattle.nest_array.specs.Seen.{layout_of}
use Rattle.nest_array.specs.SeenKeys.{keys_layout}
use Rattle.ipc_arrays.proofs.Keyed.{over_fits, over_unlike, over_past}
use Rattle.ipc_arrays.proofs.dictionary.try_dictionary.Goals as goal

pub returns-in-Ok : goal.returns-in-Ok
returns-in-Ok c = rw c.in-Ok.ensures.1 (over_fits (type_of c.args.data_type) (keys_layout c.args.keys) (layout_of c.args.values) c.known.ensures c.in-Ok.ensures.0)

pub returns-in-Err-OutOfSpec-ChildType : goal.returns-in-Err-OutOfSpec-ChildType
returns-in-Err-OutOfSpec-ChildType c = λ known.
    let e = c.in-Err-OutOfSpec-ChildType in
    over_unlike (type_of c.args.data_type) (keys_layout c.args.keys) (layout_of c.args.values) c.known.ensures e.field-0 (e.field-0-is ∙ ap OutOfSpec e.field-0-0-is) e.ensures

pub returns-in-Err-OutOfSpec-KeyRange : goal.returns-in-Err-OutOfSpec-KeyRange
returns-in-Err-OutOfSpec-KeyRange c = λ known.
    let e = c.in-Err-OutOfSpec-KeyRange in
    over_past (type_of c.args.data_type) (keys_layout c.args.keys) (layout_of c.args.values) c.known.ensures c.requires.blank e.field-0 (e.field-0-is ∙ ap OutOfSpec e.field-0-0-is) e.ensures
