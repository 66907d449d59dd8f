use Rattle.nest_memory.specs.TypeOf.{type_of}
use Rattle.nest_array.specs.Seen.{layouts_of}
use Rattle.ipc_arrays.specs.Decoding.{rest_of}
use Rattle.ipc_arrays.proofs.Nested.{union_made, union_refused}
use Rattle.ipc_arrays.proofs.union.union_of_children.Goals as goal

pub returns-in-Ok-try_new : goal.returns-in-Ok-try_new
returns-in-Ok-try_new c =
    union_made (type_of c.args.data_type.now) (type_of c.in-Ok.data_type) (record { types = c.args.parts.types; offsets = c.args.parts.offsets }) (layouts_of c.args.children.items) (rest_of c.args.cursor) c.in-Ok-try_new.array
    c.in-Ok.ensures.ok c.requires c.in-Ok-try_new.ensures.0 c.in-Ok-try_new.ensures.1

pub returns-in-Err-try_new : goal.returns-in-Err-try_new
returns-in-Err-try_new c = λ known.
    union_refused (type_of c.args.data_type.now) (type_of c.in-Ok.data_type) (record { types = c.args.parts.types; offsets = c.args.parts.offsets }) (layouts_of c.args.children.items) (rest_of c.args.cursor) c.in-Err-try_new.field-0
    c.in-Ok.ensures.ok c.requires c.in-Err-try_new.ensures
