use Rattle.std.specs.Prelude.{option_map}
use Rattle.ipc_arrays.specs.Decoding.{rest_of}
use Rattle.ipc_arrays.proofs.Marks.{dense_read}
use Rattle.ipc_arrays.proofs.union.read_union_parts.Goals as goal

pub returns-in_ok-offsets-in-Dense : goal.returns-in_ok-offsets-in-Dense
returns-in_ok-offsets-in-Dense c =
    rw c.in-Dense.is
    (dense_read (option_map (λ v. v.items) c.args.ids.now) c.args.fields c.args.counts c.args.body.now (rest_of c.args.cursor) c.in_ok-bytes.bytes.now c.in_ok-bytes-in-Dense.bytes.now (rest_of c.in_ok-bytes.cursor) (rest_of c.in_ok-bytes-in-Dense.cursor)
    c.in_ok-types.types c.in_ok-offsets-in-Dense.offsets c.in_ok-bytes.ensures c.in_ok-types.ensures c.in_ok-bytes-in-Dense.ensures c.in_ok-offsets-in-Dense.ensures)
