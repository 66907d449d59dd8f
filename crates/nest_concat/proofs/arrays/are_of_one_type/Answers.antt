use Rattle.std.proofs.Common.{length}
use Rattle.nest_memory.specs.TypeOf.{type_of}
use Rattle.nest_concat.proofs.Wholes.{all-from-one, one-from-all, some-array}
use Rattle.nest_concat.proofs.arrays.are_of_one_type.Goals as goal

pub returns : goal.returns
returns c =
    let t = type_of c.data_type.result.now in
    let xs = c.args.arrays.now in
    let x = c.index-arrays-0.result in
    let s = some-array (length xs) c.if-is_empty.ensures in
    (λ r. one-from-all t xs x s c.index-arrays-0.is c.data_type.ensures (c.have_type.ensures.0 r), λ r. c.have_type.ensures.1 (all-from-one t xs x s c.index-arrays-0.is c.data_type.ensures r))
