use Rattle.std.proofs.Common.{◌≡◌, ◌<◌, ◌*◌, ◌∙◌, arith}
use Rattle.nest_memory.specs.TypeOf.{type_of}
use Rattle.nest_memory.specs.TypeTree.{size_of}
use Rattle.ipc_arrays.proofs.Offsets.{sized_fits}
use Rattle.ipc_arrays.proofs.fixed_size_binary.read_fixed_size_binary.Goals as goal

pub array_of-requires : goal.array_of-requires
array_of-requires c =
    let size : c.unwrap_or-size.result ≡ size_of (type_of c.args.data_type.now) = c.unwrap_or-size.ensures ∙ c.size.ensures.or_zero in
    let some : 0 < size_of (type_of c.args.data_type.now) = omega (arith, size, c.if-size-eq0.false) in
    sized_fits (type_of c.args.data_type.now) c.in_ok-values.values c.in_ok-validity.validity c.args.counts.slots c.requires some (c.in_ok-values.ensures.size ∙ (λ w. c.args.counts.slots * size w)) c.in_ok-validity.ensures.fits
