use Rattle.std.proofs.Common.{◌<◌, ap, ◌∙◌, arith, length}
use Rattle.std.specs.Prelude.{slice_set}
use Rattle.nest_memory.proofs.BitLists.{bits_written, bits_len}
use Rattle.nest_memory.proofs.bitmap.mutable.MutableBitmap.set.Goals as goal

pub returns : goal.returns
returns c =
    let lt : c.args.i < c.self.inside.len = omega (arith, bits_len c.self.inside.bytes.items 0 c.self.inside.len, ap length c.self.view_is) in
    bits_written c.set_bit.new.bytes.items c.self.inside.bytes.items c.self.inside.len c.args.i c.args.value lt c.set_bit.ensures.same c.set_bit.ensures.other
    ∙ ap (λ xs. slice_set xs c.args.i c.args.value) c.self.view_is
