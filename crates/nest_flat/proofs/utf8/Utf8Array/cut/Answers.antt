use Rattle.std.proofs.Common.{◌+◌, ◌≤◌, ap, arith}
use Rattle.nest_memory.specs.TypeOf.{type_of}
use Rattle.nest_model.specs.Part.{count_rows}
use Rattle.nest_model.specs.Meaning.{len}
use Rattle.nest_flat.proofs.TextParts.{text-cut}
use Rattle.nest_flat.proofs.utf8.Utf8Array.cut.Goals as goal

pub invariant_of-self : goal.invariant_of-self
invariant_of-self g c =
    let e = ap len c.self.view_is in
    let within : c.args.o + c.args.n ≤ count_rows c.self.inside.offsets = omega (arith, e, c.requires) in
    text-cut g.O.Offset.IS_LARGE (type_of c.self.inside.data_type) c.self.inside.offsets _ c.self.inside.values c.self.inside.validity _ c.args.o c.args.n
    c.slice.ensures c.slice-2.ensures c.self.invariant within
