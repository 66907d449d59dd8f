use Rattle.std.proofs.Common.{◌+◌, ◌≤◌, length, ap, arith}
use Rattle.nest_model.specs.FitsLaws.{top-fits-cut}
use Rattle.nest_model.specs.Meaning.{len}
use Rattle.nest_model.specs.Runs.{length-cut}
use Rattle.nest_array.specs.SeenUnion.{union_seen}
use Rattle.nest_array.proofs.union.UnionArray.cut.Goals as goal

pub invariant_of-self : goal.invariant_of-self
invariant_of-self c =
    let l = ap len c.self.view_is in
    let within : c.args.o + c.args.n ≤ length c.self.inside.types = omega (arith, l, c.requires) in
    let fits = top-fits-cut (union_seen c.self.inside) c.args.o c.args.n c.self.invariant.0 within in
    let count = length-cut c.self.inside.types c.args.o c.args.n within in
    rw (c.slice.ensures, c.slice_offsets.ensures) (fits, omega (arith, count, c.self.invariant.1, within), c.self.invariant.2)
