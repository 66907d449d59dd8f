use Rattle.std.proofs.Common.{◌<◌, ap, sym, subst, arith}
use Rattle.std.specs.Str.{IsUtf8}
use Rattle.nest_model.specs.Part.{count_rows}
use Rattle.nest_model.specs.Meaning.{len}
use Rattle.nest_flat.proofs.utf8.Utf8Array.value.Goals as goal

pub text_of-requires : goal.text_of-requires
text_of-requires g c =
    let e = ap len c.self.view_is in
    let within : c.args.i < count_rows c.self.inside.offsets = omega (arith, e, c.requires) in
    subst IsUtf8 (sym c.span.ensures) (c.self.invariant.1.1.0 c.args.i within)
