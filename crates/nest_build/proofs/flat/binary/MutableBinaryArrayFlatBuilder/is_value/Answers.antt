use Rattle.std.specs.Cmp.Lexicographic.{bytes_decides}
use Rattle.std.proofs.Common.{ap, sym, ◌∙◌}
use Rattle.nest_flat.specs.Plain.{plain_value}
use Rattle.nest_build.proofs.FlatTrees.{null-holds}
use Rattle.nest_build.proofs.BytesTrees.{binary-typed, bytes-hold}
use Rattle.nest_build.proofs.flat.binary.MutableBinaryArrayFlatBuilder.is_value.Goals as goal

pub returns-then-is_valid : goal.returns-then-is_valid
returns-then-is_valid g c =
    let a = c.args.self.now in
    let large = g.O.Offset.IS_LARGE in
    bytes-hold large a c.args.i (plain_value c.args.value.now) c.value.result.now c.in-Bytes.bytes.now c.eq.result (binary-typed large a c.known.ensures.fits c.known.ensures.kind) c.requires (ap plain_value c.in-Bytes.is)
    (sym c.is_valid.ensures ∙ c.if-is_valid.true) c.value.ensures.slot
    (λ h. (bytes_decides c.value.result.now c.in-Bytes.bytes.now).0 (sym c.eq.ensures ∙ h), λ e. c.eq.ensures ∙ (bytes_decides c.value.result.now c.in-Bytes.bytes.now).1 e)

pub returns-else-is_valid : goal.returns-else-is_valid
returns-else-is_valid g c = null-holds c.args.self.now c.args.i (plain_value c.args.value.now) c.is_valid.result c.requires c.is_valid.ensures c.if-is_valid.false
