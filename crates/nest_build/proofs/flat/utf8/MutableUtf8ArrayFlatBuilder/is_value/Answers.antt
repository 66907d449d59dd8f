use Rattle.std.specs.Cmp.Lexicographic.{bytes_decides}
use Rattle.std.proofs.Common.{ap, sym, ◌∙◌}
use Rattle.nest_flat.specs.Plain.{plain_value}
use Rattle.nest_model.specs.BuilderItem as items
use Rattle.nest_build.proofs.FlatTrees.{null-holds}
use Rattle.nest_build.proofs.BytesTrees.{text-typed, text-holds}
use Rattle.nest_build.proofs.flat.utf8.MutableUtf8ArrayFlatBuilder.is_value.Goals as goal

pub returns-then-is_valid : goal.returns-then-is_valid
returns-then-is_valid g c =
    let a = c.args.self.now in
    let large = g.O.Offset.IS_LARGE in
    let xs = c.bytes_at.result.now in
    let ys = c.as_bytes.result.now in
    text-holds large a c.args.i (plain_value c.args.value.now) xs ys c.eq.result (text-typed large a c.known.ensures.fits c.known.ensures.kind) c.requires (ap plain_value c.in-Text.is ∙ ap items.utf8 (sym c.as_bytes.ensures.value))
    (sym c.is_valid.ensures ∙ c.if-is_valid.true) c.bytes_at.ensures
    (λ h. (bytes_decides xs ys).0 (sym c.eq.ensures ∙ h), λ e. c.eq.ensures ∙ (bytes_decides xs ys).1 e)

pub returns-else-is_valid : goal.returns-else-is_valid
returns-else-is_valid g c = null-holds c.args.self.now c.args.i (plain_value c.args.value.now) c.is_valid.result c.requires c.is_valid.ensures c.if-is_valid.false
