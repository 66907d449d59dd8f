use Rattle.std.proofs.Common.{◌≡◌, false, sym, ◌∙◌, subst}
use Rattle.nest_model.specs.Nullness.{is_null_at}
use Rattle.nest_scan.specs.Items.{HasNoNull}
use Rattle.nest_scan.proofs.Keyed.{text-place, no-null, named-text}
use Rattle.nest_scan.proofs.dictionary.typed.TypedOrNullElements.item.Goals as goal

pub returns : goal.returns
returns g c =
    let a = c.args.self.now.0.keys.now in
    let vs = c.args.self.now.0.values.now in
    let s = c.args.self.now.0.of_keys in
    let v : is_null_at a c.args.i ≡ false = sym c.is_null.ensures.place ∙ c.if-is_null.false in
    let l = text-place a vs c.args.i c.key_value.result c.known.ensures.fits c.known.ensures.kind s c.requires.within v c.key_value.ensures.key in (
      v,
      named-text _ a vs c.args.i c.key_value.result c.value.result.now c.known.ensures.kind c.known-2.ensures.kind s c.key_value.ensures.slot v c.value.ensures.slot
          (no-null vs c.key_value.result (subst HasNoNull (sym s) c.requires.asked) l),
    )
