use Rattle.std.proofs.Common.{◌<◌, ap, arith, sym, ◌∙◌, subst}
use Rattle.nest_model.specs.Layout.{weight}
use Rattle.nest_model.specs.Meaning.{len, slot}
use Rattle.nest_array.specs.Seen.{layout_of}
use Rattle.cli_rows.proofs.Values.{key-within, lighter, null-test, unkeyed}
use Rattle.cli_rows.proofs.select.values.+is_null.Goals as goal

pub is_null-requires-in-Some-2 : goal.is_null-requires-in-Some-2
is_null-requires-in-Some-2 t c =
    let d = c.in-Some.dictionary.now in
    let whole = c.in-Some.ensures.1 in
    let n = ap len whole in
    let w = ap weight whole in
    let l = lighter d (layout_of c.values.result.now) c.known-in-Some.ensures.kind c.values.ensures in
    let k = key-within d c.args.i c.key_value.result c.known-in-Some.ensures.fits c.known-in-Some.ensures.kind (omega (arith, n)) (sym c.is_null-in-Some.ensures.place ∙ c.if-is_null.false) c.key_value.ensures.key in
    (omega (arith, w, l), subst (λ z. c.key_value.result < len z) (sym c.values.ensures) k)

pub returns-in-None : goal.returns-in-None
returns-in-None t c =
    let a = layout_of c.args.array.now in
    null-test c.is_null.result (slot a c.args.i) (c.is_null.ensures.slot (unkeyed a c.known.ensures c.in-None.ensures))
