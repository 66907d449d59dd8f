use Rattle.std.proofs.Common.{sym, subst}
use Rattle.nest_model.specs.Accessors.{child_of, key_at, keys_of}
use Rattle.nest_model.specs.Meaning.{len}
use Rattle.nest_scan.specs.Items.{HasNoNull}
use Rattle.nest_scan.proofs.Keyed.{named-valid, not-negative, text-place, no-null, named-text}
use Rattle.nest_scan.proofs.dictionary.typed.TypedValuesElements.item.Goals as goal

pub key_value-requires-clause-not_negative : goal.key_value-requires-clause-not_negative
key_value-requires-clause-not_negative g c =
    let a = c.args.self.now.keys.now in
    not-negative (key_at (keys_of a) c.args.i) (len (child_of a))
    (named-valid a c.args.i c.known.ensures.fits c.known.ensures.kind c.requires.within (no-null a c.args.i c.requires.asked.0 c.requires.within))

pub value-requires : goal.value-requires
value-requires g c =
    let a = c.args.self.now.keys.now in
    text-place a c.args.self.now.values.now c.args.i c.key_value.result c.known.ensures.fits c.known.ensures.kind c.args.self.now.of_keys c.requires.within
    (no-null a c.args.i c.requires.asked.0 c.requires.within) c.key_value.ensures.key

pub returns : goal.returns
returns g c =
    let a = c.args.self.now.keys.now in
    let vs = c.args.self.now.values.now in
    let s = c.args.self.now.of_keys in
    let v = no-null a c.args.i c.requires.asked.0 c.requires.within in
    let l = text-place a vs c.args.i c.key_value.result c.known.ensures.fits c.known.ensures.kind s c.requires.within v c.key_value.ensures.key in
    named-text _ a vs c.args.i c.key_value.result c.value.result.now c.known.ensures.kind c.known-2.ensures.kind s c.key_value.ensures.slot v c.value.ensures.slot
    (no-null vs c.key_value.result (subst HasNoNull (sym s) c.requires.asked.1) l)
