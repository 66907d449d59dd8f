use Rattle.std.proofs.Common.{◌<◌, ◌∙◌, length, sym, arith}
use Rattle.nest_model.specs.Accessors.{natives_of}
use Rattle.nest_model.specs.Meaning.{len}
use Rattle.nest_build.proofs.Keys.{row_list-length, natives-length, raw_at, row_null, row_index}
use Rattle.nest_build.proofs.dictionary.rows.key_of.Goals as goal

pub returns-then-not-is_valid : goal.returns-then-not-is_valid
returns-then-not-is_valid g c =
    let a = c.args.keys.now in
    let n = row_list-length a in
    let l : c.args.i < len a = omega (arith, n, c.requires.within) in
    sym (row_null a _ _ _ _ c.args.i c.known.ensures.kind l (sym c.is_valid.ensures ∙ c.if-not-is_valid.true))

pub returns : goal.returns
returns g c =
    let a = c.args.keys.now in
    let n = row_list-length a in
    let l : c.args.i < len a = omega (arith, n, c.requires.within) in
    let m = natives-length a _ _ _ _ c.known.ensures.kind in
    let inside : c.args.i < length (natives_of a) = omega (arith, m, l) in
    let raw = raw_at g.K.NativeType.numbers c.values.result.now.items (natives_of a) c.args.i c.index.result.now c.values.ensures inside c.index.ensures in
    c.to_index.ensures ∙ row_index a _ _ _ _ c.args.i _ c.known.ensures.kind c.requires.raw l (sym c.is_valid.ensures ∙ c.if-not-is_valid.false) raw
