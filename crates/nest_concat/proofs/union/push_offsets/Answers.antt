use Rattle.std.proofs.Common.{◌+◌, ◌-◌, ◌++◌, ◌∷◌, [], get_or, map, w32, refl, ap, sym, ◌∙◌, arith, append_assoc}
use Rattle.std.specs.List.{range_with_len}
use Rattle.std.proofs.lemmas.Int.{to_z_pos}
use Rattle.std.proofs.lemmas.List.FromFn.{map-range_with_len_more}
use Rattle.nest_model.specs.Accessors.{start_of, union_offsets_of}
use Rattle.nest_model.specs.Meaning.{union_index}
use Rattle.nest_concat.specs.Moved.{offset_by}
use Rattle.nest_concat.specs.Parts.{field_at}
use Rattle.nest_concat.proofs.Moving.{offset-is, placed}
use Rattle.nest_concat.proofs.union.push_offsets.Goals as goal

pub overflow_sub-ends : goal.overflow_sub-ends
overflow_sub-ends c =
    let a = c.union_of-array.result.now in
    let i = c.loop-i.i in
    let f = c.index-field.result.0 in
    let q = c.index-field.result.1 in
    let y = ap (λ o. field_at a (o + i)) (sym c.offset-start.ensures) ∙ c.index-field.ensures.field in
    let z = c.index-field.ensures.place ∙ ap (λ o. union_index (union_offsets_of a) (start_of a) (o + i)) c.offset-start.ensures in
    let r = placed c.args.window.now a c.args.ends.now c.args.counts.now i f q c.union_of-array.ensures c.known-2.ensures.fits c.known-2.ensures.kind c.requires.parts (omega (arith, c.loop-i-test.true, c.len-i-end.ensures)) c.index-field.ensures.field_there y z in
    omega (arith, r.before_end)

pub overflow_sub-counts : goal.overflow_sub-counts
overflow_sub-counts c =
    let a = c.union_of-array.result.now in
    let i = c.loop-i.i in
    let f = c.index-field.result.0 in
    let q = c.index-field.result.1 in
    let y = ap (λ o. field_at a (o + i)) (sym c.offset-start.ensures) ∙ c.index-field.ensures.field in
    let z = c.index-field.ensures.place ∙ ap (λ o. union_index (union_offsets_of a) (start_of a) (o + i)) c.offset-start.ensures in
    let r = placed c.args.window.now a c.args.ends.now c.args.counts.now i f q c.union_of-array.ensures c.known-2.ensures.fits c.known-2.ensures.kind c.requires.parts (omega (arith, c.loop-i-test.true, c.len-i-end.ensures)) c.index-field.ensures.field_there y z in
    omega (arith, r.room)

pub overflow_cast-counts : goal.overflow_cast-counts
overflow_cast-counts c =
    let a = c.union_of-array.result.now in
    let i = c.loop-i.i in
    let f = c.index-field.result.0 in
    let q = c.index-field.result.1 in
    let y = ap (λ o. field_at a (o + i)) (sym c.offset-start.ensures) ∙ c.index-field.ensures.field in
    let z = c.index-field.ensures.place ∙ ap (λ o. union_index (union_offsets_of a) (start_of a) (o + i)) c.offset-start.ensures in
    let r = placed c.args.window.now a c.args.ends.now c.args.counts.now i f q c.union_of-array.ensures c.known-2.ensures.fits c.known-2.ensures.kind c.requires.parts (omega (arith, c.loop-i-test.true, c.len-i-end.ensures)) c.index-field.ensures.field_there y z in
    omega (arith, r.fits)

pub loop-i-preserved : goal.loop-i-preserved
loop-i-preserved c =
    let w = c.args.window.now in
    let a = c.union_of-array.result.now in
    let ends = c.args.ends.now in
    let counts = c.args.counts.now in
    let start = c.offset-start.result in
    let i = c.loop-i.i in
    let f = c.index-field.result.0 in
    let q = c.index-field.result.1 in
    let y = ap (λ o. field_at a (o + i)) (sym c.offset-start.ensures) ∙ c.index-field.ensures.field in
    let z = c.index-field.ensures.place ∙ ap (λ o. union_index (union_offsets_of a) (start_of a) (o + i)) c.offset-start.ensures in
    let r = placed w a ends counts i f q c.union_of-array.ensures c.known-2.ensures.fits c.known-2.ensures.kind c.requires.parts (omega (arith, c.loop-i-test.true, c.len-i-end.ensures)) c.index-field.ensures.field_there y z in
    let n = get_or counts f 0 - (get_or ends f 0 - q) in
    let g = offset_by ends counts w in
    let old = c.args.offsets.now.items in
    c.in_ok-push.ensures.items
    ∙ ap (λ x. c.loop-i.offsets.items ++ x ∷ []) (to_z_pos w32 n r.fits ∙ sym (offset-is w a ends counts (start + i) f q c.union_of-array.ensures c.index-field.ensures.field c.index-field.ensures.place))
    ∙ ap (λ xs. xs ++ g (start + i) ∷ []) c.loop-i.invariant
    ∙ append_assoc old (map g (range_with_len start i)) (g (start + i) ∷ [])
    ∙ ap (λ xs. old ++ xs) (sym (map-range_with_len_more g start i (start + i) refl))
