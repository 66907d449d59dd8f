use Rattle.std.proofs.Common.{◌≡◌, ◌⊎◌, ◌++◌, inr, refl, ap, sym, ◌∙◌, subst, arith, length, map, take}
use Rattle.std.specs.Prelude.{alloc_error}
use Rattle.std.specs.List.{range_with_len}
use Rattle.std.proofs.lemmas.Result.{err_from_is_err_and}
use Rattle.nest_memory.specs.TypeTree.{count_fields, fields_of}
use Rattle.nest_memory.specs.declared.error.Error.TheVariants.{Memory, Overflow}
use Rattle.nest_model.specs.Accessors.{children_of, union_offsets_of}
use Rattle.nest_model.specs.Layout.{count_layouts, layout_type}
use Rattle.nest_concat.specs.Limits.{PassesPicks}
use Rattle.nest_concat.specs.Moved.{moved_offset}
use Rattle.nest_concat.proofs.Children.{count-of}
use Rattle.nest_concat.proofs.LaidParts.{ok-always}
use Rattle.nest_concat.proofs.Logical.{fields-alike, kind-alike}
use Rattle.nest_concat.proofs.Moving.{counts-more, few-none, item-within, none-counted, offsets-more, one-passes, picks-room, same-offsets}
use Rattle.nest_concat.proofs.Picked.{facts-of, same-mode, union-is}
use Rattle.nest_concat.proofs.Unions.{facts-by}
use Rattle.nest_concat.proofs.union.offsets_behind.Goals as goal

pub loop-window-init : goal.loop-window-init
loop-window-init c = record { gathered = c.in_ok-offsets.ensures.items; counted = none-counted _ _ refl; few = few-none _ refl }

pub advance-requires-clause-fields : goal.advance-requires-clause-fields
advance-requires-clause-fields c =
    let a = c.args.array.now in
    let x = item-within (layout_type a) c.args.windows.now c.loop-window.window-index c.window-item.result c.requires.within c.loop-window-test.true c.window-item.is in
    omega (arith, count-of c.fields-n.result.now, ap count_layouts c.fields-n.ensures, (facts-of a c.known.ensures.fits c.known.ensures.kind).as_many, ap count_fields (fields-alike (layout_type c.window-item.result.array) (layout_type a) x.same_type))

pub advance-requires-clause-kind : goal.advance-requires-clause-kind
advance-requires-clause-kind c =
    let a = c.args.array.now in
    let w = c.window-item.result in
    let x = item-within (layout_type a) c.args.windows.now c.loop-window.window-index w c.requires.within c.loop-window-test.true c.window-item.is in
    kind-alike (layout_type w.array) (layout_type a) _ x.same_type (facts-of a c.known.ensures.fits c.known.ensures.kind).typed

pub push_offsets-requires-clause-kind : goal.push_offsets-requires-clause-kind
push_offsets-requires-clause-kind c =
    let a = c.args.array.now in
    let w = c.window-item.result in
    let x = item-within (layout_type a) c.args.windows.now c.loop-window.window-index w c.requires.within c.loop-window-test.true c.window-item.is in
    kind-alike (layout_type w.array) (layout_type a) _ x.same_type (facts-of a c.known.ensures.fits c.known.ensures.kind).typed

pub returns-in_err-advance-clause-err : goal.returns-in_err-advance-clause-err
returns-in_err-advance-clause-err c =
    let a = c.args.array.now in
    let ws = c.args.windows.now in
    let n : length c.fields-n.result.now ≡ count_layouts (children_of a) = omega (arith, count-of c.fields-n.result.now, ap count_layouts c.fields-n.ensures) in
    let q = one-passes a ws c.loop-window.window-index c.window-item.result _ c.loop-window.counts c.requires.dense c.loop-window-test.true c.window-item.is c.loop-window.invariant.counted n c.in_err-advance.ensures.err.1 in
    let p = err_from_is_err_and c.from_residual-in_err-advance.result c.from_residual-in_err-advance.ensures.1 in
    rw p.1 (subst (λ z. (z ≡ Memory alloc_error) ⊎ ((z ≡ Overflow) × PassesPicks (union_offsets_of a) (count_layouts (children_of a)) ws)) (sym p.2) (inr (c.in_err-advance.ensures.err.0, q)))

pub push_offsets-requires-clause-dense : goal.push_offsets-requires-clause-dense
push_offsets-requires-clause-dense c =
    let a = c.args.array.now in
    let w = c.window-item.result in
    let x = item-within (layout_type a) c.args.windows.now c.loop-window.window-index w c.requires.within c.loop-window-test.true c.window-item.is in
    let p = (facts-of a c.known.ensures.fits c.known.ensures.kind).typed in
    λ e. c.requires.dense (same-mode w.array a x.is_array c.known.ensures.fits (union-is (layout_type a) w.array x.is_array x.same_type p) c.known.ensures.kind x.same_type e)

pub push_offsets-requires-clause-parts : goal.push_offsets-requires-clause-parts
push_offsets-requires-clause-parts c =
    let a = c.args.array.now in
    let w = c.window-item.result in
    let x = item-within (layout_type a) c.args.windows.now c.loop-window.window-index w c.requires.within c.loop-window-test.true c.window-item.is in
    let r = facts-of a c.known.ensures.fits c.known.ensures.kind in
    let v = facts-by (layout_type a) w.array x.is_array x.same_type r.typed in
    let n = count-of c.fields-n.result.now in
    let m = ap count_layouts c.fields-n.ensures in
    λ f l. let y = c.in_ok-advance.ensures.ok f (omega (arith, n, m, r.as_many, v.as_many, l)) in (y.0, omega (arith, y.1), c.in_ok-advance.ensures.few f)

pub loop-window-preserved : goal.loop-window-preserved
loop-window-preserved c =
    let a = c.args.array.now in
    let ws = c.args.windows.now in
    let k = c.loop-window.window-index in
    let w = c.window-item.result in
    let i = c.loop-window.invariant in
    let x = item-within (layout_type a) ws k w c.requires.within c.loop-window-test.true c.window-item.is in
    let r = facts-of a c.known.ensures.fits c.known.ensures.kind in
    let n : length c.fields-n.result.now ≡ count_fields (fields_of (layout_type a)) = omega (arith, count-of c.fields-n.result.now, ap count_layouts c.fields-n.ensures, r.as_many) in
    record {
      gathered =
          c.in_ok-push_offsets.ensures.ok
          ∙ ap (λ xs. c.loop-window.offsets.items ++ xs) (same-offsets (layout_type a) w (take k ws) _ c.loop-window.counts c.advance.new.ends c.advance.new.counts x.is_array x.within x.same_type r.typed n i.counted c.in_ok-advance.ensures.ok)
          ∙ ap (λ xs. xs ++ map (moved_offset (take k ws) w) (range_with_len w.offset w.count)) i.gathered
          ∙ sym (offsets-more ws k w c.loop-window-test.true c.window-item.is);
      counted = λ f l. omega (arith, (c.in_ok-advance.ensures.ok f l).1, i.counted f l, counts-more f ws k w c.loop-window-test.true c.window-item.is);
      few = c.in_ok-advance.ensures.few;
    }

pub returns-clause-room : goal.returns-clause-room
returns-clause-room c =
    let n : length c.fields-n.result.now ≡ count_layouts (children_of c.args.array.now) = omega (arith, count-of c.fields-n.result.now, ap count_layouts c.fields-n.ensures) in
    ok-always c.from_vec.result _ (picks-room _ _ _ c.args.windows.now c.loop-window.window-index c.loop-window.counts (omega (arith, c.loop-window-test.false)) n c.loop-window.invariant.counted c.loop-window.invariant.few)
