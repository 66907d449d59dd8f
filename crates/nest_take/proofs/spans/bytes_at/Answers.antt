use Rattle.std.proofs.Common.{◌≡◌, ◌++◌, ◌+◌, ◌-◌, ◌∷◌, [], ap, ◌∙◌, arith, drop, get_or, take}
use Rattle.std.specs.Prelude.{option_map}
use Rattle.std.proofs.lemmas.Result.{err_from_is_err_and}
use Rattle.nest_memory.specs.Sublist.{sublist}
use Rattle.nest_memory.specs.Rising.{last_of}
use Rattle.nest_model.specs.Part.{begin}
use Rattle.nest_take.specs.Indices.{count_at}
use Rattle.nest_take.proofs.Made.{only-memory}
use Rattle.nest_take.proofs.Pieces.{ends-more, ends-within, items-more}
use Rattle.nest_take.proofs.spans.bytes_at.Goals as goal

pub returns-in_err-try_push_usize-clause-err : goal.returns-in_err-try_push_usize-clause-err
returns-in_err-try_push_usize-clause-err g c =
    let n = count_at c.args.offsets.now (option_map (λ b. b.now) c.args.validity) in
    let w = ends-within n c.args.indices.now c.loop-place.ends c.loop-place.place-index c.loop-place-test.true c.loop-place.invariant.ends in
    let x = c.in_err-try_push_usize.ensures in
    let p = err_from_is_err_and c.from_residual-in_err-try_push_usize.result c.from_residual-in_err-try_push_usize.ensures.1 in
    rw p.1 (p.2 ∙ only-memory _ g.O.Offset.largest (last_of c.loop-place.ends + c.range-start.result.1) x.overflow.0 (omega (arith, w, c.requires.room, c.range-start.ensures.count)) x.errors)

pub loop-place-preserved : goal.loop-place-preserved
loop-place-preserved g c =
    let va = option_map (λ b. b.now) c.args.validity in
    let n = count_at c.args.offsets.now va in
    let es = c.loop-place.ends in
    let bs = c.args.bytes.now in
    let r = c.range-start.result in
    let m : (r.0 + r.1) - r.0 ≡ r.1 = omega arith in
    let row =
    ap (λ z. take z (drop r.0 bs)) m
    ∙ ap (λ z. sublist bs z r.1) c.range-start.ensures.start
    ∙ ap (sublist bs (begin c.args.offsets.now (get_or c.args.indices.now c.loop-place.place-index 0))) c.range-start.ensures.count in
    record {
      ends =
          c.in_ok-try_push_usize.ensures.ok
          ∙ ap (λ m. es ++ (last_of es + m) ∷ []) c.range-start.ensures.count
          ∙ ends-more n c.args.indices.now es c.loop-place.place-index c.loop-place-test.true c.loop-place.invariant.ends;
      bytes = items-more bs c.args.offsets.now va c.args.indices.now c.loop-place.place-index c.loop-place.taken.items _ _ c.loop-place-test.true c.loop-place.invariant.bytes c.in_ok-extend_from_slice.ensures.items row;
    }
