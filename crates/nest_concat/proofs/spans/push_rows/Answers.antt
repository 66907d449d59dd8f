use Rattle.std.proofs.Common.{◌+◌, ◌-◌, arith}
use Rattle.nest_concat.specs.Windows.{extents}
use Rattle.nest_memory.specs.Rising.{ends_from}
use Rattle.nest_concat.proofs.Grown.{end-within, ends-row, offset-more, read-offset}
use Rattle.nest_concat.proofs.spans.push_rows.Goals as goal

pub loop-i-preserved : goal.loop-i-preserved
loop-i-preserved g c =
    let i = c.loop-i.i in
    let os = c.args.offsets.now in
    let o = c.args.start in
    let b = read-offset os (o + i + 1) c.start_end-to.result.1 c.start_end-to.ensures.second in
    let n = c.args.base + (c.start_end-to.result.1 - c.offset_at-first.result) in
    let w = (end-within os o i c.args.n c.offset_at-first.result c.start_end-to.result.1 c.args.base g.O.Offset.largest (c.known.ensures.some, c.known.ensures.rising) c.loop-i-test.true c.requires.within c.offset_at-first.ensures.offset b c.requires.room).0 in
    record {
      gathered = offset-more g.O.Offset.value c.args.ends.now.items c.loop-i.ends.items c.push.new.self.items c.offset_of.result (ends_from c.args.base (extents os o i)) (ends_from c.args.base (extents os o (i + 1))) n
          c.loop-i.invariant.gathered c.in_ok-push.ensures.items c.offset_of.ensures
          (ends-row c.args.base os o i n (c.known.ensures.some, c.known.ensures.rising) (omega (arith, c.requires.within, c.loop-i-test.true)) (omega (arith, b, c.offset_at-first.ensures.offset, w)));
    }

pub overflow_sub-to : goal.overflow_sub-to
overflow_sub-to g c =
    let os = c.args.offsets.now in
    let b = read-offset os (c.args.start + c.loop-i.i + 1) c.start_end-to.result.1 c.start_end-to.ensures.second in
    (end-within os c.args.start c.loop-i.i c.args.n c.offset_at-first.result c.start_end-to.result.1 c.args.base g.O.Offset.largest (c.known.ensures.some, c.known.ensures.rising) c.loop-i-test.true c.requires.within c.offset_at-first.ensures.offset b c.requires.room).0

pub overflow_add-base : goal.overflow_add-base
overflow_add-base g c =
    let os = c.args.offsets.now in
    let b = read-offset os (c.args.start + c.loop-i.i + 1) c.start_end-to.result.1 c.start_end-to.ensures.second in
    let w = (end-within os c.args.start c.loop-i.i c.args.n c.offset_at-first.result c.start_end-to.result.1 c.args.base g.O.Offset.largest (c.known.ensures.some, c.known.ensures.rising) c.loop-i-test.true c.requires.within c.offset_at-first.ensures.offset b c.requires.room).1 in
    omega (arith, w, c.offset_at-first.ensures.small)

pub offset_of-requires : goal.offset_of-requires
offset_of-requires g c =
    let os = c.args.offsets.now in
    let b = read-offset os (c.args.start + c.loop-i.i + 1) c.start_end-to.result.1 c.start_end-to.ensures.second in
    (end-within os c.args.start c.loop-i.i c.args.n c.offset_at-first.result c.start_end-to.result.1 c.args.base g.O.Offset.largest (c.known.ensures.some, c.known.ensures.rising) c.loop-i-test.true c.requires.within c.offset_at-first.ensures.offset b c.requires.room).1
