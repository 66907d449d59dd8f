use Rattle.std.proofs.Common.{◌≡◌, ◌<◌, ◌≤◌, true, false, sym, subst, ◌∙◌}
use Rattle.nest_model.specs.Meaning.{len}
use Rattle.nest_array.specs.Seen.{layouts_of}
use Rattle.ipc.specs.UnionOffsets.{offset_past}
use Rattle.ipc.proofs.UnionOffsets.{one_more, one_passes, none_at_all, overflows, is_dense, dense_slots}
use Rattle.ipc.proofs.union_offsets.slots_overflow.Goals as goal

pub loop-i-preserved : goal.loop-i-preserved
loop-i-preserved c =
    let cs = layouts_of c.args.fields.now in
    let b = c.args.more.now in
    let i = c.loop-i.i in
    let within : i < len b = subst (λ n. i < n) c.len-i-end.ensures c.loop-i-test.true in
    let fits : offset_past cs b i ≡ false = overflows cs b i c.index-f.result.0 c.index-f.result.1 c.len_of.result c.index-f.ensures.field c.index-f.ensures.place c.len_of.ensures c.overflows.result c.overflows.ensures ∙ c.if-overflows.false in
    one_more (offset_past cs b) i (len b) within fits c.loop-i.invariant

pub returns-then-overflows : goal.returns-then-overflows
returns-then-overflows c =
    let cs = layouts_of c.args.fields.now in
    let b = c.args.more.now in
    let i = c.loop-i.i in
    let within : i < len b = subst (λ n. i < n) c.len-i-end.ensures c.loop-i-test.true in
    let past : offset_past cs b i ≡ true = overflows cs b i c.index-f.result.0 c.index-f.result.1 c.len_of.result c.index-f.ensures.field c.index-f.ensures.place c.len_of.ensures c.overflows.result c.overflows.ensures ∙ c.if-overflows.true in
    let dense = is_dense _ c.offsets.result b c.offsets.ensures c.if-is_none.ensures in
    sym (dense_slots cs b true dense (one_passes (offset_past cs b) i (len b) within past c.loop-i.invariant))

pub returns : goal.returns
returns c =
    let cs = layouts_of c.args.fields.now in
    let b = c.args.more.now in
    let end : len b ≤ c.loop-i.i = subst (λ n. n ≤ c.loop-i.i) c.len-i-end.ensures c.loop-i-test.false in
    let dense = is_dense _ c.offsets.result b c.offsets.ensures c.if-is_none.ensures in
    sym (dense_slots cs b false dense (none_at_all (offset_past cs b) c.loop-i.i (len b) end c.loop-i.invariant))
