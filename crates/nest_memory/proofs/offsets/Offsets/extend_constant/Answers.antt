use Rattle.std.proofs.Common.{◌≡◌, ◌≤◌, ◌+◌, ◌-◌, ◌++◌, ◌∙◌, ap, sym, arith, length, replicate, get_or}
use Rattle.std.specs.Prelude.{vec_len}
use Rattle.nest_memory.specs.Rising.{last_of, numbers}
use Rattle.nest_memory.proofs.OffsetReads.{start_repeat, numbers_repeat, resized, last_value}
use Rattle.nest_memory.proofs.offsets.Offsets.extend_constant.Goals as goal

pub invariant_of-self-2 : goal.invariant_of-self-2
invariant_of-self-2 g c =
    let xs = c.self.inside.offsets.items in
    let len : c.len-len.result ≡ length xs = omega arith in
    let stored : vec_len c.self.inside.offsets ≡ length xs = omega arith in
    let room : c.in-Some.room ≡ vec_len c.self.inside.offsets + c.args.additional = omega arith in
    let last = last_value g.O.Offset.value xs c.index-last.result.now c.self.invariant.0 (c.index-last.ensures ∙ ap (λ k. get_or xs (k - 1) c.index-last.result.now) len) in
    let same : last_of (numbers g.O.Offset.value xs) ≤ last_of (numbers g.O.Offset.value xs) = omega arith in
    start_repeat g.O.Offset.value xs _ c.args.additional c.index-last.result.now _ (resized xs _ _ c.in-Some.room c.args.additional _ c.in_ok-resize.ensures.items stored room) c.self.invariant same last

pub returns-clause-ok : goal.returns-clause-ok
returns-clause-ok g c =
    let xs = c.self.inside.offsets.items in
    let len : c.len-len.result ≡ length xs = omega arith in
    let stored : vec_len c.self.inside.offsets ≡ length xs = omega arith in
    let room : c.in-Some.room ≡ vec_len c.self.inside.offsets + c.args.additional = omega arith in
    let last = last_value g.O.Offset.value xs c.index-last.result.now c.self.invariant.0 (c.index-last.ensures ∙ ap (λ k. get_or xs (k - 1) c.index-last.result.now) len) in
    numbers_repeat g.O.Offset.value xs _ c.args.additional c.index-last.result.now _ (resized xs _ _ c.in-Some.room c.args.additional _ c.in_ok-resize.ensures.items stored room) (sym last)
    ∙ ap (λ ns. ns ++ replicate c.args.additional (last_of ns)) c.self.view_is
