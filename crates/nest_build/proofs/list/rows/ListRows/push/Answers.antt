use Rattle.std.proofs.Common.{◌≡◌, ◌+◌, ◌-◌, ◌≤◌, length, arith}
use Rattle.nest_memory.specs.Rising.{last_of}
use Rattle.nest_model.specs.Part.{count_rows}
use Rattle.nest_model.specs.Checks.{largest_length}
use Rattle.nest_build.proofs.Rows.{row_list-end, row_list-push, row_list-count, not_past, by-width}
use Rattle.nest_build.proofs.list.rows.ListRows.push.Goals as goal

pub overflow_sub-end : goal.overflow_sub-end
overflow_sub-end g c =
    let a = c.self.inside in
    let e = row_list-end a.offsets a.validity c.args.self.now c.self.view_is c.known.ensures.some c.known.ensures.first c.self.invariant.fits in
    omega arith

pub returns-clause-ok : goal.returns-clause-ok
returns-clause-ok g c =
    let a = c.self.inside in
    let e = row_list-end a.offsets a.validity c.args.self.now c.self.view_is c.known.ensures.some c.known.ensures.first c.self.invariant.fits in
    let n : c.len_proxy-len.result ≡ count_rows a.offsets = omega arith in
    let x : last_of a.offsets + (c.args.end - c.last-last.result) ≡ c.args.end = omega arith in
    row_list-push a.offsets c.try_push_usize.new.self a.validity c.push.new.validity c.args.self.now c.len_proxy-len.result c.args.valid _ c.args.end
    c.self.view_is c.in_ok-try_push_usize.ensures.ok c.in_default.ensures.ok n x c.known.ensures.some c.self.invariant.fits

pub returns-clause-within : goal.returns-clause-within
returns-clause-within g c =
    let a = c.self.inside in
    let e = row_list-end a.offsets a.validity c.args.self.now c.self.view_is c.known.ensures.some c.known.ensures.first c.self.invariant.fits in
    let n = row_list-count a.offsets a.validity c.args.self.now c.self.view_is c.self.invariant.fits in
    let room = c.known.ensures.room in
    let x : last_of a.offsets + (c.args.end - c.last-last.result) ≡ c.args.end = omega arith in
    let count : length c.args.self.now + 1 ≤ largest_length = omega arith in
    let small = not_past (last_of a.offsets + (c.args.end - c.last-last.result)) g.O.Offset.largest (λ p. let q = c.in_ok-try_push_usize.ensures.overflow.1 p in cc) in
    (count, by-width c.args.end g.O.Offset.largest g.O.Offset.IS_LARGE g.met.O.Offset.largest_is (omega (arith, x, small)))
