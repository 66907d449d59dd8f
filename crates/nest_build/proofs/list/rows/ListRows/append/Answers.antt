use Rattle.std.proofs.Common.{◌≡◌, ◌+◌, ◌≤◌, length, inl, inr, sym, ap, ◌∙◌, arith}
use Rattle.nest_memory.specs.Rising.{last_of}
use Rattle.nest_model.specs.Part.{count_rows}
use Rattle.nest_model.specs.BuilderRow.{end_from}
use Rattle.nest_model.specs.Checks.{largest_length}
use Rattle.nest_build.proofs.Rows.{row_list-end, row_list-count, row_list-joined, rows-joined, joined-rows, err-of, not_past, by-width, by-width-past}
use Rattle.nest_build.proofs.list.rows.ListRows.append.Goals as goal

pub returns-in-Err-clause-cause : goal.returns-in-Err-clause-cause
returns-in-Err-clause-cause g c =
    let a = c.self.inside in
    let b = c.other.inside in
    let e = row_list-end a.offsets a.validity c.args.self.now c.self.view_is c.known.ensures.some c.known.ensures.first c.self.invariant.fits in
    let f = row_list-end b.offsets b.validity c.args.other.now c.other.view_is c.known-2.ensures.some c.known-2.ensures.first c.other.invariant.fits in
    elim c.in-Err.ensures.errors [
      | inl o ↦ inr (o, by-width-past (end_from 0 c.args.self.now + end_from 0 c.args.other.now) g.O.Offset.largest g.O.Offset.IS_LARGE g.met.O.Offset.largest_is (omega (arith, e, f, c.try_extend_from_self.ensures.overflow.0 (err-of c.try_extend_from_self.result _ _ c.in-Err.is o))))
      | inr m ↦ inl m
    ]

pub invariant_of-self-in_default-join : goal.invariant_of-self-in_default-join
invariant_of-self-in_default-join g c =
    let a = c.self.inside in
    let b = c.other.inside in
    let n : c.len_proxy-len.result ≡ count_rows a.offsets = omega arith in
    let m : c.len_proxy-more.result ≡ count_rows b.offsets = omega arith in
    let r = ap count_rows c.in_default.ensures.ok ∙ rows-joined a.offsets b.offsets c.known.ensures.some in
    rw c.in_default-join.ensures.ok (joined-rows a.validity b.validity c.len_proxy-len.result c.len_proxy-more.result (count_rows c.try_extend_from_self.new.self) (rw n c.self.invariant) (rw m c.other.invariant) (r ∙ (λ i. sym n i + sym m i)))

pub returns-clause-ok : goal.returns-clause-ok
returns-clause-ok g c =
    let a = c.self.inside in
    let b = c.other.inside in
    let n : c.len_proxy-len.result ≡ count_rows a.offsets = omega arith in
    let m : c.len_proxy-more.result ≡ count_rows b.offsets = omega arith in
    let e = row_list-end a.offsets a.validity c.args.self.now c.self.view_is c.known.ensures.some c.known.ensures.first c.self.invariant.fits in
    row_list-joined a.offsets b.offsets c.try_extend_from_self.new.self a.validity b.validity c.join.new.validity c.args.self.now c.args.other.now c.len_proxy-len.result c.len_proxy-more.result (end_from 0 c.args.self.now)
    c.self.view_is c.other.view_is c.in_default.ensures.ok c.in_default-join.ensures.ok n m e c.known.ensures.some c.self.invariant.fits c.other.invariant.fits

pub returns-clause-within : goal.returns-clause-within
returns-clause-within g c =
    let a = c.self.inside in
    let b = c.other.inside in
    let e = row_list-end a.offsets a.validity c.args.self.now c.self.view_is c.known.ensures.some c.known.ensures.first c.self.invariant.fits in
    let f = row_list-end b.offsets b.validity c.args.other.now c.other.view_is c.known-2.ensures.some c.known-2.ensures.first c.other.invariant.fits in
    let n = row_list-count a.offsets a.validity c.args.self.now c.self.view_is c.self.invariant.fits in
    let m = row_list-count b.offsets b.validity c.args.other.now c.other.view_is c.other.invariant.fits in
    let r = ap count_rows c.in_default.ensures.ok ∙ rows-joined a.offsets b.offsets c.known.ensures.some in
    let room = c.known-3.ensures.room in
    let count : length c.args.self.now + length c.args.other.now ≤ largest_length = omega arith in
    let small = not_past (last_of a.offsets + last_of b.offsets) g.O.Offset.largest (λ p. let q = c.in_default.ensures.overflow.1 p in cc) in
    (count, by-width (end_from 0 c.args.self.now + end_from 0 c.args.other.now) g.O.Offset.largest g.O.Offset.IS_LARGE g.met.O.Offset.largest_is (omega (arith, e, f, small)))
