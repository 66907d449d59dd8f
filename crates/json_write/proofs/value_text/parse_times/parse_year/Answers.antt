use Rattle.std.proofs.Common.{◌≡◌, ◌<◌, ◌^◌, inl, inr, length, get_or, nat_lt, pos, int_lt, unsigned_abs, sym, ap, ◌∙◌, arith, rules}
use Rattle.json_write.specs.Times.{year_text}
use Rattle.json_write.proofs.DigitFacts.{length-last_digits}
use Rattle.json_write.proofs.TimeFacts.{same_at_least}
use Rattle.json_write.proofs.ReadingFacts.{none_parsed, minus_not_zero, not_below, year_minus, year_plus, year_plain, year_not_empty}
use Rattle.json_write.proofs.value_text.parse_times.parse_year.Goals as goal

pub returns-in_err-first : goal.returns-in_err-first
returns-in_err-first c =
    none_parsed year_text (λ y. unsigned_abs y < 10 ^ 15) c.args.text.now _ (search rules)
    (λ y fits e. year_not_empty (int_lt y (pos 0)) (nat_lt (unsigned_abs y) 10_000) (unsigned_abs y) c.args.text.now c.in_err-first.ensures.cases e)

pub returns-in_err-years : goal.returns-in_err-years
returns-in_err-years c =
    none_parsed year_text (λ y. unsigned_abs y < 10 ^ 15) c.args.text.now _ (search rules)
    (λ y fits e.
    let minus = rw c.if-first-eq45.true at c.in_ok-first.ensures.cases.0 in
    c.in_err-years.ensures (unsigned_abs y) (omega (arith, fits)) (year_minus (int_lt y (pos 0)) (nat_lt (unsigned_abs y) 10_000) (unsigned_abs y) c.in_ok-first.rest.now (sym minus ∙ e)).0)

pub returns-in_err-years-2 : goal.returns-in_err-years-2
returns-in_err-years-2 c =
    none_parsed year_text (λ y. unsigned_abs y < 10 ^ 15) c.args.text.now _ (search rules)
    (λ y fits e.
    let plus = rw c.if-first-eq43.true at c.in_ok-first.ensures.cases.0 in
    c.in_err-years-2.ensures (unsigned_abs y) (omega (arith, fits)) (year_plus (int_lt y (pos 0)) (nat_lt (unsigned_abs y) 10_000) (unsigned_abs y) c.in_ok-first.rest.now (sym plus ∙ e)).0)

pub returns-else-years-gt0 : goal.returns-else-years-gt0
returns-else-years-gt0 c y fits e =
    let minus = rw c.if-first-eq45.true at c.in_ok-first.ensures.cases.0 in
    let p = year_minus (int_lt y (pos 0)) (nat_lt (unsigned_abs y) 10_000) (unsigned_abs y) c.in_ok-first.rest.now (sym minus ∙ e) in
    let years = c.in_ok-years.years in
    let same : years ≡ unsigned_abs y = same_at_least 6 years (unsigned_abs y) (sym c.in_ok-years.ensures.1 ∙ p.0) in
    elim c.else-years-gt0.either [
      | inl far ↦ omega (arith, far.1, fits, same)
      | inr none ↦ minus_not_zero y (omega (arith, none, same)) p.1
    ]

pub returns-else-years-ge10000 : goal.returns-else-years-ge10000
returns-else-years-ge10000 c y fits e =
    let plus = rw c.if-first-eq43.true at c.in_ok-first.ensures.cases.0 in
    let p = year_plus (int_lt y (pos 0)) (nat_lt (unsigned_abs y) 10_000) (unsigned_abs y) c.in_ok-first.rest.now (sym plus ∙ e) in
    let years = c.in_ok-years-2.years in
    let same : years ≡ unsigned_abs y = same_at_least 6 years (unsigned_abs y) (sym c.in_ok-years-2.ensures.1 ∙ p.0) in
    let large = not_below (unsigned_abs y) 10_000 p.2 in
    elim c.else-years-ge10000.either [
      | inl far ↦ omega (arith, far.1, fits, same)
      | inr few ↦ omega (arith, few, same, large)
    ]

pub returns-else-text-eq4 : goal.returns-else-text-eq4
returns-else-text-eq4 c y fits e =
    let text = c.in_ok-first.ensures.cases.0 in
    let first = ap (λ xs. get_or xs 0 0) text in
    let p = year_plain (int_lt y (pos 0)) (nat_lt (unsigned_abs y) 10_000) (unsigned_abs y) c.args.text.now (λ z. c.if-first-eq45.false (sym first ∙ z)) (λ z. c.if-first-eq43.false (sym first ∙ z)) e in
    c.if-text-eq4.false (ap length p.0 ∙ length-last_digits 4 (unsigned_abs y))
