use Rattle.std.proofs.Common.{sym, ◌∙◌, arith}
use Rattle.nest_concat.proofs.Picked.{behind-more, lowest-first, lowest-more}
use Rattle.nest_concat.proofs.union.widened.Goals as goal

pub returns-then-end-eq0-clause-first : goal.returns-then-end-eq0-clause-first
returns-then-end-eq0-clause-first c = λ ps e f. sym (lowest-first ps c.args.place (sym f ∙ c.if-end-eq0.true))

pub returns-then-end-eq0-clause-end : goal.returns-then-end-eq0-clause-end
returns-then-end-eq0-clause-end c = λ ps f. omega (arith, behind-more ps c.args.place, f, c.if-end-eq0.true)

pub returns-clause-first : goal.returns-clause-first
returns-clause-first c = λ ps e f. omega (arith, lowest-more ps c.args.place (λ z. c.if-end-eq0.false (f ∙ z)), e, c.min.ensures)

pub returns-clause-end : goal.returns-clause-end
returns-clause-end c = λ ps f. omega (arith, behind-more ps c.args.place, f, c.max.ensures)
