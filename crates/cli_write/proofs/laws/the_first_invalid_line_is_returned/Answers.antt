use Rattle.std.proofs.Common.{◌∙◌, true, refl, sym, ap, arith}
use Rattle.cli_write.proofs.BooleanLines.{place-in, rows-stop}
use Rattle.cli_write.proofs.laws.the_first_invalid_line_is_returned.Goals as goal

pub returns-clause-second : goal.returns-clause-second
returns-clause-second c = λ x y hx hy. rows-stop x y true hx hy

pub returns-clause-first : goal.returns-clause-first
returns-clause-first c = λ x y hx hy h. let n = ap place-in (sym h ∙ rows-stop x y true hx hy) in omega (arith, n)

pub returns-clause-float : goal.returns-clause-float
returns-clause-float c = λ lines. refl

pub returns-clause-boolean : goal.returns-clause-boolean
returns-clause-boolean c = λ lines h. absurd cc
