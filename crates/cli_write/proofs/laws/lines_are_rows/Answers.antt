use Rattle.std.proofs.Common.{◌≡◌, true, false, [], ◌∷◌, refl, ap, length, arith}
use Rattle.cli_write.proofs.BooleanLines.{first-truth, held-so, ok_slot, rows-are}
use Rattle.cli_write.proofs.laws.lines_are_rows.Goals as goal

pub returns-clause-batch : goal.returns-clause-batch
returns-clause-batch c = λ x y hx hy. record {
  rows = ok_slot true ∷ ok_slot false ∷ [];
  fields = refl;
  plain = refl;
  read = rows-are x y true false hx hy;
  held = refl;
}

pub returns-clause-batches : goal.returns-clause-batches
returns-clause-batches c = λ x y hx hy. record {
  rows = ok_slot true ∷ ok_slot false ∷ [];
  fields = refl;
  plain = refl;
  read = rows-are x y true false hx hy;
  held = refl;
}

pub returns-clause-order : goal.returns-clause-order
returns-clause-order c = λ x y hx hy h. let u : false ≡ true = ap first-truth (held-so x y true false _ hx hy h) in cc

pub returns-clause-fewer : goal.returns-clause-fewer
returns-clause-fewer c = λ x y hx hy h. let n = ap length (held-so x y true false _ hx hy h) in omega (arith, n)

pub returns-clause-fields : goal.returns-clause-fields
returns-clause-fields c = λ h. let n = ap length h.fields in omega (arith, n)
