use Rattle.std.proofs.Common.{Err, ap, sym, ◌∙◌, arith}
use Rattle.cli_args.proofs.Levels.{no-and, no-not, no-or, some-and, some-not, some-or}
use Rattle.cli_args.proofs.condition_parser.+conditions.Goals as goal

pub or_at-returns-then-levels-eq0 : goal.or_at-returns-then-levels-eq0
or_at-returns-then-levels-eq0 t c = no-or c.args.len c.args.levels c.args.text.now (omega arith) ∙ ap (λ e. Err e) (sym c.error_at.ensures)

pub or_at-returns : goal.or_at-returns
or_at-returns t c = let e = some-or c.args.len c.args.levels c.args.text.now (omega arith) in rw e c.or_joined.ensures

pub and_at-returns-then-levels-eq0 : goal.and_at-returns-then-levels-eq0
and_at-returns-then-levels-eq0 t c = no-and c.args.len c.args.levels c.args.text.now (omega arith) ∙ ap (λ e. Err e) (sym c.error_at.ensures)

pub and_at-returns : goal.and_at-returns
and_at-returns t c = let e = some-and c.args.len c.args.levels c.args.text.now (omega arith) in rw e c.and_joined.ensures

pub not_at-returns-then-levels-eq0 : goal.not_at-returns-then-levels-eq0
not_at-returns-then-levels-eq0 t c = no-not c.args.len c.args.levels c.args.text.now (omega arith) ∙ ap (λ e. Err e) (sym c.error_at.ensures)

pub not_at-returns : goal.not_at-returns
not_at-returns t c = let e = some-not c.args.len c.args.levels c.args.text.now (omega arith) in rw e c.not_with.ensures
