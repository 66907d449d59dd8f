use Rattle.std.proofs.Common.{ap}
use Rattle.cli_rows.proofs.EqualWindows.{same-as-windows}
use Rattle.cli_rows.proofs.select.difference.same_row.Goals as goal

pub returns : goal.returns
returns c =
    same-as-windows c.args.x.now c.args.y.now c.cut-v.result c.cut-w.result c.args.k c.equal_windows.result c.known.ensures c.requires.within (ap (λ p. p.array) c.cut-v.ensures.parts) c.cut-v.ensures.slots (ap (λ p. p.array) c.cut-w.ensures.parts) c.cut-w.ensures.slots c.equal_windows.ensures
