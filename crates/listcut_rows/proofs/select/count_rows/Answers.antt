use Rattle.std.proofs.Common.{◌∙◌, sym}
use Rattle.nest_model.specs.Reads.{slots-length}
use Rattle.listcut_rows.proofs.select.count_rows.Goals as goal

pub returns-clause-slots : goal.returns-clause-slots
returns-clause-slots c = c.len.ensures ∙ sym (slots-length c.args.rows.now)
