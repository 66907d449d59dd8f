use Rattle.cli_write.proofs.laws.lines_are_appended.Goals as goal

pub returns : goal.returns
returns c = λ fs lines old new h. (h.1, h.4)
