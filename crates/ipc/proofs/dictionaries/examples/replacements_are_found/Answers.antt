use Rattle.ipc.specs.FileDictionaryExamples.{turned_anew, large_anew, fewer_anew, later_anew}
use Rattle.ipc.proofs.dictionaries.examples.replacements_are_found.Goals as goal

pub returns-clause-turned : goal.returns-clause-turned
returns-clause-turned c = turned_anew

pub returns-clause-large : goal.returns-clause-large
returns-clause-large c = large_anew

pub returns-clause-fewer : goal.returns-clause-fewer
returns-clause-fewer c = fewer_anew

pub returns-clause-later : goal.returns-clause-later
returns-clause-later c = later_anew
