use Rattle.float_text.proofs.TextBytes.{number-bytes, number-first}
use Rattle.float_text.proofs.laws.finite_text_is_a_number.Goals as goal

pub returns-clause-bytes : goal.returns-clause-bytes
returns-clause-bytes c f bits h = number-bytes f bits h

pub returns-clause-first : goal.returns-clause-first
returns-clause-first c f bits h = number-first f bits h
