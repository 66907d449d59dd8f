use Rattle.std.proofs.Common.{refl}
use Rattle.json_write.specs.Times.{date_text}
use Rattle.cli_rows.proofs.TimeExamples.{day-of}
use Rattle.cli_rows.proofs.condition_laws.days_have_their_text.Goals as goal

pub returns : goal.returns
returns c n fits = day-of (date_text n) n fits refl
