use Rattle.json_write.proofs.NativeTexts.{no-other}
use Rattle.json_write.proofs.native.write_text.Goals as goal

pub returns-in_default : goal.returns-in_default
returns-in_default g c =
    absurd (no-other c.args.format c.args.value c.requires.format c.requires.text c.in_default.not-Int32 c.in_default.not-Int64 c.in_default.not-Int128 c.in_default.not-Int256 c.in_default.not-DaysMs c.in_default.not-MonthDayNano)
