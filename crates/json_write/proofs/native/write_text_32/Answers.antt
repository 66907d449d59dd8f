use Rattle.json_write.proofs.NativeTexts.{no-32}
use Rattle.json_write.proofs.native.write_text_32.Goals as goal

pub returns-in_default : goal.returns-in_default
returns-in_default g c = absurd (no-32 c.args.format c.args.number c.requires.format c.requires.text c.in_default.not-Date c.in_default.not-Time c.in_default.not-Months)
