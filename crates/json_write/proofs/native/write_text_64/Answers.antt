use Rattle.json_write.proofs.NativeTexts.{no-64}
use Rattle.json_write.proofs.native.write_text_64.Goals as goal

pub returns-in_default : goal.returns-in_default
returns-in_default g c = absurd (no-64 c.args.format c.args.number c.requires.format c.requires.text c.in_default.not-MillisecondDate c.in_default.not-Time c.in_default.not-Timestamp c.in_default.not-Duration)
