use Rattle.json_write.proofs.NativeTexts.{always-text}
use Rattle.json_write.proofs.native.is_string.Goals as goal

pub returns-in_default : goal.returns-in_default
returns-in_default c = always-text c.args.format c.args.value c.requires c.in_default.not-Number c.in_default.not-Float c.in_default.not-Time c.in_default.not-Decimal256
