use Rattle.json_write.proofs.Typed.{window-typed}
use Rattle.json_write.proofs.laws.slots_have_the_data_type.Goals as goal

pub returns : goal.returns
returns c h = window-typed c.args.window.now h
