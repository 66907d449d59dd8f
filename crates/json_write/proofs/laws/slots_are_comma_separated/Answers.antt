use Rattle.nest_array.specs.WindowParts.{window_slots}
use Rattle.nest_model.specs.Layout.{layout_type}
use Rattle.json_write.specs.ListText.{list-joined}
use Rattle.json_write.proofs.laws.slots_are_comma_separated.Goals as goal

pub returns : goal.returns
returns c = list-joined (layout_type c.args.window.now.array) (window_slots c.args.window.now)
