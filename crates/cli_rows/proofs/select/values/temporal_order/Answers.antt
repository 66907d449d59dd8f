use Rattle.nest_memory.specs.Physical.{physical_type}
use Rattle.nest_model.specs.Layout.{layout_type}
use Rattle.nest_array.specs.Seen.{layout_of}
use Rattle.cli_rows.proofs.Values.{times-primitive}
use Rattle.cli_rows.proofs.select.values.temporal_order.Goals as goal

pub unreachable-requires : goal.unreachable-requires
unreachable-requires c = c.in-None.ensures (times-primitive c.args.kind (physical_type (layout_type (layout_of c.args.array.now))) c.requires.kind)
