use Rattle.nest_memory.specs.declared.datatypes.floats.Precision.TheVariants.{Single}
use Rattle.nest_memory.specs.Physical.{physical_type}
use Rattle.nest_model.specs.Layout.{layout_type}
use Rattle.nest_array.specs.Seen.{layout_of}
use Rattle.cli_rows.proofs.Values.{floats-bits}
use Rattle.cli_rows.proofs.select.floats.single_order.Goals as goal

pub unreachable-requires : goal.unreachable-requires
unreachable-requires c = c.in-None.ensures (floats-bits Single (physical_type (layout_type (layout_of c.args.array.now))) c.requires.kind)
