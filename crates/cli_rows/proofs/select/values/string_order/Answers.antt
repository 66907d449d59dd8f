use Rattle.nest_memory.specs.Physical.{physical_type}
use Rattle.nest_model.specs.Layout.{layout_type}
use Rattle.nest_array.specs.Seen.{layout_of}
use Rattle.cli_rows.proofs.Values.{strings-utf8}
use Rattle.cli_rows.proofs.select.values.string_order.Goals as goal

pub unreachable-requires : goal.unreachable-requires
unreachable-requires c = strings-utf8 (physical_type (layout_type (layout_of c.args.array.now))) c.requires.kind c.in_default.ensures c.in-None.ensures
