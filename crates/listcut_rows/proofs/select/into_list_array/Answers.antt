use Rattle.std.proofs.Common.{ap}
use Rattle.nest_memory.specs.Physical.{physical_type}
use Rattle.listcut_rows.proofs.select.into_list_array.Goals as goal

pub unreachable-requires : goal.unreachable-requires
unreachable-requires c = c.in-Err.ensures.0 (ap physical_type c.requires)
