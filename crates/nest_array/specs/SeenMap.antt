-- The layout of a map array.
use Rattle.nest_memory.specs.TypeOf.{type_of}
use Rattle.nest_model.specs.Layout as layouts
use Rattle.nest_model.specs.Layout.{Layout}
use Rattle.nest_array.specs.declared.map.MapArray.TheInside.{Inside}
use Rattle.nest_array.specs.Seen.{layout_of}

abbrev pub map_seen : Inside → Layout
map_seen a = layouts.map (type_of a.data_type) a.ranges.offsets (layout_of a.field.value) a.ranges.validity
