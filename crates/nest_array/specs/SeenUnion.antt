-- The layout of a union array.
use Rattle.nest_memory.specs.TypeOf.{type_of}
use Rattle.nest_model.specs.Layout as layouts
use Rattle.nest_model.specs.Layout.{Layout}
use Rattle.nest_array.specs.declared.union.UnionArray.TheInside.{Inside}
use Rattle.nest_array.specs.Seen.{layouts_of}

abbrev pub union_seen : Inside → Layout
union_seen a = layouts.union (type_of a.data_type) a.types (layouts_of a.fields.items) a.offsets a.start
