use Rattle.std.proofs.Common.{◌≡◌, take, map}
use Rattle.nest_memory.specs.TypeOf.{field_of}
use Rattle.nest_memory.proofs.datatypes.equality.+equality.Given as goal

abbrev pub invariant-same_fields-loop-i : goal.invariant-same_fields-loop-i
invariant-same_fields-loop-i l = map field_of (take l.i l.a.items) ≡ map field_of (take l.i l.b.items)
