use Rattle.std.proofs.Common.{◌≡◌, map, take}
use Rattle.nest_memory.specs.TypeOf.{field_of}
use Rattle.cli_rows.specs.NearNames.{spec_similar_names}
use Rattle.cli_rows.proofs.near_names.similar_names.Given as goal

abbrev pub invariant-loop-field : goal.invariant-loop-field
invariant-loop-field l = map (λ n. n.now) l.names.items ≡ spec_similar_names l.wanted (map field_of (take l.field-index l.fields))
