use Rattle.std.proofs.Common.{◌≡◌}
use Rattle.ipc_schema.specs.Dictionaries.{progress}
use Rattle.ipc_schema.specs.DictionaryModels.{seen_of}
use Rattle.ipc_schema.specs.Projections.{projection_of}
use Rattle.ipc_schema.specs.ProjectedSchemas.{spec_projected_fields_at, fields_model_of}
use Rattle.ipc_schema.proofs.Chosen.{with_parts, picked_left}
use Rattle.ipc_schema.proofs.projected.projected_fields_at.Given as goal

abbrev pub invariant-loop-i : goal.invariant-loop-i
invariant-loop-i l =
    with_parts (fields_model_of l.parts) (picked_left (projection_of l.column_set.columns) l.bytes l.items.count l.items.first l.i (progress l.rest (seen_of l.seen))) ≡ spec_projected_fields_at (projection_of l.column_set.columns) l.bytes 0 l.items.count l.items.first (progress l.left (seen_of l.initial.seen))
