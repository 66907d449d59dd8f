use Rattle.std.proofs.Common.{◌≡◌, ◌++◌, length, map}
use Rattle.std.specs.Vec.Iter.{into_iter_items, into_iter_len}
use Rattle.nest_memory.specs.TypeOf.{field_of}
use Rattle.nest_array.specs.Seen.{layout_of}
use Rattle.ipc.specs.declared.batch.Batch.{Batch}
use Rattle.cli_rows.specs.Records.{column_layouts, record_type, records}
use Rattle.cli_rows.proofs.records.arrays_of_fields.Given as goal

abbrev pub invariant-loop-batch : goal.invariant-loop-batch
invariant-loop-batch l =
    (l.yielded ++ into_iter_items l.batch-iterator ≡ into_iter_items l.initial.batch-iterator)
    × (map layout_of l.arrays.items ≡ map (records (record_type (map field_of l.fields))) (map (λ (b : Batch). column_layouts b.columns.items) l.yielded))
    × (into_iter_len l.batch-iterator ≡ length (into_iter_items l.batch-iterator))
