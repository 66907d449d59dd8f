use Rattle.std.proofs.Common.{◌≡◌, ◌≤◌, length, take, map}
use Rattle.std.specs.Prelude.{vec_len, vec_capacity}
use Rattle.nest_memory.specs.TypeOf.{field_of}
use Rattle.nest_memory.proofs.datatypes.cloning.+cloning.Given as goal

abbrev pub invariant-copy_fields-loop-field : goal.invariant-copy_fields-loop-field
invariant-copy_fields-loop-field l =
    record {
      same : map field_of l.copied.items ≡ map field_of (take l.field-index l.field-items);
      count : vec_len l.copied ≡ l.field-index;
      room : length l.field-items ≤ vec_capacity l.copied;
    }
