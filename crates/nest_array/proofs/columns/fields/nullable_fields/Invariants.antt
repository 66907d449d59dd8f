use Rattle.std.specs.Prelude.{map, vec_capacity}
use Rattle.std.proofs.Common.{◌≡◌, ℕ, ◌<◌, ◌≤◌, [], true, length, get_or}
use Rattle.nest_memory.specs.TypeOf.{field_of}
use Rattle.nest_memory.specs.TypeTree.{Letters, field}
use Rattle.nest_memory.specs.declared.datatypes.field.Field.{Field}
use Rattle.nest_model.specs.Layout.{layout_type}
use Rattle.nest_array.specs.declared.any.AnyArray.{AnyArray}
use Rattle.nest_array.specs.Seen.{layout_of}
use Rattle.nest_array.proofs.columns.fields.nullable_fields.Given as goal

abbrev pub invariant-loop-i : goal.invariant-loop-i
invariant-loop-i l =
    record {
      same_length : length l.fields.items ≡ l.i;
      room : length l.names ≤ vec_capacity l.fields;
      done : (k : ℕ) (f : Field) (n : Letters) (c : AnyArray) → k < l.i
          → field_of (get_or l.fields.items k f) ≡ field (get_or (map (λ n. n.now) l.names) k n) (layout_type (layout_of (get_or l.columns k c))) true [];
    }
