use Rattle.std.specs.Prelude.{◌≢◌, ◌≤◌, ◌<◌, MatchOption, Option, Some, None}
use Rattle.std.proofs.Common.{◌≡◌, ℕ, List, length, arith}
use Rattle.json_read.proofs.Named.{none-there}
use Rattle.json_read.proofs.fields.field_at.Goals as goal
use Rattle.json_read.specs.StructMembers.{field_name_at_index}
use Rattle.nest_memory.specs.TypeOf.{field_list_of}
use Rattle.nest_memory.specs.TypeTree.{Letters}
use Rattle.nest_memory.specs.declared.datatypes.field.Field.{Field}
use Rattle.json_write.specs.TypedSlots.{LacksField}

from-none : (r : Option ℕ) (n : Letters) (fields : List Field) → MatchOption r ((i : ℕ) → 0 ≤ i → i < length fields → field_name_at_index (field_list_of fields) i ≢ Some n) (λ i. (i < length fields) × (field_name_at_index (field_list_of fields) i ≡ Some n))
    → MatchOption r (LacksField n (field_list_of fields)) (λ i. (i < length fields) × (field_name_at_index (field_list_of fields) i ≡ Some n))
from-none None n fields h = none-there n fields (λ i l. h i (omega arith) l)
from-none (Some i) n fields h = h

pub returns : goal.returns
returns c = from-none c.named_from-2.result c.args.name.now c.args.fields.now c.named_from-2.ensures
