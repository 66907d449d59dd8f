-- The parts of an array: validity bits, offsets, type ids of unions and keys.
use Rattle.std.specs.Prelude.{ℕ, suc, ◌+◌, ◌-◌, ℤ, pos, negsuc, Bool, true, List, [], ◌∷◌, length, get_or, Option, Some, None, if◌then◌else◌}
use Rattle.std.specs.Ordering.{int_eq}
use Rattle.nest_memory.specs.Sublist.{sublist}

-- Validity bitmaps: one bit for each slot, set if the slot is valid. Without a bitmap every slot is valid.
abbrev pub Validity : Type 0
Validity = Option (List Bool)

abbrev pub valid_at : Validity → ℕ → Bool
valid_at None i = true
valid_at (Some bits) i = get_or bits i true

abbrev pub sliced_validity : Validity → ℕ → ℕ → Validity
sliced_validity None o n = None
sliced_validity (Some bits) o n = Some (sublist bits o n)

-- Variable-size List Layout: the index of the first item of slot i, and the number of its items, up to the next offset.
abbrev pub begin : List ℕ → ℕ → ℕ
begin os i = get_or os i 0

abbrev pub extent : List ℕ → ℕ → ℕ
extent os i = get_or os (i + 1) 0 - get_or os i 0

-- Variable-size List Layout: the number of slots, one less than the number of offsets.
abbrev pub count_rows : List ℕ → ℕ
count_rows os = length os - 1

-- The index that an offset or a key represents.
abbrev pub to_index : ℤ → ℕ
to_index (pos n) = n
to_index (negsuc n) = 0

-- The last index of an integer in a list.
abbrev pub last_position : List ℤ → ℤ → Option ℕ
last_position [] z = None
last_position (x ∷ xs) z = elim (last_position xs z) as (λ _. Option ℕ) [ Some k ↦ Some (suc k) | None ↦ if int_eq x z then Some 0 else None ]

-- Union Layout: the field that a type id names. Without ids it is the field at this index.
-- With ids it is the field with this id, or the later one if two fields have the same id.
abbrev pub field_named : Option (List ℤ) → ℤ → Option ℕ
field_named None (pos n) = Some n
field_named None (negsuc n) = None
field_named (Some ids) z = last_position ids z
