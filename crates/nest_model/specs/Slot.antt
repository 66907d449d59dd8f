-- Slots: the values of an array without buffers, offsets, keys or windows. The definitions are this library's own.
use Rattle.std.specs.Prelude.{◌≡◌, ℕ, ℤ, ◌+◌, ◌≤◌, Bool, IsTrue, List, [], ◌∷◌}
use Rattle.nest_memory.specs.TypeTree.{TypeTree}

mutual
  pub data Slot : Type 0 where
    -- No value.
    null : Slot
    -- A value of a boolean array.
    boolean : Bool → Slot
    -- A native value of a primitive array as integers, the high one first.
    number : List ℤ → Slot
    -- The bytes of a UTF-8 string.
    utf8 : List ℕ → Slot
    -- A binary value.
    bytes : List ℕ → Slot
    -- The items of a row of a list, fixed-size list or map.
    list : Slots → Slot
    -- The slots of the fields of a row of a struct.
    record_of : Slots → Slot
    -- A row of a union: the index of the field, its data type and its slot.
    pick : ℕ → TypeTree → Slot → Slot

  pub data Slots : Type 0 where
    no_slots : Slots
    more_slots : Slot → Slots → Slots

-- A list of slots as part of a slot, and the inverse.
abbrev pub seal : List Slot → Slots
seal [] = no_slots
seal (s ∷ ss) = more_slots s (seal ss)

abbrev pub unseal : Slots → List Slot
unseal no_slots = []
unseal (more_slots s ss) = s ∷ unseal ss

-- The number of values in a slot, including itself. It bounds the number of comparisons.
abbrev mutual
  pub node_count : Slot → ℕ
  node_count null = 1
  node_count (boolean b) = 1
  node_count (number zs) = 1
  node_count (utf8 t) = 1
  node_count (bytes b) = 1
  node_count (list ss) = 1 + count_within ss
  node_count (record_of ss) = 1 + count_within ss
  node_count (pick f t s) = 1 + node_count s

  pub count_within : Slots → ℕ
  count_within no_slots = 0
  count_within (more_slots s ss) = node_count s + count_within ss

-- The number of values in a list of slots.
abbrev pub node_counts : List Slot → ℕ
node_counts [] = 0
node_counts (s ∷ ss) = node_count s + node_counts ss

-- The count of comparisons grows by at most n, and by exactly n if the answer is true.
pub record CountsComparisons (answer : Bool) (old new n : ℕ) : Type 0 where
  pub most : new ≤ old + n
  pub all : IsTrue answer → new ≡ old + n
