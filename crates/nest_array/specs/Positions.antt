-- The table of a union, from type ids to fields, and the checks that read it (this library's own).
use Rattle.std.specs.Prelude.{◌≡◌, ℕ, ◌≤◌, ◌<◌, ℤ, pos, negsuc, List, Option, Some, None, length, get_or}
use Rattle.nest_memory.specs.declared.error.Error.TheVariants.{OutOfSpec}
use Rattle.nest_memory.specs.declared.error.SpecError.TheVariants as spec
use Rattle.nest_model.specs.Checks.{Checks, done, check, type_count}
use Rattle.nest_model.specs.Fits.{EachCovers, EachMeansField, IdsCount, IdsInRange, Names, SlotsThere, child_len}
use Rattle.nest_model.specs.Layout.{Layouts, count_layouts}
use Rattle.nest_model.specs.Part.{field_named}

-- the index of a field; 127, which is the index of no field, for None
abbrev pub position : Option ℕ → ℕ
position None = 127
position (Some f) = f

-- the entry of each type id from 0 to 127 is the index of the field that it selects
abbrev pub IsTable : List ℕ → Option (List ℤ) → Type 0
IsTable table ids = (length table ≡ type_count) × ((k : ℕ) → k < type_count → get_or table k 127 ≡ position (field_named ids (pos k)))

-- each type id that selects a field is the index of that field
abbrev pub ArePositions : Option (List ℤ) → Type 0
ArePositions ids = (z : ℤ) (f : ℕ) → field_named ids z ≡ Some f → z ≡ pos f

-- the entry of a type id, None if it is negative
abbrev pub meant : List ℕ → ℤ → Option ℕ
meant table (pos k) = Some (get_or table k 127)
meant table (negsuc k) = None

-- by the table, the offset of each slot is within its field
abbrev pub EachNamed : List ℕ → List ℤ → Layouts → List ℤ → Type 0
EachNamed table ks cs os = (i : ℕ) → i < length ks → Names (get_or os i (pos 0)) (child_len cs (meant table (get_or ks i (pos 0))))

-- by the table, the slots that a union selects exist
abbrev pub SlotsMeant : List ℕ → List ℤ → Layouts → Option (List ℤ) → Type 0
SlotsMeant table ks cs None = EachCovers cs (length ks)
SlotsMeant table ks cs (Some os) = EachNamed table ks cs os

-- a dense union has at least n offsets
abbrev pub OffsetsReach : Option (List ℤ) → ℕ → Type 0
OffsetsReach None n = Unit {0}
OffsetsReach (Some os) n = n ≤ length os

-- the last checks of a new union: of its ids, of its type ids, of the slots that they select
abbrev pub id_checks : Option (List ℤ) → List ℤ → Layouts → Option (List ℤ) → Checks
id_checks ids ks cs os =
    check (OutOfSpec spec.IdCount) (IdsCount ids (count_layouts cs))
    (check (OutOfSpec spec.IdRange) (IdsInRange ids)
    (check (OutOfSpec spec.UnionType) (EachMeansField ids ks (count_layouts cs))
    (check (OutOfSpec spec.UnionSlot) (SlotsThere ids ks cs os 0) done)))
