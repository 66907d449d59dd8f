-- The invariant of the values of a dictionary builder.
use Rattle.std.specs.Prelude.{◌≡◌, ◌≢◌, ◌≤◌, ◌<◌, ℕ, List, length, get_or, Option}
use Rattle.nest_model.specs.Slot as slots
use Rattle.nest_model.specs.BuilderItem.{PlainValue, IsValueAt}
use Rattle.nest_model.specs.BuilderLevels.{own_slots}
use Rattle.nest_model.specs.BuilderTree.{BuilderTree, builder_len}
use Rattle.nest_model.specs.BuilderComplete.{AreDifferent}
use Rattle.nest_build.specs.Hashes.{value_hash}
use Rattle.nest_build.specs.Shown.{own_slot}

-- the hash of the value at each index
abbrev pub AreHashed : List ℕ → BuilderTree → Type 0
AreHashed hashes c = (v : PlainValue) (k : ℕ) → IsValueAt c v k → get_or hashes k 0 ≡ value_hash v

-- no value is null
abbrev pub AreFull : BuilderTree → Type 0
AreFull c = (k : ℕ) → k < builder_len c → own_slot c k ≢ slots.null

-- one hash per value; the values are pairwise different and not null
abbrev pub AreKeyed : List ℕ → BuilderTree → Type 0
AreKeyed hashes c = (length hashes ≡ builder_len c) × AreHashed hashes c × AreDifferent (own_slots c) × AreFull c
