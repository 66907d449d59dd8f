-- The strings of neighbouring slots as parts of one string.
use Rattle.std.specs.Prelude.{◌≡◌, ℕ, ◌+◌, ◌-◌, ◌<◌, ◌≤◌, List, length, get_or}
use Rattle.std.specs.Str.{IsCharBoundary}
use Rattle.nest_memory.specs.Sublist.{sublist}
use Rattle.nest_model.specs.Accessors.{bytes_of, offsets_of}
use Rattle.nest_model.specs.Fits.{covered}
use Rattle.nest_model.specs.Layout.{Layout}
use Rattle.nest_model.specs.Meaning.{len}
use Rattle.nest_model.specs.Part.{begin}

-- every offset, relative to the first, is at a character boundary of the string
abbrev pub AreEdges : List ℕ → List ℕ → Type 0
AreEdges os text = (i : ℕ) → i < length os → IsCharBoundary text (get_or os i 0 - begin os 0)

-- the bytes of slots first..end
abbrev pub bytes_between : List ℕ → List ℕ → ℕ → ℕ → List ℕ
bytes_between os bs first end = covered (sublist os first (end - first + 1)) bs

-- the string of slots first..end of an array
abbrev pub IsTextOf : Layout → ℕ → ℕ → List ℕ → Type 0
IsTextOf a first end text = (end ≤ len a) × (text ≡ bytes_between (offsets_of a) (bytes_of a) first end)
