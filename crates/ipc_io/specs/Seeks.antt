-- Readers that seek: the position and the bytes of one, and what a call reads of them.
use Rattle.std.specs.Prelude.{◌≡◌, ◌<◌, ◌≤◌, ◌+◌, ◌++◌, ℕ, List, length, take, drop, Option, None, Some, Result, Ok, Err}
use Rattle.std.specs.Option.{option_map}
use Rattle.std.specs.Io.KnownBytes.{Keeps}

-- the position of a reader and its bytes, where both are known
abbrev pub position_and_bytes : Option ℕ → Option (List ℕ) → Option (ℕ × List ℕ)
position_and_bytes None bytes = None
position_and_bytes (Some position) bytes = option_map (λ xs. (position, xs)) bytes

-- the bytes alone
abbrev pub known : Option ℕ → Option (List ℕ) → Option (List ℕ)
known position bytes = option_map (λ s. s.1) (position_and_bytes position bytes)

-- The n bytes that were read are those at the reader's position, which moves past them. None are read only at the end, or into an empty buffer. No byte of
-- the reader changes. A read that fails changes nothing.
abbrev pub ReadsThere : {E : Type 0} → Option (ℕ × List ℕ) → Option (ℕ × List ℕ) → Result ℕ E → List ℕ → Type 0
ReadsThere None new result piece = Unit {0}
ReadsThere (Some old) new (Ok n) piece = (new ≡ Some (old.0 + n, old.1)) × (take n piece ≡ take n (drop old.0 old.1)) × (n ≡ 0 → 0 < length piece → length old.1 ≤ old.0)
ReadsThere (Some old) new (Err e) piece = new ≡ Some old

-- a reader moved to a position
abbrev pub IsAt : Option (ℕ × List ℕ) → Option (ℕ × List ℕ) → ℕ → Type 0
IsAt None new position = Unit {0}
IsAt (Some old) new position = new ≡ Some (position, old.1)

-- the n bytes at a reader's position were appended to those before, and the position moved past them
abbrev pub IsReadTo : Option (ℕ × List ℕ) → Option (ℕ × List ℕ) → List ℕ → List ℕ → ℕ → Type 0
IsReadTo None new before after n = Unit {0}
IsReadTo (Some old) new before after n = (new ≡ Some (old.0 + n, old.1)) × (after ≡ before ++ take n (drop old.0 old.1))

-- these are the bytes at a position
abbrev pub IsPart : Option (List ℕ) → ℕ → ℕ → List ℕ → Type 0
IsPart None position want part = Unit {0}
IsPart (Some bytes) position want part = part ≡ take want (drop position bytes)

-- there are this many bytes
abbrev pub IsSize : Option (List ℕ) → ℕ → Type 0
IsSize None n = Unit {0}
IsSize (Some bytes) n = n ≡ length bytes

-- ---- the same of readers, of which a position and bytes may be known

module _ {R : Type 0} (position : R → Option ℕ) (bytes : R → Option (List ℕ)) where
  -- the bytes of a reader
  abbrev pub bytes_of : R → Option (List ℕ)
  bytes_of reader = known (position reader) (bytes reader)

  -- its position and its bytes
  abbrev pub view_of : R → Option (ℕ × List ℕ)
  view_of reader = position_and_bytes (position reader) (bytes reader)

  -- no byte of a reader changed
  abbrev pub KeepsBytes : R → R → Type 0
  KeepsBytes old new = Keeps (bytes_of old) (bytes_of new)

  -- a call read at the position of a reader
  abbrev pub ReadsHere : {E : Type 0} → R → R → Result ℕ E → List ℕ → Type 0
  ReadsHere old new result piece = ReadsThere (view_of old) (view_of new) result piece

  -- a reader moved to a position
  abbrev pub MovesTo : R → R → ℕ → Type 0
  MovesTo old new n = IsAt (view_of old) (view_of new) n

  -- the n bytes at the position of a reader were appended
  abbrev pub AppendsRead : R → R → List ℕ → List ℕ → ℕ → Type 0
  AppendsRead old new before after n = IsReadTo (view_of old) (view_of new) before after n

  -- a reader has these bytes at a position
  abbrev pub HasBytesAt : R → ℕ → ℕ → List ℕ → Type 0
  HasBytesAt reader n want part = IsPart (bytes_of reader) n want part

  -- a reader has this many bytes
  abbrev pub HasSize : R → ℕ → Type 0
  HasSize reader n = IsSize (bytes_of reader) n
