-- Bytes that are read and not yet parsed.
use Rattle.std.specs.Prelude.{◌≡◌, ◌≢◌, ◌⊎◌, ◌++◌, ℕ, Bool, true, false, List, [], ◌∷◌, take, Option, SomeIndex, slice_index}
use Rattle.std.specs.Option.{option_map}
use Rattle.std.specs.Io.KnownBytes.{IsAtEnd}
use Rattle.cli_write.specs.declared.import.buffer.LineBuffer.{LineBuffer}

-- there is no byte, or the last one is a newline
abbrev pub EndsWithNewline : List ℕ → Type 0
EndsWithNewline [] = Unit {0}
EndsWithNewline (b ∷ []) = b ≡ 10
EndsWithNewline (b ∷ c ∷ bs) = EndsWithNewline (c ∷ bs)

-- a byte is a newline
abbrev pub HasNewline : List ℕ → Type 0
HasNewline text = SomeIndex text (λ i. slice_index text i ≡ 10)

-- a line is complete: it has a newline, or the input ends
abbrev pub HasLine : Bool → List ℕ → Type 0
HasLine over text = HasNewline text ⊎ ((over ≡ true) × (text ≢ []))

-- the first n bytes are complete lines; at the end of the input they are all
abbrev pub AreWholeLines : Bool → List ℕ → ℕ → Type 0
AreWholeLines true text n = take n text ≡ text
AreWholeLines false text n = EndsWithNewline (take n text)

module _ {R : Type 0} (remaining : R → Option (List ℕ)) where
  -- all bytes that are not parsed, if the bytes of the reader are known
  abbrev pub unread_bytes : LineBuffer R → Option (List ℕ)
  unread_bytes u = option_map (λ rest. u.text.items ++ rest) (remaining u.reader)

  -- if the reader was at its end, no byte remains
  abbrev pub KnowsEnd : LineBuffer R → Type 0
  KnowsEnd u = u.is_over ≡ true → IsAtEnd (remaining u.reader)
