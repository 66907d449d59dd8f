-- Lines of text.
use Rattle.std.specs.Prelude.{◌≡◌, ◌≤◌, ◌<◌, ℕ, List, [], ◌∷◌, ◌++◌, ◌==◌, drop, if◌then◌else◌, length, take}
use Rattle.std.specs.List.{onto_first}

-- a line feed ends each line; the last line may lack it
abbrev pub lines_of : List ℕ → List (List ℕ)
lines_of [] = []
lines_of (b ∷ bs) = if b == 10 then [] ∷ lines_of bs else onto_first b (lines_of bs)

-- the bytes that follow begin a line
abbrev pub EndsLines : List ℕ → Type 0
EndsLines text = (more : List ℕ) → lines_of (text ++ more) ≡ lines_of text ++ lines_of more

-- the first `used` bytes of a text are its first `count` lines, all lines or `limit` of them
pub record AreFirstLines (text : List ℕ) (limit used count : ℕ) : Type 0 where
  pub within : used ≤ length text
  pub rest : lines_of text ≡ lines_of (take used text) ++ lines_of (drop used text)
  pub counted : length (lines_of (take used text)) ≡ count
  pub few : count ≤ limit
  pub complete : count < limit → used ≡ length text
