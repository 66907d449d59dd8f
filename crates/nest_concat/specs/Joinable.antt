-- Windows that can be concatenated at every level.
use Rattle.std.specs.Prelude.{◌≡◌, ◌<◌, List, length}
use Rattle.std.specs.List.{All}
use Rattle.nest_model.specs.Array.{IsArray}
use Rattle.nest_model.specs.Layout.{Layout, layout_type}
use Rattle.nest_array.specs.WindowParts.{WindowParts}
use Rattle.nest_concat.specs.Joined.{AreWithin, first_array}

-- a is the array of the first window; each window is within an array, valid at every level, of the type of a
-- but for outer extension types
pub record MayJoin (a : Layout) (ws : List WindowParts) : Type 0 where
  pub first : a ≡ first_array ws
  pub some : 0 < length ws
  pub arrays : All (λ w. IsArray w.array) ws
  pub within : AreWithin (layout_type a) ws
