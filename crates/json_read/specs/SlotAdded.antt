-- Rows that were added to a builder.
use Rattle.std.specs.Prelude.{◌≡◌, List, [], ◌∷◌, ◌++◌, Option, Some}
use Rattle.json.specs.Json as json
use Rattle.json.specs.Json.{Json}
use Rattle.json_read.specs.declared.value_error.ValueError.{ValueError}
use Rattle.json_read.specs.declared.value_error.PushError.{PushError}
use Rattle.json_read.specs.declared.value_error.PushError.TheVariants as push_error
use Rattle.nest_model.specs.BuilderLevels.{own_slots}
use Rattle.nest_model.specs.BuilderTree.{BuilderTree, builder_type}
use Rattle.nest_model.specs.BuilderComplete.{IsComplete}
use Rattle.nest_model.specs.Slot.{Slot}

-- one slot was added, and the builder is complete
pub record SlotAdded (s : Slot) (old new : BuilderTree) : Type 0 where
  pub last : own_slots new ≡ own_slots old ++ s ∷ []
  pub complete : IsComplete new
  pub same_type : builder_type new ≡ builder_type old

-- the first error of the value, or a limit or a failed allocation
abbrev pub IsPushError : PushError → Option ValueError → Type 0
IsPushError (push_error.Value e) error = error ≡ Some e
IsPushError push_error.Overflow error = Unit {0}
IsPushError push_error.Memory error = Unit {0}

-- slots were added, in order, and the builder is complete
pub record SlotsAdded (ss : List Slot) (old new : BuilderTree) : Type 0 where
  pub last : own_slots new ≡ own_slots old ++ ss
  pub complete : IsComplete new
  pub same_type : builder_type new ≡ builder_type old

-- a JSON array
abbrev pub IsList : Json → Type 0
IsList (json.array js) = Unit {0}
IsList json.null = ⊥
IsList (json.boolean b) = ⊥
IsList (json.number s) = ⊥
IsList (json.string s) = ⊥
IsList (json.object ms) = ⊥
