-- The slots that an iterator over an array has left, and the items it returns.
use Rattle.std.specs.Prelude.{◌≡◌, ℕ, ◌+◌, ◌-◌, ◌<◌, true, false, Option, Result, MatchOption, MatchResult, alloc_error, refl}
use Rattle.std.specs.Coded.{Coded, code_by, coded×, coded_ℕ}
use Rattle.nest_memory.specs.declared.error.Error.{Error}
use Rattle.nest_memory.specs.declared.error.Error.TheVariants.{Memory}
use Rattle.nest_model.specs.Layout.{Layout}
use Rattle.nest_model.specs.LayoutCode.{coded_layout}
use Rattle.nest_model.specs.Meaning.{len}
use Rattle.nest_model.specs.Nullness.{is_null_at}

-- the slots of an array that are left: `count` slots from `front` on
pub record ElementsLeft : Type 0 where
  pub array : Layout
  pub front : ℕ
  pub count : ℕ

abbrev pub coded_elements : Coded ElementsLeft
coded_elements =
    code_by (Layout × (ℕ × ℕ)) (coded× coded_layout (coded× coded_ℕ coded_ℕ)) (λ w. (w.array, (w.front, w.count)))
    (λ p. record { array = p.0; front = p.1.0; count = p.1.1 }) (λ _. refl)

abbrev pub elements : Layout → ℕ → ℕ → ElementsLeft
elements a o n = record { array = a; front = o; count = n }

-- all slots of an array
abbrev pub all_elements : Layout → ElementsLeft
all_elements a = elements a 0 (len a)

module _ {X : Type 0} (IsItem : Layout → ℕ → X → Type 0) where
  -- the item of the first slot is returned, and the slots after it are left; None where no slot was left
  abbrev pub ReturnsFirst : ElementsLeft → Option X → ElementsLeft → Type 0
  ReturnsFirst s r t = MatchOption r ((s.count ≡ 0) × (t ≡ s))
      (λ x. (0 < s.count) × IsItem s.array s.front x × (t ≡ elements s.array (s.front + 1) (s.count - 1)))

  -- the item of the last slot is returned, and the slots before it are left; None where no slot was left
  abbrev pub ReturnsLast : ElementsLeft → Option X → ElementsLeft → Type 0
  ReturnsLast s r t = MatchOption r ((s.count ≡ 0) × (t ≡ s))
      (λ x. (0 < s.count) × IsItem s.array (s.front + (s.count - 1)) x × (t ≡ elements s.array s.front (s.count - 1)))

  -- the item, or the error of a failed allocation
  abbrev pub IsItemOrMemory : Layout → ℕ → Result X Error → Type 0
  IsItemOrMemory a i r = MatchResult r (IsItem a i) (λ e. e ≡ Memory alloc_error)

  -- None exactly where the slot is null, else the item
  abbrev pub IsItemOrNull : Layout → ℕ → Option X → Type 0
  IsItemOrNull a i r = MatchOption r (is_null_at a i ≡ true) (λ x. (is_null_at a i ≡ false) × IsItem a i x)
