-- Native values as lists of integers, high half or longest unit first.
use Rattle.std.specs.Prelude.{◌≡◌, ◌==◌, ◌&&◌, ℕ, ℤ, pos, List, [], ◌∷◌, Bool, true, length, refl}
use Rattle.std.specs.Bool.{Decides}
use Rattle.std.specs.Ordering.{int_eq}
use Rattle.std.proofs.Common.{ap}
use Rattle.std.proofs.lemmas.Bool.Decides.{Decides-eqb, Decides-int_eq, Decides-like, Decides-and}
use Rattle.nest_memory.specs.declared.datatypes.physical_type.PrimitiveType.{PrimitiveType}
use Rattle.nest_memory.specs.declared.datatypes.physical_type.PrimitiveType.TheVariants.{Int256, DaysMs, MonthDayNano}

-- The number of integers in a value of a primitive type; this library's own.
-- Two are the halves of 256 bits, or days and milliseconds; three are months, days and nanoseconds.
abbrev pub parts_of : PrimitiveType → ℕ
parts_of Int256 = 2
parts_of DaysMs = 2
parts_of MonthDayNano = 3
parts_of _ = 1

-- "Fixed-size Primitive Layout": an integer is one number.
abbrev pub signed : ℤ → List ℤ
signed n = n ∷ []

abbrev pub unsigned : ℕ → List ℤ
unsigned n = pos n ∷ []

-- Values with equal integers are equal.
pub signed-one : (a b : ℤ) → signed a ≡ signed b → a ≡ b
signed-one a b h = cc

pub unsigned-one : (a b : ℕ) → unsigned a ≡ unsigned b → a ≡ b
unsigned-one a b h = cc

-- `==` decides whether the integers are equal.
pub signed-decides : (a b : ℤ) → Decides (int_eq a b) (signed a ≡ signed b)
signed-decides a b = Decides-like (int_eq a b) (ap signed) (signed-one a b) (Decides-int_eq a b)

pub unsigned-decides : (a b : ℕ) → Decides (a == b) (unsigned a ≡ unsigned b)
unsigned-decides a b = Decides-like (a == b) (ap unsigned) (unsigned-one a b) (Decides-eqb a b)
