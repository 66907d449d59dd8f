-- The checks of a union, one after another.
use Rattle.std.specs.Int.Signed.{le_z}
use Rattle.std.specs.Prelude.{◌⊎◌, ◌↔◌, IsTrue, nat_eq, nat_lt, Option, Some, None, List, MatchOption}
use Rattle.std.proofs.Common.{◌≡◌, ℕ, ◌<◌, ◌≤◌, ℤ, pos, negsuc, Bool, true, false, length, refl, sym, ◌∙◌, subst, inl, inr, arith, rules}
use Rattle.std.proofs.lemmas.Bool.Decides.{nat_tests}
use lib.IntN.{nat_abs}
use Rattle.nest_memory.specs.declared.error.Error.{Error}
use Rattle.nest_memory.specs.TypeTree.{TypeTree, count_fields, fields_of, ids_of, is_dense}
use Rattle.nest_memory.specs.Physical.{physical_type}
use Rattle.nest_memory.specs.declared.datatypes.physical_type.PhysicalType.TheVariants as physical
use Rattle.nest_model.specs.Checks.{error_number, FailsOr, FailFirst, Pass}
use Rattle.nest_model.specs.Fits.{EachType, Fits, FirstError, Names, OffsetsByMode, OffsetsCount}
use Rattle.nest_model.specs.Layout.{Layouts, union, count_layouts}
use Rattle.nest_array.specs.Positions.{id_checks}

-- a check fails if its test does
pub refute : (r : Bool) (P : Type 0) → r ≡ false → (P → IsTrue r) → P → ⊥
refute r P e f p = let u : false ≡ true = sym e ∙ f p in cc

first-or : (b : Bool) (m n : ℕ) (p r : Type 0) → nat_eq m n ≡ b → FailsOr b p r → (m ≡ n) ⊎ r
first-or true m n p r e f = inl (grind arith)
first-or false m n p r e f = inr f.1

-- the last checks have errors of numbers from 12 on
pub id-number : (ids : Option (List ℤ)) (ks : List ℤ) (cs : Layouts) (os : Option (List ℤ)) (e : Error) → FailFirst e (id_checks ids ks cs os) → 12 ≤ error_number e
id-number ids ks cs os e f =
    elim (first-or _ (error_number e) 12 _ _ refl f) [
      | inl a ↦ omega arith
      | inr g ↦ elim (first-or _ (error_number e) 13 _ _ refl g) [
        | inl a ↦ omega arith
        | inr h ↦ elim (first-or _ (error_number e) 14 _ _ refl h) [
          | inl a ↦ omega arith
          | inr i ↦ elim (first-or _ (error_number e) 15 _ _ refl i) [ inl a ↦ omega arith | inr j ↦ absurd j ]
        ]
      ]
    ]

later : (m n : ℕ) (p r : Type 0) → n < m → p → r → FailsOr (nat_eq m n) p r
later m n p r h x y = let e : nat_eq m n ≡ false = grind arith in subst (λ b. FailsOr b p r) (sym e) (x, y)

-- the checks before these
pub record First (t : TypeTree) (ks : List ℤ) (cs : Layouts) (os : Option (List ℤ)) : Type 0 where
  pub typed : physical_type t ≡ physical.Union
  pub as_many : count_layouts cs ≡ count_fields (fields_of t)
  pub few : count_layouts cs ≤ 127
  pub types : EachType (fields_of t) cs
  pub offsets : OffsetsCount os (length ks)
  pub mode : OffsetsByMode os (is_dense t)

pub both-fit : (t : TypeTree) (ks : List ℤ) (cs : Layouts) (os : Option (List ℤ)) → First t ks cs os → Pass (id_checks (ids_of t) ks cs os) → Fits (union t ks cs os 0)
both-fit t ks cs os h p = (h.typed, (h.as_many, (h.few, (h.types, (h.offsets, (h.mode, p))))))

pub last-first_error : (t : TypeTree) (ks : List ℤ) (cs : Layouts) (os : Option (List ℤ)) (e : Error) → First t ks cs os → FailFirst e (id_checks (ids_of t) ks cs os) → FirstError e (union t ks cs os 0)
last-first_error t ks cs os e h f =
    let n = id-number (ids_of t) ks cs os e f in
    later (error_number e) 0 _ _ (omega arith) h.typed
    (later (error_number e) 7 _ _ (omega arith) h.as_many
    (later (error_number e) 9 _ _ (omega arith) h.few
    (later (error_number e) 2 _ _ (omega arith) h.types
    (later (error_number e) 10 _ _ (omega arith) h.offsets
    (later (error_number e) 11 _ _ (omega arith) h.mode f)))))

pub matched : {A : Type 0} (r : Option A) (F P : Type 0) (G Q : A → Type 0) → (F → P) → ((a : A) → G a → Q a) → MatchOption r F G → MatchOption r P Q
matched {A} None F P G Q f g h = f h
matched {A} (Some a) F P G Q f g h = g a h

-- an offset that is not negative is an index of n slots
pub names-nat : (z : ℤ) (m n : ℕ) → le_z (pos 0) z ≡ true → m ≡ n → IsTrue (nat_lt (nat_abs z) m) ↔ Names z n
names-nat (pos k) m n h e = (λ t. let u : k < m = search (rules, nat_tests) in omega arith, λ t. let u : k < m = omega arith in search (rules, nat_tests))
names-nat (negsuc k) m n h e = absurd (let u : false ≡ true = h in cc)

pub names-none : (z : ℤ) (n : ℕ) → n ≡ 0 → Names z n → ⊥
names-none (pos k) n e h = omega arith
names-none (negsuc k) n e h = h
