-- Errors of null arrays: of a struct, of a union, and of one physical type.
use Rattle.std.specs.Prelude.{Option, Some, None, nat_eq, MatchOption}
use Rattle.std.proofs.Common.{◌≡◌, ℕ, ℤ, Bool, false, List, length, ap, sym, ◌∙◌, subst, inl, inr}
use Rattle.nest_memory.specs.Physical.{physical_type}
use Rattle.nest_memory.specs.TypeOf.{field_list_of, count_fields-field_list_of}
use Rattle.nest_memory.specs.TypeTree.{TypeTree, count_fields}
use Rattle.nest_memory.specs.declared.datatypes.UnionMode.{UnionMode}
use Rattle.nest_memory.specs.declared.datatypes.field.Field.{Field}
use Rattle.nest_memory.specs.declared.datatypes.physical_type.PhysicalType.{PhysicalType}
use Rattle.nest_memory.specs.declared.error.Error.{Error}
use Rattle.nest_model.specs.Checks.{refuse_if, first_of}
use Rattle.nest_model.specs.MadeNulls.{AcceptsKind, RefusesKind}
use Rattle.nest_model.specs.Nulls.{union_error}
use Rattle.nest_model.specs.NullKinds.{union-own}

pub passed : (b : Bool) (e : Error) (rest r : Option Error) → b ≡ false → r ≡ rest → r ≡ refuse_if b e rest
passed b e rest r h q = q ∙ sym (ap (λ x. refuse_if x e rest) h)

pub some-fields : (fs : List Field) (n : ℕ) → n ≡ length fs → nat_eq n 0 ≡ false → nat_eq (count_fields (field_list_of fs)) 0 ≡ false
some-fields fs n e h = ap (λ k. nat_eq k 0) (count_fields-field_list_of fs ∙ sym e) ∙ h

pub union-comparisons : (fs : List Field) (count : ℕ) (ids : Option (List ℤ)) (mode : UnionMode) (n : ℕ) (own rest : Option Error) → count ≡ length fs → own ≡ union_error count ids mode n None
    → first_of own rest ≡ union_error (count_fields (field_list_of fs)) ids mode n rest
union-comparisons fs count ids mode n own rest e h =
    ap (λ o. first_of o rest) h ∙ sym (union-own count ids mode n rest) ∙ ap (λ k. union_error k ids mode n rest) (e ∙ sym (count_fields-field_list_of fs))

pub kind-first_error : (p : PhysicalType) (t : TypeTree) (first_error r : Option Error) → physical_type t ≡ p → r ≡ first_error → MatchOption r (AcceptsKind p t first_error) (λ e. RefusesKind e p t first_error)
kind-first_error p t first_error None k h = (k, sym h)
kind-first_error p t first_error (Some e) k h = inr (k, inl (sym h))

pub at-none : {A : Type 0} (r : Option A) (P : Type 0) (Q : A → Type 0) → r ≡ None → MatchOption r P Q → P
at-none None P Q e h = h
at-none (Some a) P Q e h = cc

pub at-some : {A : Type 0} (r : Option A) (x : A) (P : Type 0) (Q : A → Type 0) → r ≡ Some x → MatchOption r P Q → Q x
at-some None x P Q e h = cc
at-some (Some a) x P Q e h = let q : a ≡ x = cc in subst Q q h
