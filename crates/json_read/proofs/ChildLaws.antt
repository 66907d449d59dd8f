-- The builders of a struct's fields, one after another.
use Rattle.std.proofs.Common.{◌≡◌, ◌∙◌, ℕ, zero, suc, ◌+◌, ◌<◌, List, [], ◌∷◌, ◌++◌, length, take, get_or, Result, Ok, Err, IfOk, IsOkAnd, None, ap, sym, subst, arith}
use Rattle.nest_any.specs.Trees.{tree_of, trees_of}
use Rattle.nest_any.specs.declared.any.AnyMutableArray.{AnyMutableArray}
use Rattle.json_read.proofs.EmptyLaws.{first-then}
use Rattle.json_read.specs.EmptyBuilders.{AreEmptyOf, IsEmptyOf}
use Rattle.json_read.specs.UnsupportedTypes.{unsupported_field, unsupported_fields, unsupported_type}
use Rattle.nest_memory.specs.TypeOf.{field_list_of, field_of}
use Rattle.nest_memory.specs.TypeTree.{TypeTree, FieldTree, field, field_type}
use Rattle.nest_memory.specs.declared.datatypes.field.Field.{Field}
use Rattle.nest_memory.specs.declared.error.Error.{Error}

pub read-of : (f : FieldTree) (t : TypeTree) → t ≡ field_type f → unsupported_type t ≡ unsupported_field f
read-of (field x v b es) t e = ap unsupported_type e

pub field-read : (fs : List Field) (i : ℕ) (f : Field) → i < length fs → unsupported_fields (field_list_of fs) ≡ None → unsupported_field (field_of (get_or fs i f)) ≡ None
field-read [] i f h e = absurd (omega arith)
field-read (g ∷ gs) zero f h e = (first-then _ _ e).0
field-read (g ∷ gs) (suc i) f h e = field-read gs i f (omega arith) (first-then _ _ e).1

grow : (fs : List Field) (xs : List AnyMutableArray) (i : ℕ) (f : Field) (b : AnyMutableArray) → i < length fs → AreEmptyOf (field_list_of (take i fs)) (trees_of xs) → IsEmptyOf (field_type (field_of (get_or fs i f))) (tree_of b) → AreEmptyOf (field_list_of (take (suc i) fs)) (trees_of (xs ++ b ∷ []))
grow [] xs i f b h are is = absurd (omega arith)
grow (g ∷ gs) [] zero f b h are is = (is, tt)
grow (g ∷ gs) (x ∷ xs) zero f b h are is = absurd are
grow (g ∷ gs) [] (suc i) f b h are is = absurd are
grow (g ∷ gs) (x ∷ xs) (suc i) f b h are is = (are.0, grow gs xs i f b (omega arith) are.1 is)

-- one builder more
pub children-grow : (r : Result AnyMutableArray Error) (fs : List Field) (i : ℕ) (f : Field) (t : TypeTree) (old new : List AnyMutableArray) → i < length fs → f ≡ get_or fs i f → t ≡ field_type (field_of f) → AreEmptyOf (field_list_of (take i fs)) (trees_of old)
    → IfOk r (λ b. IsEmptyOf t (tree_of b)) → IsOkAnd r (λ b. new ≡ old ++ b ∷ []) → AreEmptyOf (field_list_of (take (i + 1) fs)) (trees_of new)
children-grow (Err e) fs i f t old new h at same are is more = absurd more
children-grow (Ok b) fs i f t old new h at same are is more =
    let on : suc i ≡ i + 1 = omega arith in
    let here : IsEmptyOf (field_type (field_of (get_or fs i f))) (tree_of b) = subst (λ u. IsEmptyOf u (tree_of b)) (same ∙ ap (λ x. field_type (field_of x)) at) is in
    subst (λ n. AreEmptyOf (field_list_of (take n fs)) (trees_of new)) on (subst (λ xs. AreEmptyOf (field_list_of (take (suc i) fs)) (trees_of xs)) (sym more) (grow fs old i f b h are here))
