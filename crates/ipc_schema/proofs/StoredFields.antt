-- Fields of which each is replaced by the field that is read.
use Rattle.std.proofs.Common.{◌≡◌, ℕ, zero, suc, ◌<◌, List, [], ◌∷◌, ◌++◌, length, map, take, drop, slice_index_or, refl, ap, arith}
use Rattle.nest_memory.specs.TypeTree.{FieldTree, FieldTrees, more_fields}
use Rattle.nest_memory.specs.TypeOf.{field_trees, field_of}
use Rattle.nest_memory.specs.declared.datatypes.field.Field.{Field}
use Rattle.ipc_schema.specs.StoredTypes.{read_field, read_fields}

-- written back over all of a list
pub over_all : {A : Type 0} (n : ℕ) (xs ys : List A) → length xs ≡ n → length ys ≡ n → take n (xs ++ drop (length xs) ys) ≡ xs
over_all zero [] [] a b = refl
over_all zero [] (y ∷ ys) a b = refl
over_all zero (x ∷ xs) ys a b = absurd (omega (arith, a))
over_all (suc n) [] ys a b = absurd (omega (arith, a))
over_all (suc n) (x ∷ xs) [] a b = absurd (omega (arith, b))
over_all (suc n) (x ∷ xs) (y ∷ ys) a b = ap (λ (zs : List _). x ∷ zs) (over_all n xs ys (omega (arith, a)) (omega (arith, b)))

-- as lists, and as trees
pub trees_are_read : (fs : List FieldTree) → field_trees (map read_field fs) ≡ read_fields (field_trees fs)
trees_are_read [] = refl
trees_are_read (f ∷ fs) = ap (λ (ts : FieldTrees). more_fields (read_field f) ts) (trees_are_read fs)

pub each_is_read : (xs ys : List Field) → length xs ≡ length ys → ((k : ℕ) (d : Field) → k < length xs → field_of (slice_index_or xs k d) ≡ read_field (field_of (slice_index_or ys k d))) → map field_of xs ≡ map read_field (map field_of ys)
each_is_read [] [] long each = refl
each_is_read [] (y ∷ ys) long each = absurd (omega (arith, long))
each_is_read (x ∷ xs) [] long each = absurd (omega (arith, long))
each_is_read (x ∷ xs) (y ∷ ys) long each =
    let first : field_of x ≡ read_field (field_of y) = each 0 x (omega arith) in
    let rest = each_is_read xs ys (omega (arith, long)) (λ k d less. each (suc k) d (omega (arith, less))) in
    λ i. first i ∷ rest i
