-- The texts of the fields of a struct or a union, each with its type id if there are ids.
use Rattle.std.proofs.Common.{◌≡◌, ℕ, ◌+◌, ◌<◌, ℤ, pos, Bool, true, false, List, [], ◌++◌, codes, get_or, drop, Some, refl, ap, arith, lt-ltb, get_or-drop, add-zero, drop-drop}
use Rattle.std.specs.Fmt.{signed_decimal}
use Rattle.nest_memory.specs.TypeText.{text_of_field, text_of_fields, text_of_picks}
use Rattle.nest_memory.specs.TypeTree.{FieldTrees, more_fields, no_fields}

abbrev pub id_text : Bool → List ℤ → List ℕ
id_text false is = []
id_text true is = codes "=" ++ signed_decimal (get_or is 0 (pos 0))

abbrev pub ids_after : Bool → List ℤ → List ℤ
ids_after false is = is
ids_after true is = drop 1 is

-- fields after another
abbrev pub later_rows : Bool → FieldTrees → List ℤ → List ℕ
later_rows ids no_fields is = []
later_rows ids (more_fields f fs) is = codes ", " ++ (text_of_field f ++ (id_text ids is ++ later_rows ids fs (ids_after ids is)))

-- all fields
abbrev pub rows : Bool → FieldTrees → List ℤ → List ℕ
rows ids no_fields is = []
rows ids (more_fields f fs) is = text_of_field f ++ (id_text ids is ++ later_rows ids fs (ids_after ids is))

later-struct : (fs : FieldTrees) (is : List ℤ) → later_rows false fs is ≡ text_of_fields true fs
later-struct no_fields is = refl
later-struct (more_fields f fs) is = ap (λ x. codes ", " ++ (text_of_field f ++ x)) (later-struct fs is)

pub struct-rows : (fs : FieldTrees) (is : List ℤ) → rows false fs is ≡ text_of_fields false fs
struct-rows no_fields is = refl
struct-rows (more_fields f fs) is = ap (λ x. text_of_field f ++ x) (later-struct fs is)

later-union : (fs : FieldTrees) (ids : List ℤ) (k : ℕ) → 0 < k → later_rows true fs (drop k ids) ≡ text_of_picks (Some ids) k fs
later-union no_fields ids k some = refl
later-union (more_fields f fs) ids k some = rw (lt-ltb 0 k some, get_or-drop k ids 0 (pos 0), add-zero k, drop-drop 1 k ids, later-union fs ids (k + 1) (omega arith)) refl

pub union-rows : (fs : FieldTrees) (ids : List ℤ) → rows true fs ids ≡ text_of_picks (Some ids) 0 fs
union-rows no_fields ids = refl
union-rows (more_fields f fs) ids = ap (λ x. text_of_field f ++ (codes "=" ++ (signed_decimal (get_or ids 0 (pos 0)) ++ x))) (later-union fs ids 1 (omega arith))
