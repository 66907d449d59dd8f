-- Decides whether two data types are equal; this library's own.
use Rattle.std.specs.Prelude.{◌≡◌, ℕ, Bool, true, false, ◌&&◌, nat_eq, refl}
use Rattle.std.specs.Bool.{Decides}
use Rattle.std.specs.Cmp.{IsEquivalence, decided, first_so, second_so}
use Rattle.std.proofs.Common.{ap, ◌∙◌, sym, subst}
use Rattle.std.proofs.lemmas.Bool.Decides.{Decides-eqb}
use base.Stored.{Gv, gnil, gnum, gcons}
use Rattle.nest_memory.specs.TypeTree.{TypeTree, FieldTree}
use Rattle.nest_memory.specs.TypeCode.{code_type, type_one, code_field, field_one}

-- Whether two codes are equal.
abbrev pub same_code : Gv → Gv → Bool
same_code gnil gnil = true
same_code (gnum n) (gnum m) = nat_eq n m
same_code (gcons a b) (gcons c d) = same_code a c && same_code b d
same_code _ _ = false

found : (x y : Gv) → same_code x y ≡ true → x ≡ y
found gnil gnil h = refl
found gnil (gnum m) h = cc
found gnil (gcons c d) h = cc
found (gnum n) gnil h = cc
found (gnum n) (gnum m) h = ap gnum ((Decides-eqb n m).0 h)
found (gnum n) (gcons c d) h = cc
found (gcons a b) gnil h = cc
found (gcons a b) (gnum m) h = cc
found (gcons a b) (gcons c d) h =
    let p = found a c (first_so (same_code a c) (same_code b d) h) in
    let q = found b d (second_so (same_code a c) (same_code b d) h) in
    λ i. gcons (p i) (q i)

own : (x : Gv) → same_code x x ≡ true
own gnil = refl
own (gnum n) = (Decides-eqb n n).1 refl
own (gcons a b) = let p = own a in let q = own b in λ i. p i && q i

-- Whether two data types are equal.
abbrev pub same_type : TypeTree → TypeTree → Bool
same_type k l = same_code (code_type k) (code_type l)

pub same_type-decides : (k l : TypeTree) → Decides (same_type k l) (k ≡ l)
same_type-decides k l = (λ h. type_one k l (found _ _ h), λ e. subst (λ (m : TypeTree). same_type k m ≡ true) e (own (code_type k)))

pub same_type-equiv : IsEquivalence same_type
same_type-equiv = decided same_type same_type-decides

-- Whether two fields are equal.
abbrev pub same_field : FieldTree → FieldTree → Bool
same_field k l = same_code (code_field k) (code_field l)

pub same_field-decides : (k l : FieldTree) → Decides (same_field k l) (k ≡ l)
same_field-decides k l = (λ h. field_one k l (found _ _ h), λ e. subst (λ (m : FieldTree). same_field k m ≡ true) e (own (code_field k)))

pub same_field-equiv : IsEquivalence same_field
same_field-equiv = decided same_field same_field-decides
