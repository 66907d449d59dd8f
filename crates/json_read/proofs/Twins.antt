-- Names of fields that are looked at from the last one on.
use Rattle.std.proofs.Common.{◌≡◌, ◌∙◌, ℕ, zero, suc, ◌+◌, ◌<◌, Bool, true, false, ◌||◌, not, cond, List, [], ◌∷◌, length, drop, refl, ap, sym}
use Rattle.std.specs.Prelude.{get_or, bytes_eq}
use Rattle.std.specs.Borrow.{Bor}
use Rattle.std.specs.BTreeSet.{BTreeSet, contains, Updates}
use Rattle.std.specs.Cmp.Lexicographic.{slice_cmp}
use Rattle.std.specs.Ordering.{is_eq, nat_cmp}
use Rattle.std.proofs.lemmas.List.{drop_more}
use Rattle.std.proofs.lemmas.Map.Text.{is_eq-slice_cmp}
use Rattle.nest_memory.specs.TypeOf.{field_list_of, field_of}
use Rattle.nest_memory.specs.TypeTree.{FieldTrees, more_fields}
use Rattle.nest_memory.specs.declared.datatypes.field.Field.{Field}
use Rattle.json_read.specs.UnsupportedTypes.{has_duplicate_names}
use Rattle.json_read.specs.JsonSlots.{is_named}
use Rattle.json_write.specs.JsonText.{field_name}

pub one-more : (fs : List Field) (i j : ℕ) (x : Field) → j < length fs → i ≡ j + 1 → x ≡ get_or fs j x → field_list_of (drop j fs) ≡ more_fields (field_of x) (field_list_of (drop i fs))
one-more fs i j x lt e at = ap field_list_of (drop_more fs j x lt) ∙ (λ k. more_fields (field_of (sym at k)) (field_list_of (drop (sym e k) fs)))

or-right : (a b : Bool) → b ≡ true → (a || b) ≡ true
or-right true b h = refl
or-right false b h = h

twins-later : (fs : List Field) (n : ℕ) → has_duplicate_names (field_list_of (drop n fs)) ≡ true → has_duplicate_names (field_list_of fs) ≡ true
twins-later fs zero h = h
twins-later [] (suc n) h = cc
twins-later (f ∷ fs) (suc n) h = or-right _ _ (twins-later fs n h)

pub twin-found : (fs : List Field) (i j : ℕ) (x : Field) → j < length fs → i ≡ j + 1 → x ≡ get_or fs j x → is_named (field_name (field_of x)) (field_list_of (drop i fs)) ≡ true → has_duplicate_names (field_list_of fs) ≡ true
twin-found fs i j x lt e at named = twins-later fs j (ap has_duplicate_names (one-more fs i j x lt e at) ∙ ap (λ b. b || has_duplicate_names (field_list_of (drop i fs))) named)

pub no-twin : (fs : List Field) (i j : ℕ) (x : Field) → j < length fs → i ≡ j + 1 → x ≡ get_or fs j x → is_named (field_name (field_of x)) (field_list_of (drop i fs)) ≡ false → has_duplicate_names (field_list_of (drop i fs)) ≡ false → has_duplicate_names (field_list_of (drop j fs)) ≡ false
no-twin fs i j x lt e at named distinct = ap has_duplicate_names (one-more fs i j x lt e at) ∙ ap (λ b. b || has_duplicate_names (field_list_of (drop i fs))) named ∙ distinct

-- the set of the names that are seen, by their bytes
abbrev pub HasNames : BTreeSet (Bor (List ℕ)) → FieldTrees → Type 0
HasNames seen fs = (q : Bor (List ℕ)) → contains (λ a b. slice_cmp nat_cmp a.now b.now) seen q ≡ is_named q.now fs

cond-or : (a b : Bool) → cond a true b ≡ (a || b)
cond-or true b = refl
cond-or false b = refl

pub names-grow : (fs : List Field) (i j : ℕ) (x : Field) (key : Bor (List ℕ)) (old new : BTreeSet (Bor (List ℕ))) → j < length fs → i ≡ j + 1 → x ≡ get_or fs j x → key.now ≡ field_name (field_of x)
    → HasNames old (field_list_of (drop i fs)) → Updates (λ a b. slice_cmp nat_cmp a.now b.now) old new key true → HasNames new (field_list_of (drop j fs))
names-grow fs i j x key old new lt e at name had up q =
    let rest = field_list_of (drop i fs) in
    up.0 q ∙ cond-or (is_eq (slice_cmp nat_cmp key.now q.now)) (contains (λ (a b : Bor (List ℕ)). slice_cmp nat_cmp a.now b.now) old q) ∙ (λ k. is_eq-slice_cmp key.now q.now k || had q k)
    ∙ ap (λ n. bytes_eq n q.now || is_named q.now rest) name
    ∙ sym (ap (is_named q.now) (one-more fs i j x lt e at))

-- what the set returns for a name that is inserted
pub was-named : (had new : Bool) → new ≡ not had → new ≡ false → had ≡ true
was-named true new e h = refl
was-named false new e h = cc

pub was-new : (had new : Bool) → new ≡ not had → new ≡ true → had ≡ false
was-new true new e h = cc
was-new false new e h = refl
