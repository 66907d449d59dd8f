-- The marks of the type ids of a union.
use Rattle.std.proofs.Common.{◌≡◌, ℕ, suc, ◌+◌, ◌<◌, ◌≤◌, ℤ, pos, negsuc, Bool, true, false, eqb, List, [], ◌∷◌, ◌++◌, length, get_or, take, set, replicate, map, Ok, Err, Option, Some, None, refl, ap, sym, subst, ◌∙◌, arith, get_or-set_same, get_or-set_other, take-suc, inl, inr}
use Rattle.std.specs.Prelude.{is_some, ◌&&◌, if◌then◌else◌, ◌⊎◌}
use Rattle.std.specs.Ordering.{int_eq}
use Rattle.std.specs.List.{list_all}
use Rattle.std.proofs.lemmas.Bool.{lt-ltb, ltb-true, eqb-true, and_parts}
use Rattle.std.proofs.lemmas.Bool.Decides.{Decides-int_eq}
use Rattle.std.proofs.lemmas.List.{get_or_past, get_or-replicate}
use Rattle.std.proofs.lemmas.List.Sums.{AllPass-from_list_all}
use Rattle.nest_model.specs.Checks.{type_count}
use Rattle.nest_model.specs.Part.{last_position, field_named}
use Rattle.ipc_flatbuf.specs.declared.error.IpcReadError.TheVariants.{UnionType}
use Rattle.nest_memory.specs.Native.{signed}
use Rattle.nest_memory.specs.declared.datatypes.UnionMode.TheVariants.{Dense}
use Rattle.ipc_arrays.specs.FixedWidth.{offset_format, type_format, only}
use Rattle.ipc_arrays.specs.declared.cursor.NodeCounts.{NodeCounts}
use Rattle.ipc_arrays.specs.Decoding.{Rest, is_index_below, is_field_below, are_type_ids, are_known_types, decoded_values, decoded_buffer, decoded_types, decoded_union_parts}
use Rattle.ipc_arrays.specs.UnionTypeIds.{MarksTypeIds, is_marked_type}

-- the last index of a number in a list with one more number
abbrev before : ℤ → ℤ → Option ℕ → Option ℕ
before y z o = elim o as (λ _. Option ℕ) [ Some k ↦ Some (suc k) | None ↦ if int_eq y z then Some 0 else None ]

before_more : (y z : ℤ) (b : Bool) (n : ℕ) (o : Option ℕ) → before y z (if b then Some n else o) ≡ (if b then Some (suc n) else before y z o)
before_more y z true n o = refl
before_more y z false n o = refl

last_more : (xs : List ℤ) (x z : ℤ) → last_position (xs ++ x ∷ []) z ≡ (if int_eq x z then Some (length xs) else last_position xs z)
last_more [] x z = refl
last_more (y ∷ xs) x z = ap (before y z) (last_more xs x z) ∙ before_more y z (int_eq x z) (length xs) (last_position xs z)

-- ---- setting marks

abbrev pub HasMarks : List Bool → List ℤ → Type 0
HasMarks marks ids = (k : ℕ) → get_or marks k false ≡ is_some (last_position ids (pos k))

order : (k n : ℕ) → (k < n) ⊎ (n ≤ k)
order k n = grind arith

pub none_marked : HasMarks (replicate 128 false) []
none_marked k = elim (order k 128) [ inl h ↦ get_or-replicate 128 k false false h | inr h ↦ get_or_past (replicate 128 false) k false h ]

written : (b : Bool) (o : Option ℕ) (n k m : ℕ) (t : List Bool) → (b ≡ true → k ≡ m) → (k ≡ m → b ≡ true) → m < length t → get_or t k false ≡ is_some o → get_or (set t m true) k false ≡ is_some (if b then Some n else o)
written true o n k m t e f l h = ap (λ j. get_or (set t m true) j false) (e refl) ∙ get_or-set_same t m true false l
written false o n k m t e f l h = get_or-set_other t m k true false (λ q. let x : false ≡ true = f q in cc) ∙ h

pos_one : (j k : ℕ) → pos j ≡ pos k → j ≡ k
pos_one j k e = cc

pub mark_written : (marks : List Bool) (ids : List ℤ) (i m : ℕ) (z d : ℤ) → length marks ≡ 128 → i < length ids → get_or ids i d ≡ z → z ≡ pos m → m < 128 → HasMarks marks (take i ids) → HasMarks (set marks m true) (take (i + 1) ids)
mark_written marks ids i m z d l h e f b g k =
    let w : i + 1 ≡ suc i = omega arith in
    let x : take (i + 1) ids ≡ take i ids ++ (z ∷ []) = ap (λ j. take j ids) w ∙ take-suc ids i d h ∙ ap (λ y. take i ids ++ (y ∷ [])) e in
    let s = Decides-int_eq z (pos k) in
    written (int_eq z (pos k)) (last_position (take i ids) (pos k)) (length (take i ids)) k m marks (λ u. pos_one k m (sym (s.0 u) ∙ f)) (λ u. s.1 (f ∙ ap pos (sym u))) (omega (arith, l, b)) (g k)
    ∙ ap is_some (sym (last_more (take i ids) z (pos k))) ∙ ap (λ y. is_some (last_position y (pos k))) (sym x)

-- an id is a number below 128
pub id_is : (z : ℤ) → is_index_below z type_count ≡ true → (m : ℕ) × (z ≡ pos m) × (m < 128)
id_is (pos k) e = (k, refl, ltb-true _ _ e)
id_is (negsuc k) e = cc

-- ---- a marked type is that of a field

found_on : (x z : ℤ) (ids : List ℤ) (b : Bool) (o : Option ℕ) (f : ℕ) → int_eq x z ≡ b → (b ≡ true → x ≡ z) → ((g : ℕ) → o ≡ Some g → (g < length ids) × (get_or ids g (pos 0) ≡ z)) → before x z o ≡ Some f → (f < length (x ∷ ids)) × (get_or (x ∷ ids) f (pos 0) ≡ z)
found_on x z ids b (Some g) f q t h e = let p : f ≡ suc g = cc in let k = h g refl in subst (λ j. (j < length (x ∷ ids)) × (get_or (x ∷ ids) j (pos 0) ≡ z)) (sym p) (omega (arith, k.0), k.1)
found_on x z ids true None f q t h e =
    let u : Some 0 ≡ Some f = sym (ap (λ c. if c then Some 0 else None) q) ∙ e in
    let p : f ≡ 0 = cc in
    subst (λ j. (j < length (x ∷ ids)) × (get_or (x ∷ ids) j (pos 0) ≡ z)) (sym p) (omega arith, t refl)
found_on x z ids false None f q t h e = let u : None ≡ Some f = sym (ap (λ c. if c then Some 0 else None) q) ∙ e in cc

found_at : (ids : List ℤ) (z : ℤ) (f : ℕ) → last_position ids z ≡ Some f → (f < length ids) × (get_or ids f (pos 0) ≡ z)
found_at [] z f e = cc
found_at (x ∷ ids) z f e = found_on x z ids (int_eq x z) (last_position ids z) f refl (λ b. (Decides-int_eq x z).0 b) (λ g h. found_at ids z g h) e

some_means : (o : Option ℕ) (n : ℕ) → ((f : ℕ) → o ≡ Some f → f < n) → is_some o ≡ is_field_below o n
some_means None n h = refl
some_means (Some f) n h = sym (lt-ltb _ _ (h f refl))

no_means : (o : Option ℕ) (n : ℕ) → ((f : ℕ) → o ≡ Some f → ⊥) → false ≡ is_field_below o n
no_means None n h = refl
no_means (Some f) n h = absurd (h f refl)

not_named : (z : ℤ) (k : ℕ) → is_index_below z type_count ≡ true → z ≡ negsuc k → ⊥
not_named (pos j) k e h = cc
not_named (negsuc j) k e h = cc

mark_means : (marks : List Bool) (ids : List ℤ) (n : ℕ) → MarksTypeIds marks ids → are_type_ids (Some ids) n ≡ true → (z : ℤ) → is_marked_type marks z ≡ is_field_below (last_position ids z) n
mark_means marks ids n h are (pos k) = h.each k ∙ some_means (last_position ids (pos k)) n (λ f e. let at = found_at ids (pos k) f e in omega (arith, at.0, eqb-true _ _ (and_parts (eqb (length ids) n) (list_all (λ id. is_index_below id type_count) ids) are).0))
mark_means marks ids n h are (negsuc k) =
    no_means (last_position ids (negsuc k)) n
    (λ f e. let at = found_at ids (negsuc k) f e in not_named (get_or ids f (pos 0)) k (AllPass-from_list_all (λ z. is_index_below z type_count) ids (and_parts (eqb (length ids) n) (list_all (λ id. is_index_below id type_count) ids) are).1 f (pos 0) at.0) at.1)

same_all : (p q : ℤ → Bool) → ((z : ℤ) → p z ≡ q z) → (zs : List ℤ) → list_all p zs ≡ list_all q zs
same_all p q h [] = refl
same_all p q h (z ∷ zs) = λ i. h z i && same_all p q h zs i

pub marked_mean : (marks : List Bool) (ids : List ℤ) (n : ℕ) (ks : List ℤ) → MarksTypeIds marks ids → are_type_ids (Some ids) n ≡ true → list_all (is_marked_type marks) ks ≡ are_known_types (Some ids) n ks
marked_mean marks ids n ks h are = same_all (is_marked_type marks) (λ z. is_field_below (field_named (Some ids) z) n) (mark_means marks ids n h are) ks

place_means : (n : ℕ) (z : ℤ) → is_index_below z n ≡ is_field_below (field_named None z) n
place_means n (pos k) = refl
place_means n (negsuc k) = refl

pub places_mean : (n : ℕ) (ks : List ℤ) → list_all (λ z. is_index_below z n) ks ≡ are_known_types None n ks
places_mean n ks = same_all (λ z. is_index_below z n) (λ z. is_field_below (field_named None z) n) (place_means n) ks

-- ---- reading types

one_each : (zs : List ℤ) → map only (map signed zs) ≡ zs
one_each [] = refl
one_each (z ∷ zs) = ap (λ (ys : List ℤ). z ∷ ys) (one_each zs)

pub types_read : (ids : Option (List ℤ)) (fields slots : ℕ) (bytes : List ℕ) (ks : List ℤ) → decoded_values type_format slots bytes ≡ Ok (map signed ks) → are_known_types ids fields ks ≡ true → decoded_types ids fields slots bytes ≡ Ok ks
unfolding decoded_types
types_read ids fields slots bytes ks e h = rw (e, one_each ks, h) refl

pub types_refused : (ids : Option (List ℤ)) (fields slots : ℕ) (bytes : List ℕ) (ks : List ℤ) → decoded_values type_format slots bytes ≡ Ok (map signed ks) → are_known_types ids fields ks ≡ false → decoded_types ids fields slots bytes ≡ Err UnionType
unfolding decoded_types
types_refused ids fields slots bytes ks e h = rw (e, one_each ks, h) refl

pub dense_read : (ids : Option (List ℤ)) (fields : ℕ) (counts : NodeCounts) (body : List ℕ) (rest : Rest) (first second : List ℕ) (tail last : Rest) (ks os : List ℤ) → decoded_buffer body rest ≡ Ok (first, tail) → decoded_types ids fields counts.slots first ≡ Ok ks
    → decoded_buffer body tail ≡ Ok (second, last) → decoded_values (offset_format false) counts.slots second ≡ Ok (map signed os) → decoded_union_parts Dense ids fields counts body rest ≡ Ok (record { types = ks; offsets = Some os }, last)
unfolding decoded_union_parts
dense_read ids fields counts body rest first second tail last ks os e g h k = rw (e, g, h, k, one_each os) refl
