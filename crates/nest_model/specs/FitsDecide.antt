-- Laws: each check of each constructor is decidable, so parts pass every check or have a first error.
use Rattle.std.specs.Prelude.{◌⊎◌, nat_eq, Option, Some, None, get_or}
use Rattle.std.specs.List.{All}
use Rattle.std.specs.Str.{IsUtf8, is_utf8}
use Rattle.std.proofs.lemmas.Str.{IsUtf8-from_is_utf8, is_utf8-from_IsUtf8}
use Rattle.std.proofs.Common.{◌≡◌, ℕ, zero, suc, ◌+◌, ◌-◌, ◌%◌, ◌<◌, ◌≤◌, ℤ, pos, negsuc, Bool, true, false, List, [], ◌∷◌, length, refl, ap, inl, inr, subst, arith}
use Rattle.std.proofs.lemmas.List.Elements.{All-nil, All-cons, All-head, All-tail}
use Rattle.std.specs.Coded.{coded_option}
use Rattle.nest_memory.specs.declared.datatypes.IntegerType.{IntegerType}
use Rattle.nest_memory.specs.TypeTree.{TypeTree, FieldTrees, no_fields, more_fields, field_type, logical_type, count_fields, item_type, size_of, fields_of, ids_of, is_dense, has_pairs, key_type, value_type}
use Rattle.nest_memory.specs.declared.datatypes.physical_type.PhysicalType.TheVariants as physical
use Rattle.nest_memory.specs.declared.datatypes.physical_type.PhysicalType.{PhysicalType}
use Rattle.nest_memory.specs.declared.datatypes.physical_type.PrimitiveType.{PrimitiveType}
use Rattle.nest_memory.specs.Physical.{physical_type, list_of_width, binary_of_width, utf8_of_width}
use Rattle.nest_memory.specs.contracts.datatypes.physical_type.PrimitiveType.{the_row as native_row}
use Rattle.nest_memory.specs.contracts.datatypes.IntegerType.{the_row as integer_row}
use Rattle.nest_memory.specs.Sublist.{sublist}
use Rattle.nest_memory.specs.Rising.{last_of}
use Rattle.nest_model.specs.Part.{Validity, valid_at, begin, extent, count_rows, field_named}
use Rattle.nest_model.specs.Layout.{Layout, Layouts, null, boolean, primitive, binary, utf8, fixed_size_binary, fixed_size_list, list, map, struct, union, dictionary, no_layouts, more_layouts, layout_type, count_layouts}
use Rattle.nest_model.specs.Accessors.{validity_of, raw_keys, key_at, key_type_of}
use Rattle.nest_model.specs.Meaning.{len, first_len}
use Rattle.nest_memory.specs.declared.error.Error.{Error}
use Rattle.nest_model.specs.Checks.{Pass, most_fields, type_count}
use Rattle.nest_model.specs.Fits.{ValidityFits, EachType, EachLen, EachCovers, Names, MeansField, IdsCount, IdsInRange, OffsetsCount, OffsetsByMode, SlotsThere, KeysInRange, IsLogically, is_dictionary, child_len, checks, Fits, FirstError, EachValidNames, validity_checks, ValidityError}
use Rattle.nest_model.specs.Decide.{Decided, AllDecided, are_distinct, apart, decide_bool, decide_number, decide_both, decide_as, pass-or_error}
use Rattle.nest_memory.specs.TypeCode.{coded_type}
use Rattle.nest_model.specs.DecideType.{decide_type, decide_by}

-- Equality with each physical type is decidable.
decide_null : (x : PhysicalType) → Decided (x ≡ physical.Null)
decide_null physical.Null = inl refl
decide_null x = inr (λ e. cc)

decide_boolean : (x : PhysicalType) → Decided (x ≡ physical.Boolean)
decide_boolean physical.Boolean = inl refl
decide_boolean x = inr (λ e. cc)

decide_primitive : (k : PrimitiveType) (x : PhysicalType) → Decided (x ≡ physical.Primitive k)
decide_primitive k (physical.Primitive l) = elim (decide_by native_row.coded l k) as (λ _. Decided (physical.Primitive l ≡ physical.Primitive k)) [
  | inl e ↦ inl (ap physical.Primitive e)
  | inr n ↦ inr (λ e. n cc)
]
decide_primitive k x = inr (λ e. cc)

decide_list : (large : Bool) (x : PhysicalType) → Decided (x ≡ list_of_width large)
decide_list true physical.LargeList = inl refl
decide_list true x = inr (λ e. cc)
decide_list false physical.List = inl refl
decide_list false x = inr (λ e. cc)

decide_binary : (large : Bool) (x : PhysicalType) → Decided (x ≡ binary_of_width large)
decide_binary true physical.LargeBinary = inl refl
decide_binary true x = inr (λ e. cc)
decide_binary false physical.Binary = inl refl
decide_binary false x = inr (λ e. cc)

decide_text : (large : Bool) (x : PhysicalType) → Decided (x ≡ utf8_of_width large)
decide_text true physical.LargeUtf8 = inl refl
decide_text true x = inr (λ e. cc)
decide_text false physical.Utf8 = inl refl
decide_text false x = inr (λ e. cc)

decide_fixed_size_binary : (x : PhysicalType) → Decided (x ≡ physical.FixedSizeBinary)
decide_fixed_size_binary physical.FixedSizeBinary = inl refl
decide_fixed_size_binary x = inr (λ e. cc)

decide_fixed_size_list : (x : PhysicalType) → Decided (x ≡ physical.FixedSizeList)
decide_fixed_size_list physical.FixedSizeList = inl refl
decide_fixed_size_list x = inr (λ e. cc)

decide_map : (x : PhysicalType) → Decided (x ≡ physical.Map)
decide_map physical.Map = inl refl
decide_map x = inr (λ e. cc)

decide_struct : (x : PhysicalType) → Decided (x ≡ physical.Struct)
decide_struct physical.Struct = inl refl
decide_struct x = inr (λ e. cc)

decide_union : (x : PhysicalType) → Decided (x ≡ physical.Union)
decide_union physical.Union = inl refl
decide_union x = inr (λ e. cc)

-- Orders and lists.
decide_le : (m n : ℕ) → Decided (m ≤ n)
decide_le m n = elim (decide_number (m - n) 0) as (λ _. Decided (m ≤ n)) [ inl e ↦ inl (omega arith) | inr k ↦ inr (λ h. k (omega arith)) ]

decide_lt : (m n : ℕ) → Decided (m < n)
decide_lt m n = decide_le (suc m) n

decide_names : (z : ℤ) (n : ℕ) → Decided (Names z n)
decide_names (pos k) n = decide_lt k n
decide_names (negsuc k) n = inr (λ h. h)

decide_all : {A : Type 0} (P : A → Type 0) → ((x : A) → Decided (P x)) → (xs : List A) → Decided (All P xs)
decide_all P d [] = inl (All-nil P)
decide_all P d (x ∷ xs) = decide_as (λ h. All-cons P x xs h.0 h.1) (λ h. (All-head P x xs h, All-tail P x xs h)) (decide_both (d x) (decide_all P d xs))

lt-from : (i n : ℕ) → i < suc n → (i ≡ n → ⊥) → i < n
lt-from i n j q = grind (arith)

last-one : (P : ℕ → Type 0) (n : ℕ) → ((i : ℕ) → i < n → P i) → P n → (i : ℕ) → i < suc n → (b : Bool) → nat_eq i n ≡ b → P i
last-one P n f y i j true e = let q : n ≡ i = grind (arith) in subst P q y
last-one P n f y i j false e = let q = apart i n e in let r : i < n = lt-from i n j q in f i r

none-there : (P : ℕ → Type 0) (n : ℕ) → (P n → ⊥) → ((i : ℕ) × (i < n) × P i → ⊥) → (i : ℕ) → i < suc n → P i → (b : Bool) → nat_eq i n ≡ b → ⊥
none-there P n k l i j y true e = let q : i ≡ n = grind (arith) in k (subst P q y)
none-there P n k l i j y false e = let q = apart i n e in l (i, lt-from i n j q, y)

decide_below : (P : ℕ → Type 0) → ((i : ℕ) → Decided (P i)) → (n : ℕ) → Decided ((i : ℕ) → i < n → P i)
decide_below P d zero = inl (λ i h. absurd (omega arith))
decide_below P d (suc n) =
    elim (decide_below P d n) as (λ _. Decided ((i : ℕ) → i < suc n → P i)) [
      | inr k ↦ inr (λ h. k (λ i j. h i (omega arith)))
      | inl f ↦ elim (d n) as (λ _. Decided ((i : ℕ) → i < suc n → P i)) [
        | inr k ↦ inr (λ h. k (h n (omega arith)))
        | inl y ↦ inl (λ i j. last-one P n f y i j _ refl)
      ]
    ]

decide_some : (P : ℕ → Type 0) → ((i : ℕ) → Decided (P i)) → (n : ℕ) → Decided ((i : ℕ) × (i < n) × P i)
decide_some P d zero = inr (λ h. absurd (let k = h.1 in omega arith))
decide_some P d (suc n) =
    elim (d n) as (λ _. Decided ((i : ℕ) × (i < suc n) × P i)) [
      | inl y ↦ inl (n, (let k : n < suc n = omega arith in k), y)
      | inr k ↦ elim (decide_some P d n) as (λ _. Decided ((i : ℕ) × (i < suc n) × P i)) [
        | inl h ↦ inl (h.0, (let a = h.1 in let b : h.0 < suc n = omega arith in b), h.2)
        | inr l ↦ inr (λ h. none-there P n k l h.0 h.1 h.2 _ refl)
      ]
    ]

decide_validity : (va : Validity) (n : ℕ) → Decided (ValidityFits va n)
decide_validity None n = inl tt
decide_validity (Some bits) n = decide_number (length bits) n

decide_each_type : (fs : FieldTrees) (cs : Layouts) → Decided (EachType fs cs)
decide_each_type no_fields no_layouts = inl tt
decide_each_type no_fields (more_layouts c cs) = inr (λ h. h)
decide_each_type (more_fields f fs) no_layouts = inr (λ h. h)
decide_each_type (more_fields f fs) (more_layouts c cs) = decide_both (decide_type (layout_type c) (field_type f)) (decide_each_type fs cs)

decide_each_len : (cs : Layouts) (n : ℕ) → Decided (EachLen cs n)
decide_each_len no_layouts n = inl tt
decide_each_len (more_layouts c cs) n = decide_both (decide_number (len c) n) (decide_each_len cs n)

decide_covers : (cs : Layouts) (n : ℕ) → Decided (EachCovers cs n)
decide_covers no_layouts n = inl tt
decide_covers (more_layouts c cs) n = decide_both (decide_le n (len c)) (decide_covers cs n)

decide_item : (o : Option TypeTree) (t : TypeTree) → Decided (o ≡ Some t)
decide_item o t = decide_by (coded_option coded_type) o (Some t)

decide_key : (o p : Option IntegerType) → Decided (o ≡ p)
decide_key o p = decide_by (coded_option integer_row.coded) o p

decide_logically : (o : Option TypeTree) (t : TypeTree) → Decided (IsLogically o t)
decide_logically None t = inr (λ h. h)
decide_logically (Some u) t = decide_type (logical_type t) (logical_type u)

decide_offsets_count : (os : Option (List ℤ)) (n : ℕ) → Decided (OffsetsCount os n)
decide_offsets_count None n = inl tt
decide_offsets_count (Some os) n = decide_number (length os) n

decide_mode : (os : Option (List ℤ)) (d : Bool) → Decided (OffsetsByMode os d)
decide_mode None true = inr (λ e. cc)
decide_mode None false = inl refl
decide_mode (Some os) d = decide_bool d

decide_ids_count : (ids : Option (List ℤ)) (n : ℕ) → Decided (IdsCount ids n)
decide_ids_count None n = inl tt
decide_ids_count (Some ids) n = decide_number (length ids) n

decide_ids_range : (ids : Option (List ℤ)) → Decided (IdsInRange ids)
decide_ids_range None = inl tt
decide_ids_range (Some ids) = decide_all (λ z. Names z type_count) (λ z. decide_names z type_count) ids

decide_means : (o : Option ℕ) (n : ℕ) → Decided (MeansField o n)
decide_means None n = inr (λ h. h)
decide_means (Some f) n = decide_lt f n

decide_there : (ids : Option (List ℤ)) (ks : List ℤ) (cs : Layouts) (os : Option (List ℤ)) (start : ℕ) → Decided (SlotsThere ids ks cs os start)
decide_there ids ks cs None start = decide_covers cs (start + length ks)
decide_there ids ks cs (Some os) start =
    decide_below (λ i. Names (get_or os i (pos 0)) (child_len cs (field_named ids (get_or ks i (pos 0))))) (λ i. decide_names (get_or os i (pos 0)) (child_len cs (field_named ids (get_or ks i (pos 0))))) (length ks)

decide_keys : (ks : Layout) (n : ℕ) → Decided (KeysInRange ks n)
decide_keys ks n =
    elim (decide_all (λ z. Names z n) (λ z. decide_names z n) (raw_keys ks)) as (λ _. Decided (KeysInRange ks n)) [
      | inl h ↦ inl (λ _. h)
      | inr k ↦ elim (decide_some (λ i. valid_at (validity_of ks) i ≡ true) (λ i. decide_bool (valid_at (validity_of ks) i)) (len ks)) as (λ _. Decided (KeysInRange ks n)) [
        | inl s ↦ inr (λ f. k (f s))
        | inr m ↦ inl (λ s. absurd (m s))
      ]
    ]

-- Each check of a constructor is decidable.
pub decide_checks : (a : Layout) → ((bs : List ℕ) → Decided (IsUtf8 bs)) → AllDecided (checks a)
decide_checks (null t n) u = (decide_null (physical_type t), tt)
decide_checks (boolean t bs va) u = (decide_validity va (length bs), (decide_boolean (physical_type t), tt))
decide_checks (primitive k t vs va) u = (decide_validity va (length vs), (decide_primitive k (physical_type t), tt))
decide_checks (binary l t os bs va) u = (decide_le (last_of os) (length bs), (decide_validity va (count_rows os), (decide_binary l (physical_type t), tt)))
decide_checks (utf8 l t os bs va) u = (
  decide_le (last_of os) (length bs),
  (
    decide_below (λ i. IsUtf8 (sublist bs (begin os i) (extent os i))) (λ i. u (sublist bs (begin os i) (extent os i))) (count_rows os),
    (decide_validity va (count_rows os), (decide_text l (physical_type t), tt)),
  ),
)
decide_checks (fixed_size_binary t bs va) u =
    (decide_fixed_size_binary (physical_type t), (decide_lt 0 (size_of t), (decide_number (length bs % size_of t) 0, (decide_validity va (len (fixed_size_binary t bs va)), tt))))
decide_checks (fixed_size_list t c va) u =
    (decide_fixed_size_list (physical_type t), (decide_lt 0 (size_of t), (decide_item (item_type t) (layout_type c), (decide_number (len c % size_of t) 0, (decide_validity va (len (fixed_size_list t c va)), tt)))))
decide_checks (list l t os c va) u =
    (decide_le (last_of os) (len c), (decide_validity va (count_rows os), (decide_list l (physical_type t), (decide_item (item_type t) (layout_type c), tt))))
decide_checks (map t os c va) u =
    (decide_le (last_of os) (len c), (decide_map (physical_type t), (decide_bool (has_pairs t), (decide_item (item_type t) (layout_type c), (decide_validity va (count_rows os), tt)))))
decide_checks (struct t cs va) u = (
  decide_struct (physical_type t),
  (
    decide_lt 0 (count_fields (fields_of t)),
    (
      decide_number (count_layouts cs) (count_fields (fields_of t)),
      (
        decide_each_type (fields_of t) cs,
        (decide_each_len cs (first_len cs), (decide_validity va (first_len cs), tt)),
      ),
    ),
  ),
)
decide_checks (union t ks cs os start) u = (
  decide_union (physical_type t),
  (
    decide_number (count_layouts cs) (count_fields (fields_of t)),
    (
      decide_le (count_layouts cs) most_fields,
      (
        decide_each_type (fields_of t) cs,
        (
          decide_offsets_count os (length ks),
          (
            decide_mode os (is_dense t),
            (
              decide_ids_count (ids_of t) (count_layouts cs),
              (
                decide_ids_range (ids_of t),
                (
                  decide_all (λ k. MeansField (field_named (ids_of t) k) (count_layouts cs)) (λ k. decide_means (field_named (ids_of t) k) (count_layouts cs)) ks,
                  (decide_there (ids_of t) ks cs os start, tt),
                ),
              ),
            ),
          ),
        ),
      ),
    ),
  ),
)
decide_checks (dictionary t ks c) u =
    (decide_bool (is_dictionary t), (decide_key (key_type t) (key_type_of ks), (decide_logically (value_type t) (layout_type c), (decide_keys ks (len c), tt))))

checks-distinct : (a : Layout) → are_distinct (checks a) ≡ true
checks-distinct (null t n) = refl
checks-distinct (boolean t bs va) = refl
checks-distinct (primitive k t vs va) = refl
checks-distinct (binary l t os bs va) = refl
checks-distinct (utf8 l t os bs va) = refl
checks-distinct (fixed_size_binary t bs va) = refl
checks-distinct (fixed_size_list t c va) = refl
checks-distinct (list l t os c va) = refl
checks-distinct (map t os c va) = refl
checks-distinct (struct t cs va) = refl
checks-distinct (union t ks cs os start) = refl
checks-distinct (dictionary t ks c) = refl

-- Parts pass every check or have a first error.
pub fits-or_error : (a : Layout) → ((bs : List ℕ) → Decided (IsUtf8 bs)) → Fits a ⊎ ((e : Error) × FirstError e a)
fits-or_error a u = pass-or_error (checks a) (decide_checks a u) (checks-distinct a)

-- Whether bytes are UTF-8 is decidable.
pub decide_utf8 : (bs : List ℕ) → Decided (IsUtf8 bs)
decide_utf8 bs = decide_as (IsUtf8-from_is_utf8 bs) (is_utf8-from_IsUtf8 bs) (decide_bool (is_utf8 bs))

decide_implied : {p q : Type 0} → Decided p → Decided q → Decided (p → q)
decide_implied {p} {q} d (inl y) = inl (λ _. y)
decide_implied {p} {q} (inl x) (inr k) = inr (λ h. k (h x))
decide_implied {p} {q} (inr n) (inr k) = inl (λ x. absurd (n x))

decide_valid_keys : (va : Validity) (ks : Layout) (n : ℕ) → Decided (EachValidNames va ks n)
decide_valid_keys va ks n = decide_below (λ i. valid_at va i ≡ true → Names (key_at ks i) n) (λ i. decide_implied (decide_bool (valid_at va i)) (decide_names (key_at ks i) n)) (len ks)

-- A new validity passes every check or has a first error.
pub validity-or_error : (a : Layout) (va : Validity) → Pass (validity_checks a va) ⊎ ((e : Error) × ValidityError e a va)
validity-or_error (null t n) va = pass-or_error (validity_checks (null t n) va) (inr (λ h. h), tt) refl
validity-or_error (boolean t bs old) va = pass-or_error (validity_checks (boolean t bs old) va) (decide_validity va (length bs), tt) refl
validity-or_error (primitive k t vs old) va = pass-or_error (validity_checks (primitive k t vs old) va) (decide_validity va (length vs), tt) refl
validity-or_error (binary l t os bs old) va = pass-or_error (validity_checks (binary l t os bs old) va) (decide_validity va (count_rows os), tt) refl
validity-or_error (utf8 l t os bs old) va = pass-or_error (validity_checks (utf8 l t os bs old) va) (decide_validity va (count_rows os), tt) refl
validity-or_error (fixed_size_binary t bs old) va = pass-or_error (validity_checks (fixed_size_binary t bs old) va) (decide_validity va (len (fixed_size_binary t bs old)), tt) refl
validity-or_error (fixed_size_list t c old) va = pass-or_error (validity_checks (fixed_size_list t c old) va) (decide_validity va (len (fixed_size_list t c old)), tt) refl
validity-or_error (list l t os c old) va = pass-or_error (validity_checks (list l t os c old) va) (decide_validity va (count_rows os), tt) refl
validity-or_error (map t os c old) va = pass-or_error (validity_checks (map t os c old) va) (decide_validity va (count_rows os), tt) refl
validity-or_error (struct t cs old) va = pass-or_error (validity_checks (struct t cs old) va) (decide_validity va (first_len cs), tt) refl
validity-or_error (union t ks cs os start) va = pass-or_error (validity_checks (union t ks cs os start) va) (inr (λ h. h), tt) refl
validity-or_error (dictionary t ks c) va = pass-or_error (validity_checks (dictionary t ks c) va) (decide_validity va (len ks), (decide_valid_keys va ks (len c), tt)) refl
