-- An injective code of data types; this library's own.
use Rattle.std.specs.Prelude.{◌≡◌, ℕ, ℤ, Bool, List, Option, nat_eq, false}
use Rattle.std.specs.Coded.{Coded, coded_ℕ, coded_ℤ, coded_bool, coded_list, coded×, coded_option}
use Rattle.std.proofs.Common.{refl, ap, arith}
use base.Stored.{Gv, gnil, gnum, gcons, num}
use Rattle.nest_memory.specs.declared.datatypes.TimeUnit.{TimeUnit}
use Rattle.nest_memory.specs.declared.datatypes.IntervalUnit.{IntervalUnit}
use Rattle.nest_memory.specs.declared.datatypes.IntegerType.{IntegerType}
use Rattle.nest_memory.specs.declared.datatypes.UnionMode.{UnionMode}
use Rattle.nest_memory.specs.contracts.datatypes.TimeUnit.{the_row as unit_row}
use Rattle.nest_memory.specs.contracts.datatypes.IntervalUnit.{the_row as interval_row}
use Rattle.nest_memory.specs.contracts.datatypes.IntegerType.{the_row as integer_row}
use Rattle.nest_memory.specs.contracts.datatypes.UnionMode.{the_row as mode_row}
use Rattle.nest_memory.specs.TypeTree.{Letters, Entries, TypeTree, null, boolean, int8, int16, int32, int64, uint8, uint16, uint32, uint64, float16, float32, float64, timestamp, date32, date64, time32, time64, duration, interval, binary, fixed_size_binary, large_binary, utf8, large_utf8, list, fixed_size_list, large_list, struct, union, map, dictionary, decimal, decimal256, extension, FieldTree, field, FieldTrees, no_fields, more_fields}

-- Numbers that compare as different are not equal.
pub apart : (m n : ℕ) → nat_eq m n ≡ false → m ≡ n → ⊥
apart m n h e = grind (arith)

abbrev letters : Coded Letters
letters = coded_list coded_ℕ

abbrev entries : Coded Entries
entries = coded_list (coded× letters letters)

abbrev zone : Coded (TimeUnit × Option Letters)
zone = coded× unit_row.coded (coded_option letters)

abbrev choice : Coded (Option (List ℤ) × UnionMode)
choice = coded× (coded_option (coded_list coded_ℤ)) mode_row.coded

abbrev key : Coded (IntegerType × Bool)
key = coded× integer_row.coded coded_bool

abbrev sizes : Coded (ℕ × ℕ)
sizes = coded× coded_ℕ coded_ℕ

abbrev title : Coded (Letters × Option Letters)
title = coded× letters (coded_option letters)

-- The parts of a pair of codes.
abbrev pub head : Gv → Gv
head gnil = gnil
head (gnum n) = gnil
head (gcons a b) = a

abbrev pub tail : Gv → Gv
tail gnil = gnil
tail (gnum n) = gnil
tail (gcons a b) = b

abbrev mutual
  pub code_type : TypeTree → Gv
  code_type null = gcons (gnum 0) gnil
  code_type boolean = gcons (gnum 1) gnil
  code_type int8 = gcons (gnum 2) gnil
  code_type int16 = gcons (gnum 3) gnil
  code_type int32 = gcons (gnum 4) gnil
  code_type int64 = gcons (gnum 5) gnil
  code_type uint8 = gcons (gnum 6) gnil
  code_type uint16 = gcons (gnum 7) gnil
  code_type uint32 = gcons (gnum 8) gnil
  code_type uint64 = gcons (gnum 9) gnil
  code_type float16 = gcons (gnum 10) gnil
  code_type float32 = gcons (gnum 11) gnil
  code_type float64 = gcons (gnum 12) gnil
  code_type (timestamp u z) = gcons (gnum 13) (zone.code (u, z))
  code_type date32 = gcons (gnum 14) gnil
  code_type date64 = gcons (gnum 15) gnil
  code_type (time32 u) = gcons (gnum 16) (unit_row.coded.code u)
  code_type (time64 u) = gcons (gnum 17) (unit_row.coded.code u)
  code_type (duration u) = gcons (gnum 18) (unit_row.coded.code u)
  code_type (interval u) = gcons (gnum 19) (interval_row.coded.code u)
  code_type binary = gcons (gnum 20) gnil
  code_type (fixed_size_binary s) = gcons (gnum 21) (gnum s)
  code_type large_binary = gcons (gnum 22) gnil
  code_type utf8 = gcons (gnum 23) gnil
  code_type large_utf8 = gcons (gnum 24) gnil
  code_type (list f) = gcons (gnum 25) (code_field f)
  code_type (fixed_size_list f s) = gcons (gnum 26) (gcons (code_field f) (gnum s))
  code_type (large_list f) = gcons (gnum 27) (code_field f)
  code_type (struct fs) = gcons (gnum 28) (code_fields fs)
  code_type (union fs ids mode) = gcons (gnum 29) (gcons (code_fields fs) (choice.code (ids, mode)))
  code_type (map f b) = gcons (gnum 30) (gcons (code_field f) (coded_bool.code b))
  code_type (dictionary k t b) = gcons (gnum 31) (gcons (code_type t) (key.code (k, b)))
  code_type (decimal p s) = gcons (gnum 32) (sizes.code (p, s))
  code_type (decimal256 p s) = gcons (gnum 33) (sizes.code (p, s))
  code_type (extension n t m) = gcons (gnum 34) (gcons (code_type t) (title.code (n, m)))

  pub code_field : FieldTree → Gv
  code_field (field n t b es) = gcons (code_type t) (gcons (letters.code n) (gcons (coded_bool.code b) (entries.code es)))

  pub code_fields : FieldTrees → Gv
  code_fields no_fields = gnil
  code_fields (more_fields f fs) = gcons (code_field f) (code_fields fs)

-- The constructor number, with which a code begins.
abbrev pub tag : Gv → ℕ
tag g = num (head g)

mutual
  pub type_one : (x y : TypeTree) → code_type x ≡ code_type y → x ≡ y
  type_one null null h = refl
  type_one boolean boolean h = refl
  type_one int8 int8 h = refl
  type_one int16 int16 h = refl
  type_one int32 int32 h = refl
  type_one int64 int64 h = refl
  type_one uint8 uint8 h = refl
  type_one uint16 uint16 h = refl
  type_one uint32 uint32 h = refl
  type_one uint64 uint64 h = refl
  type_one float16 float16 h = refl
  type_one float32 float32 h = refl
  type_one float64 float64 h = refl
  type_one (timestamp u z) (timestamp v y) h = let p = zone.inj (u, z) (v, y) (ap tail h) in λ i. timestamp (p i).0 (p i).1
  type_one date32 date32 h = refl
  type_one date64 date64 h = refl
  type_one (time32 u) (time32 v) h = ap time32 (unit_row.coded.inj u v (ap tail h))
  type_one (time64 u) (time64 v) h = ap time64 (unit_row.coded.inj u v (ap tail h))
  type_one (duration u) (duration v) h = ap duration (unit_row.coded.inj u v (ap tail h))
  type_one (interval u) (interval v) h = ap interval (interval_row.coded.inj u v (ap tail h))
  type_one binary binary h = refl
  type_one (fixed_size_binary s) (fixed_size_binary r) h = ap fixed_size_binary (coded_ℕ.inj s r (ap tail h))
  type_one large_binary large_binary h = refl
  type_one utf8 utf8 h = refl
  type_one large_utf8 large_utf8 h = refl
  type_one (list f) (list g) h = ap list (field_one f g (ap tail h))
  type_one (fixed_size_list f s) (fixed_size_list g r) h = let p = field_one f g (ap (λ v. head (tail v)) h) in let q = coded_ℕ.inj s r (ap (λ v. tail (tail v)) h) in λ i. fixed_size_list (p i) (q i)
  type_one (large_list f) (large_list g) h = ap large_list (field_one f g (ap tail h))
  type_one (struct fs) (struct gs) h = ap struct (fields_one fs gs (ap tail h))
  type_one (union fs is a) (union gs js b) h = let p = fields_one fs gs (ap (λ v. head (tail v)) h) in let q = choice.inj (is, a) (js, b) (ap (λ v. tail (tail v)) h) in λ i. union (p i) (q i).0 (q i).1
  type_one (map f a) (map g b) h = let p = field_one f g (ap (λ v. head (tail v)) h) in let q = coded_bool.inj a b (ap (λ v. tail (tail v)) h) in λ i. map (p i) (q i)
  type_one (dictionary k t a) (dictionary l u b) h = let p = type_one t u (ap (λ v. head (tail v)) h) in let q = key.inj (k, a) (l, b) (ap (λ v. tail (tail v)) h) in λ i. dictionary (q i).0 (p i) (q i).1
  type_one (decimal p s) (decimal q r) h = let e = sizes.inj (p, s) (q, r) (ap tail h) in λ i. decimal (e i).0 (e i).1
  type_one (decimal256 p s) (decimal256 q r) h = let e = sizes.inj (p, s) (q, r) (ap tail h) in λ i. decimal256 (e i).0 (e i).1
  type_one (extension n t z) (extension m u y) h = let e = type_one t u (ap (λ v. head (tail v)) h) in let q = title.inj (n, z) (m, y) (ap (λ v. tail (tail v)) h) in λ i. extension (q i).0 (e i) (q i).1
  type_one x y h = absurd (apart (tag (code_type x)) (tag (code_type y)) refl (ap tag h))

  pub field_one : (x y : FieldTree) → code_field x ≡ code_field y → x ≡ y
  field_one (field n t b es) (field m u c fs) h =
      let e = type_one t u (ap head h) in
      let p = letters.inj n m (ap (λ v. head (tail v)) h) in
      let q = coded_bool.inj b c (ap (λ v. head (tail (tail v))) h) in
      let r = entries.inj es fs (ap (λ v. tail (tail (tail v))) h) in
      λ i. field (p i) (e i) (q i) (r i)

  pub fields_one : (x y : FieldTrees) → code_fields x ≡ code_fields y → x ≡ y
  fields_one no_fields no_fields h = refl
  fields_one no_fields (more_fields g gs) h = cc
  fields_one (more_fields f fs) (more_fields g gs) h =
      let p = field_one f g (ap head h) in
      let q = fields_one fs gs (ap tail h) in
      λ i. more_fields (p i) (q i)
  fields_one (more_fields f fs) no_fields h = cc

abbrev pub coded_type : Coded TypeTree
coded_type = record { code = code_type; inj = type_one }

abbrev pub coded_field : Coded FieldTree
coded_field = record { code = code_field; inj = field_one }
