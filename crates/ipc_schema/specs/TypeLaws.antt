-- Types round-trip.
use Rattle.std.proofs.Common.{◌≡◌, ℕ, suc, ◌+◌, ◌-◌, ◌*◌, ◌^◌, ◌<◌, ◌≤◌, Bool, true, false, ltb, leb, eqb, List, [], ◌∷◌, ◌++◌, length, drop, Option, Some, None, Result, Ok, Err, refl, sym, ap, subst, ◌∙◌, append_assoc, arith}
use Rattle.std.specs.Prelude.{ℤ, pos, negsuc, is_some, not, ◌&&◌}
use Rattle.std.specs.Int.{w8, w16, w32, from_le_bytes, cast_signed, from_bool}
use Rattle.std.specs.Int.RustNames.{FitsSigned}
use Rattle.std.specs.List.{flat_map, list_all, AllByRecursion}
use Rattle.std.specs.Str.{is_utf8}
use Rattle.std.proofs.lemmas.Bool.{ltb-true, leb-true, eqb-true}
use Rattle.std.proofs.lemmas.Int.{ints}
use Rattle.std.proofs.lemmas.List.{length-append}
use Rattle.std.proofs.lemmas.Nat.{from_le_bytes-to_le_bytes_2, from_le_bytes-to_le_bytes_4}
use Rattle.nest_memory.specs.TypeTree as types
use Rattle.nest_memory.specs.TypeOf.{field_trees}
use Rattle.nest_memory.specs.TypeTree.{Letters, TypeTree, FieldTree, FieldTrees, no_fields, more_fields, count_fields, field_type, is_pair}
use Rattle.nest_memory.specs.Physical.{integer_tree}
use Rattle.nest_memory.specs.declared.datatypes.IntegerType.{IntegerType}
use Rattle.nest_memory.specs.declared.datatypes.IntegerType.TheVariants.{Int8, Int16, Int32, Int64, UInt8, UInt16, UInt32, UInt64}
use Rattle.nest_memory.specs.declared.datatypes.TimeUnit.{TimeUnit}
use Rattle.nest_memory.specs.declared.datatypes.TimeUnit.TheVariants.{Second, Millisecond, Microsecond, Nanosecond}
use Rattle.nest_memory.specs.declared.datatypes.IntervalUnit.{IntervalUnit}
use Rattle.nest_memory.specs.declared.datatypes.IntervalUnit.TheVariants.{YearMonth, DayTime, MonthDayNano}
use Rattle.nest_memory.specs.declared.datatypes.UnionMode.{UnionMode}
use Rattle.nest_memory.specs.declared.datatypes.UnionMode.TheVariants.{Dense, Sparse}
use Rattle.ipc_flatbuf.specs.declared.error.IpcWriteError.{IpcWriteError}
use Rattle.ipc_flatbuf.specs.declared.error.IpcWriteError.TheVariants as reasons
use Rattle.ipc_flatbuf.specs.Flatbuffers.{number_at, signed_at, spec_offset_at, spec_field_position, spec_read_table, spec_read_string, vector_at}
use Rattle.ipc_flatbuf.specs.PartBytes.{u32_bytes, i32_bytes, string_bytes, vector_bytes, offsets_size, padding_zeros}
use Rattle.ipc_flatbuf.specs.FlatbufferLaws.{From, number_is, offset_is, field_is_past}
use Rattle.ipc_flatbuf.specs.TemplateLaws.{From_at, table_in, visit_in, field_in, i32_in, flag_round_trips, string_long, string_round_trips}
use Rattle.ipc_flatbuf.specs.VectorLaws.{ReadsBackAs, IsStruct, structs_long, vector_round_trips}
use Rattle.ipc_schema.specs.declared.type_tags.LeafTag.{LeafTag}
use Rattle.ipc_schema.specs.declared.type_tags.LeafTag.TheVariants as leaves
use Rattle.ipc_schema.specs.declared.type_tags.Tag.{Tag}
use Rattle.ipc_schema.specs.declared.type_tags.Tag.TheVariants as tags
use Rattle.nest_memory.specs.declared.datatypes.floats.Precision.{Precision}
use Rattle.nest_memory.specs.declared.datatypes.floats.Precision.TheVariants.{Half, Single, Double}
use Rattle.nest_memory.specs.Floats.{spec_float_type, spec_precision_of, spec_is_float}
use Rattle.ipc_schema.specs.Floats.{spec_precision_number, spec_numbered_precision}
use Rattle.nest_memory.specs.FloatLaws.{float_is}
use Rattle.ipc_schema.specs.Types.{spec_tag_of, spec_bare_at, spec_integer_of, spec_integer_at, spec_float_at, spec_is_precision, most_digits, most_digits256, spec_decimal_at, spec_date_of, spec_date_at, spec_unit_of, spec_is_coarse, spec_time_of, spec_time_at, spec_zone_at, spec_timestamp_at, spec_interval_of, spec_interval_at, spec_duration_at, spec_fixed_size_binary_at, Shape, leaf, list, large_list, fixed_size_list, struct, map as map_shape, union, spec_fixed_size_list_at, spec_map_at, spec_ids_at, spec_mode_of, spec_is_union_id, spec_are_union_ids, spec_union_at, spec_type_at, spec_shape_at, field_list, spec_children_of, spec_can_have, spec_with_children}
use Rattle.ipc_schema.specs.WriteChecks.{spec_require, spec_check_number, spec_check_size, spec_check_decimal, spec_check_type, and_then_check}
use Rattle.ipc_schema.specs.SchemaBytes.{no_field, one_field, two_fields, three_fields, spec_unit_number, spec_interval_number, timestamp_bytes, spec_mode_number, ids_bytes, union_bytes, float_bytes, type_bytes, spec_type_number}

-- ---- invariants of Rust types

-- a time zone is UTF-8
abbrev pub IsZone : Option Letters → Type 0
IsZone None = Unit {0}
IsZone (Some zone) = is_utf8 zone ≡ true

-- the type ids of at most 127 fields
abbrev pub AreFew : Option (List ℤ) → Type 0
AreFew None = Unit {0}
AreFew (Some ids) = length ids < 128

abbrev pub TypeFits : TypeTree → Type 0
TypeFits (types.timestamp unit zone) = IsZone zone
TypeFits type = Unit {0}

-- ---- numbers of the layouts

-- the number at a position, by the widths of fields
pub record HasNumber (whole : List ℕ) (q a : ℕ) : Type 0 where
  pub word : signed_at w32 whole q ≡ Ok (pos a)
  pub short : a < 2 ^ 15 → signed_at w16 whole q ≡ Ok (pos a)
  pub byte : a < 2 ^ 8 → number_at w8 whole q ≡ Ok a
  pub offset : spec_offset_at whole q ≡ Ok (q + a)

signed_32 : (a : ℕ) → a < 2 ^ 31 → cast_signed w32 a ≡ pos a
signed_32 a small = omega (arith, ints)

signed_16 : (a : ℕ) → a < 2 ^ 15 → cast_signed w16 a ≡ pos a
signed_16 a small = omega (arith, ints)

low_byte : (a : ℕ) (rest : List ℕ) → a < 2 ^ 8 → from_le_bytes w8 (u32_bytes a ++ rest) ≡ a
unfolding u32_bytes
low_byte a rest small = omega arith

number_again : (a : ℕ) (whole : List ℕ) (p q k : ℕ) (part rest : List ℕ) → a < 2 ^ 31 → From whole p part → k ≤ length part → q ≡ p + k → drop k part ≡ u32_bytes a ++ rest → HasNumber whole q a
unfolding u32_bytes
number_again a whole p q k part rest small h le at is =
    let here : From whole q (u32_bytes a ++ rest) = From_at whole p q k part (u32_bytes a ++ rest) h le at is in
    let word : number_at w32 whole q ≡ Ok a = number_is w32 whole q (u32_bytes a ++ rest) here (omega arith) ∙ ap (λ (n : ℕ). Ok n) (from_le_bytes-to_le_bytes_4 a (omega arith)) in
    record {
      word = rw (word, signed_32 a small) refl;
      short = λ lt.
          let short : number_at w16 whole q ≡ Ok a = number_is w16 whole q (u32_bytes a ++ rest) here (omega arith) ∙ ap (λ (n : ℕ). Ok n) (from_le_bytes-to_le_bytes_2 a (omega arith)) in
          rw (short, signed_16 a lt) refl;
      byte = λ lt. number_is w8 whole q (u32_bytes a ++ rest) here (omega arith) ∙ ap (λ (n : ℕ). Ok n) (low_byte a rest lt);
      offset = offset_is whole q a word;
    }

-- ---- tables of the layouts

-- the position of the field of a table of one field
pub record OneField (whole : List ℕ) (p left a : ℕ) : Type 0 where
  pub visit : spec_read_table whole (p + 12) left ≡ Ok (table_in p 12 6, left - 8)
  pub first : spec_field_position whole (table_in p 12 6) 0 ≡ Ok (Some (p + 12 + 4))
  pub others : (id : ℕ) → 0 < id → spec_field_position whole (table_in p 12 6) id ≡ Ok None
  pub number : HasNumber whole (p + 12 + 4) a

one_is : (a : ℕ) (whole : List ℕ) (p left : ℕ) (after : List ℕ) → a < 2 ^ 31 → From whole p (one_field a ++ after) → 8 ≤ left → OneField whole p left a
unfolding one_field u32_bytes
one_is a whole p left after small h le =
    let part : List ℕ = one_field a ++ after in
    record {
      visit = visit_in whole p part 12 6 left h (omega arith) (omega arith) (omega arith) (omega arith) refl refl refl le;
      first = field_in whole p part 12 6 0 4 h (omega arith) (omega arith) (omega arith) refl;
      others = λ id lt. field_is_past whole (table_in p 12 6) id (omega arith);
      number = number_again a whole p (p + 12 + 4) 16 part ((0 ∷ 0 ∷ 0 ∷ 0 ∷ []) ++ after) small h (omega arith) (omega arith) refl;
    }

-- one of two
pub record TwoFields (whole : List ℕ) (p left a b : ℕ) : Type 0 where
  pub visit : spec_read_table whole (p + 12) left ≡ Ok (table_in p 12 8, left - 8)
  pub first : spec_field_position whole (table_in p 12 8) 0 ≡ Ok (Some (p + 12 + 4))
  pub second : spec_field_position whole (table_in p 12 8) 1 ≡ Ok (Some (p + 12 + 8))
  pub others : (id : ℕ) → 1 < id → spec_field_position whole (table_in p 12 8) id ≡ Ok None
  pub number : HasNumber whole (p + 12 + 4) a
  pub next : HasNumber whole (p + 12 + 8) b

two_are : (a b : ℕ) (whole : List ℕ) (p left : ℕ) (after : List ℕ) → a < 2 ^ 31 → b < 2 ^ 31 → From whole p (two_fields a b ++ after) → 8 ≤ left → TwoFields whole p left a b
unfolding two_fields u32_bytes
two_are a b whole p left after small few h le =
    let part : List ℕ = two_fields a b ++ after in
    record {
      visit = visit_in whole p part 12 8 left h (omega arith) (omega arith) (omega arith) (omega arith) refl refl refl le;
      first = field_in whole p part 12 8 0 4 h (omega arith) (omega arith) (omega arith) refl;
      second = field_in whole p part 12 8 1 8 h (omega arith) (omega arith) (omega arith) refl;
      others = λ id lt. field_is_past whole (table_in p 12 8) id (omega arith);
      number = number_again a whole p (p + 12 + 4) 16 part (u32_bytes b ++ after) small h (omega arith) (omega arith) refl;
      next = number_again b whole p (p + 12 + 8) 20 part after few h (omega arith) (omega arith) refl;
    }

-- one of three
pub record ThreeFields (whole : List ℕ) (p left a b c : ℕ) : Type 0 where
  pub visit : spec_read_table whole (p + 12) left ≡ Ok (table_in p 12 10, left - 8)
  pub first : spec_field_position whole (table_in p 12 10) 0 ≡ Ok (Some (p + 12 + 4))
  pub second : spec_field_position whole (table_in p 12 10) 1 ≡ Ok (Some (p + 12 + 8))
  pub third : spec_field_position whole (table_in p 12 10) 2 ≡ Ok (Some (p + 12 + 12))
  pub number : HasNumber whole (p + 12 + 4) a
  pub next : HasNumber whole (p + 12 + 8) b
  pub last : HasNumber whole (p + 12 + 12) c

three_are : (a b c : ℕ) (whole : List ℕ) (p left : ℕ) (after : List ℕ) → a < 2 ^ 31 → b < 2 ^ 31 → c < 2 ^ 31 → From whole p (three_fields a b c ++ after) → 8 ≤ left → ThreeFields whole p left a b c
unfolding three_fields u32_bytes
three_are a b c whole p left after small few least h le =
    let part : List ℕ = three_fields a b c ++ after in
    record {
      visit = visit_in whole p part 12 10 left h (omega arith) (omega arith) (omega arith) (omega arith) refl refl refl le;
      first = field_in whole p part 12 10 0 4 h (omega arith) (omega arith) (omega arith) refl;
      second = field_in whole p part 12 10 1 8 h (omega arith) (omega arith) (omega arith) refl;
      third = field_in whole p part 12 10 2 12 h (omega arith) (omega arith) (omega arith) refl;
      number = number_again a whole p (p + 12 + 4) 16 part (u32_bytes b ++ (u32_bytes c ++ ((0 ∷ 0 ∷ 0 ∷ 0 ∷ []) ++ after))) small h (omega arith) (omega arith) refl;
      next = number_again b whole p (p + 12 + 8) 20 part (u32_bytes c ++ ((0 ∷ 0 ∷ 0 ∷ 0 ∷ []) ++ after)) few h (omega arith) (omega arith) refl;
      last = number_again c whole p (p + 12 + 12) 24 part ((0 ∷ 0 ∷ 0 ∷ 0 ∷ []) ++ after) least h (omega arith) (omega arith) refl;
    }

one_long : (a : ℕ) → 16 ≤ length (one_field a)
unfolding one_field u32_bytes
one_long a = omega arith

two_long : (a b : ℕ) → 16 ≤ length (two_fields a b)
unfolding two_fields u32_bytes
two_long a b = omega arith

three_long : (a b c : ℕ) → 16 ≤ length (three_fields a b c)
unfolding three_fields u32_bytes
three_long a b c = omega arith

-- ---- each table

bare_read : {A : Type 0} (type : A) → ReadsBackAs (spec_bare_at type) 12 no_field type 8
unfolding spec_bare_at no_field
bare_read type = record {
  law = λ whole p q left after h small at le.
      let part : List ℕ = no_field ++ after in
      let v : spec_read_table whole (p + 12) left ≡ Ok (table_in p 12 4, left - 8) = visit_in whole p part 12 4 left h (omega arith) (omega arith) (omega arith) (omega arith) refl refl refl le in
      rw (at, v) refl;
  long = omega arith;
}

number_read : (integer : IntegerType) (bits sign : ℕ) → bits < 2 ^ 31 → sign < 2 ^ 8 → spec_integer_of bits (ltb 0 sign) ≡ Ok integer → ReadsBackAs spec_integer_at 12 (two_fields bits sign) integer 8
unfolding spec_integer_at
number_read integer bits sign small few is = record {
  law = λ whole p q left after h within at le.
      let t = two_are bits sign whole p left after small (omega arith) h le in
      rw (at, t.visit, t.first, t.number.word, t.second, t.next.byte few, is) refl;
  long = two_long bits sign;
}

integer_read : (integer : IntegerType) (bits sign : ℕ) → bits < 2 ^ 31 → sign < 2 ^ 8 → spec_integer_of bits (ltb 0 sign) ≡ Ok integer → ReadsBackAs (spec_type_at leaves.Int) 12 (two_fields bits sign) (integer_tree integer) 8
integer_read integer bits sign small few is =
    let r = number_read integer bits sign small few is in
    record {
      law = λ whole p q left after h within at le. rw (r.law whole p q left after h within at le) refl;
      long = r.long;
    }

-- the type of the keys
pub key_read : (key : IntegerType) → ReadsBackAs spec_integer_at 12 (type_bytes (integer_tree key)) key 8
unfolding type_bytes
key_read Int8 = number_read Int8 8 1 (omega arith) (omega arith) refl
key_read Int16 = number_read Int16 16 1 (omega arith) (omega arith) refl
key_read Int32 = number_read Int32 32 1 (omega arith) (omega arith) refl
key_read Int64 = number_read Int64 64 1 (omega arith) (omega arith) refl
key_read UInt8 = number_read UInt8 8 0 (omega arith) (omega arith) refl
key_read UInt16 = number_read UInt16 16 0 (omega arith) (omega arith) refl
key_read UInt32 = number_read UInt32 32 0 (omega arith) (omega arith) refl
key_read UInt64 = number_read UInt64 64 0 (omega arith) (omega arith) refl

pub key_long : (key : IntegerType) → length (type_bytes (integer_tree key)) ≡ 24
unfolding type_bytes two_fields u32_bytes
key_long Int8 = refl
key_long Int16 = refl
key_long Int32 = refl
key_long Int64 = refl
key_long UInt8 = refl
key_long UInt16 = refl
key_long UInt32 = refl
key_long UInt64 = refl

precision_small : (precision : Precision) → spec_precision_number precision < 2 ^ 15
precision_small Half = omega arith
precision_small Single = omega arith
precision_small Double = omega arith

precision_back : (precision : Precision) → spec_numbered_precision (spec_precision_number precision) ≡ Ok precision
precision_back Half = refl
precision_back Single = refl
precision_back Double = refl

float_read : (precision : Precision) → ReadsBackAs spec_float_at 12 (float_bytes (Some precision)) (spec_float_type precision) 8
unfolding spec_float_at float_bytes
float_read precision = record {
  law = λ whole p q left after h within at le.
      let t = one_is (spec_precision_number precision) whole p left after (omega (arith, precision_small precision)) h le in
      rw (at, t.visit, t.first, t.number.short (precision_small precision), precision_back precision) refl;
  long = one_long (spec_precision_number precision);
}

decimal_read : (digits after : ℕ) → spec_is_precision most_digits digits ≡ true → digits < 2 ^ 31 → after < 2 ^ 31 → ReadsBackAs spec_decimal_at 12 (two_fields digits after) (types.decimal digits after) 8
unfolding spec_decimal_at
decimal_read digits scale fits small few = record {
  law = λ whole p q left after h within at le.
      let t = two_are digits scale whole p left after small few h le in
      rw (at, t.visit, t.first, t.number.word, t.second, t.next.word, t.others 2 (omega arith), fits) refl;
  long = two_long digits scale;
}

decimal256_read : (digits after : ℕ) → spec_is_precision most_digits256 digits ≡ true → digits < 2 ^ 31 → after < 2 ^ 31 → ReadsBackAs spec_decimal_at 12 (three_fields digits after 256) (types.decimal256 digits after) 8
unfolding spec_decimal_at
decimal256_read digits scale fits small few = record {
  law = λ whole p q left after h within at le.
      let t = three_are digits scale 256 whole p left after small few (omega arith) h le in
      rw (at, t.visit, t.first, t.number.word, t.second, t.next.word, t.third, t.last.word, fits) refl;
  long = three_long digits scale 256;
}

date_read : (n : ℕ) (type : TypeTree) → n < 2 ^ 15 → spec_date_of n ≡ Ok type → ReadsBackAs spec_date_at 12 (one_field n) type 8
unfolding spec_date_at
date_read n type small is = record {
  law = λ whole p q left after h within at le.
      let t = one_is n whole p left after (omega arith) h le in
      rw (at, t.visit, t.first, t.number.short small, is) refl;
  long = one_long n;
}

unit_small : (unit : TimeUnit) → spec_unit_number unit < 2 ^ 15
unit_small Second = omega arith
unit_small Millisecond = omega arith
unit_small Microsecond = omega arith
unit_small Nanosecond = omega arith

unit_back : (unit : TimeUnit) → spec_unit_of (spec_unit_number unit) ≡ Ok unit
unit_back Second = refl
unit_back Millisecond = refl
unit_back Microsecond = refl
unit_back Nanosecond = refl

time_read : (unit : TimeUnit) (bits : ℕ) (type : TypeTree) → bits < 2 ^ 31 → spec_time_of unit bits ≡ Ok type → ReadsBackAs spec_time_at 12 (two_fields (spec_unit_number unit) bits) type 8
unfolding spec_time_at
time_read unit bits type small is = record {
  law = λ whole p q left after h within at le.
      let t = two_are (spec_unit_number unit) bits whole p left after (omega (arith, unit_small unit)) small h le in
      rw (at, t.visit, t.first, t.number.short (unit_small unit), t.second, t.next.word, unit_back unit, is) refl;
  long = two_long (spec_unit_number unit) bits;
}

duration_read : (unit : TimeUnit) → ReadsBackAs spec_duration_at 12 (one_field (spec_unit_number unit)) (types.duration unit) 8
unfolding spec_duration_at
duration_read unit = record {
  law = λ whole p q left after h within at le.
      let t = one_is (spec_unit_number unit) whole p left after (omega (arith, unit_small unit)) h le in
      rw (at, t.visit, t.first, t.number.short (unit_small unit), unit_back unit) refl;
  long = one_long (spec_unit_number unit);
}

interval_small : (unit : IntervalUnit) → spec_interval_number unit < 2 ^ 15
interval_small YearMonth = omega arith
interval_small DayTime = omega arith
interval_small MonthDayNano = omega arith

interval_back : (unit : IntervalUnit) → spec_interval_of (spec_interval_number unit) ≡ Ok unit
interval_back YearMonth = refl
interval_back DayTime = refl
interval_back MonthDayNano = refl

interval_read : (unit : IntervalUnit) → ReadsBackAs spec_interval_at 12 (one_field (spec_interval_number unit)) (types.interval unit) 8
unfolding spec_interval_at
interval_read unit = record {
  law = λ whole p q left after h within at le.
      let t = one_is (spec_interval_number unit) whole p left after (omega (arith, interval_small unit)) h le in
      rw (at, t.visit, t.first, t.number.short (interval_small unit), interval_back unit) refl;
  long = one_long (spec_interval_number unit);
}

size_read : (size : ℕ) → size < 2 ^ 31 → 0 < size → ReadsBackAs spec_fixed_size_binary_at 12 (one_field size) (types.fixed_size_binary size) 8
unfolding spec_fixed_size_binary_at
size_read size small some = record {
  law = λ whole p q left after h within at le.
      let t = one_is size whole p left after small h le in
      let is : eqb size 0 ≡ false = grind arith in
      rw (at, t.visit, t.first, t.number.word, is) refl;
  long = one_long size;
}

-- ---- timestamps

unfoldable pub zone_cost : Option Letters → ℕ
zone_cost None = 8
zone_cost (Some zone) = 12 + length zone

pub timestamp_long : (unit : TimeUnit) (zone : Letters) → length zone ≤ length (timestamp_bytes unit (Some zone))
unfolding timestamp_bytes two_fields u32_bytes
timestamp_long unit zone = omega (arith, string_long zone)

timestamp_read : (unit : TimeUnit) (zone : Option Letters) → IsZone zone → ReadsBackAs spec_timestamp_at 12 (timestamp_bytes unit zone) (types.timestamp unit zone) (zone_cost zone)
unfolding spec_timestamp_at spec_zone_at timestamp_bytes zone_cost two_fields u32_bytes
timestamp_read unit None fits = record {
  law = λ whole p q left after h within at le.
      let t = one_is (spec_unit_number unit) whole p left after (omega (arith, unit_small unit)) h le in
      rw (at, t.visit, t.first, t.number.short (unit_small unit), t.others 1 (omega arith), unit_back unit) refl;
  long = one_long (spec_unit_number unit);
}
timestamp_read unit (Some zone) fits = record {
  law = λ whole p q left after h within at le.
      let part : List ℕ = timestamp_bytes unit (Some zone) ++ after in
      let t = two_are (spec_unit_number unit) 4 whole p left (string_bytes zone ++ after) (omega (arith, unit_small unit)) (omega arith) h (omega arith) in
      let behind : From whole (p + 12 + 8 + 4) (string_bytes zone ++ after) = From_at whole p (p + 12 + 8 + 4) 24 part (string_bytes zone ++ after) h (omega arith) (omega arith) refl in
      let s : spec_read_string whole (p + 12 + 8 + 4) (left - 8) ≡ Ok (zone, left - 8 - (4 + length zone)) = string_round_trips zone whole (p + 12 + 8 + 4) (left - 8) after fits behind within (omega arith) in
      let spent : left - 8 - (4 + length zone) ≡ left - (12 + length zone) = omega arith in
      rw (at, t.visit, t.first, t.number.short (unit_small unit), t.second, t.next.offset, s, unit_back unit, spent) refl;
  long = omega (arith, string_long zone);
}

-- ---- nested types

and_both : (a b : Bool) → (a && b) ≡ true → (a ≡ true) × (b ≡ true)
and_both true b h = (refl, h)
and_both false b h = absurd (cc h)

list_size_read : (size : ℕ) → size < 2 ^ 31 → 0 < size → ReadsBackAs spec_fixed_size_list_at 12 (one_field size) (fixed_size_list size) 8
unfolding spec_fixed_size_list_at
list_size_read size small some = record {
  law = λ whole p q left after h within at le.
      let t = one_is size whole p left after small h le in
      let is : eqb size 0 ≡ false = grind arith in
      rw (at, t.visit, t.first, t.number.word, is) refl;
  long = one_long size;
}

bit_small : (b : Bool) → from_bool b < 2 ^ 8
bit_small true = omega arith
bit_small false = omega arith

map_read : (sorted : Bool) → ReadsBackAs spec_map_at 12 (one_field (from_bool sorted)) (map_shape sorted) 8
unfolding spec_map_at
map_read sorted = record {
  law = λ whole p q left after h within at le.
      let t = one_is (from_bool sorted) whole p left after (omega (arith, bit_small sorted)) h le in
      rw (at, t.visit, t.first, t.number.byte (bit_small sorted), flag_round_trips sorted) refl;
  long = one_long (from_bool sorted);
}

mode_small : (mode : UnionMode) → spec_mode_number mode < 2 ^ 15
mode_small Sparse = omega arith
mode_small Dense = omega arith

mode_back : (mode : UnionMode) → spec_mode_of (spec_mode_number mode) ≡ Ok mode
mode_back Sparse = refl
mode_back Dense = refl

id_fits : (id : ℤ) → spec_is_union_id id ≡ true → FitsSigned w32 id
id_fits (pos n) is = let small : n < 128 = ltb-true _ _ is in omega (arith, ints)
id_fits (negsuc n) is = cc

id_is : (id : ℤ) → spec_is_union_id id ≡ true → IsStruct (signed_at w32) 4 i32_bytes id
unfolding i32_bytes
id_is id is = record {
  law = λ whole p after h. i32_in whole p (i32_bytes id ++ after) 0 p id h (omega arith) (omega arith) (id_fits id is) refl;
  long = refl;
}

each_is : (ids : List ℤ) → list_all spec_is_union_id ids ≡ true → AllByRecursion (IsStruct (signed_at w32) 4 i32_bytes) ids
each_is [] all = tt
each_is (id ∷ ids) all = let h = and_both (spec_is_union_id id) (list_all spec_is_union_id ids) all in (id_is id h.0, each_is ids h.1)

-- the cost of reading type ids
unfoldable pub ids_cost : Option (List ℤ) → ℕ
ids_cost None = 8
ids_cost (Some ids) = 12 + length ids * 4

ids_long : (ids : List ℤ) → list_all spec_is_union_id ids ≡ true → 4 + length ids * 4 ≤ length (ids_bytes ids)
unfolding ids_bytes vector_bytes u32_bytes
ids_long ids all =
    omega (arith, structs_long (signed_at w32) 4 i32_bytes ids (each_is ids all), length-append (flat_map i32_bytes ids) (padding_zeros (offsets_size (length ids) - (4 + 4 * length ids))))

are_few : (ids : List ℤ) (count : ℕ) → spec_are_union_ids (Some ids) count ≡ true → (length ids < 128) × (list_all spec_is_union_id ids ≡ true)
are_few ids count fit =
    let h = and_both (ltb count 128) (eqb (length ids) count && list_all spec_is_union_id ids) fit in
    let g = and_both (eqb (length ids) count) (list_all spec_is_union_id ids) h.1 in
    let few : count < 128 = ltb-true _ _ h.0 in
    let same : length ids ≡ count = eqb-true _ _ g.0 in
    (omega arith, g.1)

union_read : (ids : Option (List ℤ)) (mode : UnionMode) (count : ℕ) → spec_are_union_ids ids count ≡ true → ReadsBackAs (spec_union_at count) 12 (union_bytes ids mode) (union ids mode) (ids_cost ids)
unfolding spec_union_at spec_ids_at union_bytes ids_cost ids_bytes two_fields u32_bytes
union_read None mode count fit = record {
  law = λ whole p q left after h within at le.
      let t = one_is (spec_mode_number mode) whole p left after (omega (arith, mode_small mode)) h le in
      rw (at, t.visit, t.first, t.number.short (mode_small mode), t.others 1 (omega arith), mode_back mode, fit) refl;
  long = one_long (spec_mode_number mode);
}
union_read (Some ids) mode count fit = record {
  law = λ whole p q left after h within at le.
      let part : List ℕ = union_bytes (Some ids) mode ++ after in
      let few = are_few ids count fit in
      let gap : List ℕ = padding_zeros (offsets_size (length ids) - (4 + 4 * length ids)) in
      let t = two_are (spec_mode_number mode) 4 whole p left (ids_bytes ids ++ after) (omega (arith, mode_small mode)) (omega arith) h (omega arith) in
      let behind : From whole (p + 12 + 8 + 4) (vector_bytes i32_bytes ids ++ (gap ++ after)) = From_at whole p (p + 12 + 8 + 4) 24 part (vector_bytes i32_bytes ids ++ (gap ++ after)) h (omega arith) (omega arith) (append_assoc (vector_bytes i32_bytes ids) gap after) in
      let v : vector_at (signed_at w32 whole) 4 whole (Some (p + 12 + 8 + 4)) (left - 8) ≡ Ok (ids, left - 8 - (4 + length ids * 4)) =
      vector_round_trips (signed_at w32) 4 i32_bytes ids whole (p + 12 + 8 + 4) (left - 8) (gap ++ after) (each_is ids few.1) behind within (omega (arith, few.0)) (omega arith) in
      let spent : left - 8 - (4 + length ids * 4) ≡ left - (12 + length ids * 4) = omega arith in
      rw (at, t.visit, t.first, t.number.short (mode_small mode), t.second, t.next.offset, v, mode_back mode, fit, spent) refl;
  long = omega (arith, ids_long ids (are_few ids count fit).1);
}

-- ---- types that can be written

pub passes : (b : Bool) (why : IpcWriteError) → spec_require b why ≡ Ok tt → b ≡ true
passes true why h = refl
passes false why h = cc

pub both : (a b : Result (Unit {0}) IpcWriteError) → and_then_check a b ≡ Ok tt → (a ≡ Ok tt) × (b ≡ Ok tt)
both (Ok tt) b h = (refl, h)
both (Err why) b h = absurd (cc h)

not_back : (b : Bool) → not b ≡ true → b ≡ false
not_back true h = cc
not_back false h = refl

number_small : (n : ℕ) → spec_check_number n ≡ Ok tt → n < 2 ^ 31
number_small n form = ltb-true _ _ (passes (ltb n (2 ^ 31)) reasons.Size form)

-- ---- children

pub trees_back : (fs : FieldTrees) → field_trees (field_list fs) ≡ fs
trees_back no_fields = refl
trees_back (more_fields f fs) = ap (more_fields f) (trees_back fs)

pub list_back : (fs : List FieldTree) → field_list (field_trees fs) ≡ fs
list_back [] = refl
list_back (f ∷ fs) = ap (λ (l : List FieldTree). f ∷ l) (list_back fs)

trees_counted : (fs : FieldTrees) → length (field_list fs) ≡ count_fields fs
trees_counted no_fields = refl
trees_counted (more_fields f fs) = ap suc (trees_counted fs)

-- a type without its children
abbrev pub own_shape : TypeTree → Shape
own_shape (types.list f) = list
own_shape (types.large_list f) = large_list
own_shape (types.fixed_size_list f size) = fixed_size_list size
own_shape (types.struct fs) = struct
own_shape (types.map f sorted) = map_shape sorted
own_shape (types.union fs ids mode) = union ids mode
own_shape type = leaf type

-- ---- each type

-- the cost of reading a type
unfoldable pub type_cost : TypeTree → ℕ
type_cost (types.timestamp unit zone) = zone_cost zone
type_cost (types.union fs ids mode) = ids_cost ids
type_cost type = 8

-- a type has a supported tag, is read from its bytes, for a field with its number of children, and is completed with them
pub record TypeIs (type : TypeTree) (count : ℕ) : Type 0 where
  pub tag : Tag
  pub number : spec_tag_of (spec_type_number type) ≡ Ok tag
  pub read : ReadsBackAs (spec_shape_at tag count) 12 (type_bytes type) (own_shape type) (type_cost type)
  pub counted : spec_can_have (own_shape type) count ≡ true
  pub back : spec_with_children (own_shape type) (spec_children_of type) ≡ Ok type

leaf_read : (tag : LeafTag) (count : ℕ) (body : List ℕ) (type : TypeTree) (cost : ℕ) → ReadsBackAs (spec_type_at tag) 12 body type cost → ReadsBackAs (spec_shape_at (tags.Leaf tag) count) 12 body (leaf type) cost
leaf_read tag count body type cost r = record {
  law = λ whole p q left after h within at le. rw (r.law whole p q left after h within at le) refl;
  long = r.long;
}

sized : (size : ℕ) → spec_check_size size ≡ Ok tt → (size < 2 ^ 31) × (0 < size)
sized size form =
    let h = both (spec_require (not (eqb size 0)) reasons.Type) (spec_check_number size) form in
    (number_small size h.1, grind (arith, passes (not (eqb size 0)) reasons.Type h.0))

-- the parameters of a decimal that can be written
record IsDecimal (most digits after : ℕ) : Type 0 where
  pub fits : spec_is_precision most digits ≡ true
  pub few : digits < 2 ^ 31
  pub small : after < 2 ^ 31

decimal_is : (most digits after : ℕ) → most < 2 ^ 31 → spec_check_decimal most digits after ≡ Ok tt → IsDecimal most digits after
decimal_is most digits after few form =
    let h = both (spec_require (spec_is_precision most digits) reasons.Type) (spec_check_number after) form in
    let fits = passes (spec_is_precision most digits) reasons.Type h.0 in
    let within : digits ≤ most = leb-true _ _ (and_both (leb 1 digits) (leb digits most) fits).1 in
    record { fits = fits; few = omega arith; small = number_small after h.1 }

float_type_is : (precision : Precision) (count : ℕ) → count ≡ 0 → TypeIs (spec_float_type precision) count
unfolding spec_type_number type_bytes type_cost
float_type_is Half count are = record { tag = tags.Leaf leaves.FloatingPoint; number = refl; read = leaf_read leaves.FloatingPoint count _ (spec_float_type Half) 8 (float_read Half); counted = rw are refl; back = refl }
float_type_is Single count are = record { tag = tags.Leaf leaves.FloatingPoint; number = refl; read = leaf_read leaves.FloatingPoint count _ (spec_float_type Single) 8 (float_read Single); counted = rw are refl; back = refl }
float_type_is Double count are = record { tag = tags.Leaf leaves.FloatingPoint; number = refl; read = leaf_read leaves.FloatingPoint count _ (spec_float_type Double) 8 (float_read Double); counted = rw are refl; back = refl }

some_by : (type : TypeTree) (count : ℕ) (precision : Option Precision) → spec_precision_of type ≡ precision → is_some precision ≡ true → count ≡ 0 → TypeIs type count
some_by type count None is some are = absurd (cc some)
some_by type count (Some p) is some are = subst (λ (t : TypeTree). TypeIs t count) (sym (float_is type p is)) (float_type_is p count are)

pub type_is : (type : TypeTree) (count : ℕ) → count ≡ length (spec_children_of type) → spec_check_type type ≡ Ok tt → TypeFits type → TypeIs type count
unfolding spec_type_number type_bytes type_cost
type_is types.null count are form fits = record { tag = tags.Leaf leaves.Null; number = refl; read = leaf_read leaves.Null count _ types.null 8 (bare_read types.null); counted = rw are refl; back = refl }
type_is types.boolean count are form fits = record { tag = tags.Leaf leaves.Bool; number = refl; read = leaf_read leaves.Bool count _ types.boolean 8 (bare_read types.boolean); counted = rw are refl; back = refl }
type_is types.int8 count are form fits = record { tag = tags.Leaf leaves.Int; number = refl; read = leaf_read leaves.Int count _ types.int8 8 (integer_read Int8 8 1 (omega arith) (omega arith) refl); counted = rw are refl; back = refl }
type_is types.int16 count are form fits = record { tag = tags.Leaf leaves.Int; number = refl; read = leaf_read leaves.Int count _ types.int16 8 (integer_read Int16 16 1 (omega arith) (omega arith) refl); counted = rw are refl; back = refl }
type_is types.int32 count are form fits = record { tag = tags.Leaf leaves.Int; number = refl; read = leaf_read leaves.Int count _ types.int32 8 (integer_read Int32 32 1 (omega arith) (omega arith) refl); counted = rw are refl; back = refl }
type_is types.int64 count are form fits = record { tag = tags.Leaf leaves.Int; number = refl; read = leaf_read leaves.Int count _ types.int64 8 (integer_read Int64 64 1 (omega arith) (omega arith) refl); counted = rw are refl; back = refl }
type_is types.uint8 count are form fits = record { tag = tags.Leaf leaves.Int; number = refl; read = leaf_read leaves.Int count _ types.uint8 8 (integer_read UInt8 8 0 (omega arith) (omega arith) refl); counted = rw are refl; back = refl }
type_is types.uint16 count are form fits = record { tag = tags.Leaf leaves.Int; number = refl; read = leaf_read leaves.Int count _ types.uint16 8 (integer_read UInt16 16 0 (omega arith) (omega arith) refl); counted = rw are refl; back = refl }
type_is types.uint32 count are form fits = record { tag = tags.Leaf leaves.Int; number = refl; read = leaf_read leaves.Int count _ types.uint32 8 (integer_read UInt32 32 0 (omega arith) (omega arith) refl); counted = rw are refl; back = refl }
type_is types.uint64 count are form fits = record { tag = tags.Leaf leaves.Int; number = refl; read = leaf_read leaves.Int count _ types.uint64 8 (integer_read UInt64 64 0 (omega arith) (omega arith) refl); counted = rw are refl; back = refl }
type_is (types.timestamp unit zone) count are form fits = record { tag = tags.Leaf leaves.Timestamp; number = refl; read = leaf_read leaves.Timestamp count _ (types.timestamp unit zone) (zone_cost zone) (timestamp_read unit zone fits); counted = rw are refl; back = refl }
type_is types.date32 count are form fits = record { tag = tags.Leaf leaves.Date; number = refl; read = leaf_read leaves.Date count _ types.date32 8 (date_read 0 types.date32 (omega arith) refl); counted = rw are refl; back = refl }
type_is types.date64 count are form fits = record { tag = tags.Leaf leaves.Date; number = refl; read = leaf_read leaves.Date count _ types.date64 8 (date_read 1 types.date64 (omega arith) refl); counted = rw are refl; back = refl }
type_is (types.time32 unit) count are form fits = record { tag = tags.Leaf leaves.Time; number = refl; read = leaf_read leaves.Time count _ (types.time32 unit) 8 (time_read unit 32 (types.time32 unit) (omega arith) (rw (passes (spec_is_coarse unit) reasons.Unit form) refl)); counted = rw are refl; back = refl }
type_is (types.time64 unit) count are form fits = record { tag = tags.Leaf leaves.Time; number = refl; read = leaf_read leaves.Time count _ (types.time64 unit) 8 (time_read unit 64 (types.time64 unit) (omega arith) (rw (not_back (spec_is_coarse unit) (passes (not (spec_is_coarse unit)) reasons.Unit form)) refl)); counted = rw are refl; back = refl }
type_is (types.duration unit) count are form fits = record { tag = tags.Leaf leaves.Duration; number = refl; read = leaf_read leaves.Duration count _ (types.duration unit) 8 (duration_read unit); counted = rw are refl; back = refl }
type_is (types.interval unit) count are form fits = record { tag = tags.Leaf leaves.Interval; number = refl; read = leaf_read leaves.Interval count _ (types.interval unit) 8 (interval_read unit); counted = rw are refl; back = refl }
type_is types.binary count are form fits = record { tag = tags.Leaf leaves.Binary; number = refl; read = leaf_read leaves.Binary count _ types.binary 8 (bare_read types.binary); counted = rw are refl; back = refl }
type_is (types.fixed_size_binary size) count are form fits = record { tag = tags.Leaf leaves.FixedSizeBinary; number = refl; read = leaf_read leaves.FixedSizeBinary count _ (types.fixed_size_binary size) 8 (size_read size (sized size form).0 (sized size form).1); counted = rw are refl; back = refl }
type_is types.large_binary count are form fits = record { tag = tags.Leaf leaves.LargeBinary; number = refl; read = leaf_read leaves.LargeBinary count _ types.large_binary 8 (bare_read types.large_binary); counted = rw are refl; back = refl }
type_is types.utf8 count are form fits = record { tag = tags.Leaf leaves.Utf8; number = refl; read = leaf_read leaves.Utf8 count _ types.utf8 8 (bare_read types.utf8); counted = rw are refl; back = refl }
type_is types.large_utf8 count are form fits = record { tag = tags.Leaf leaves.LargeUtf8; number = refl; read = leaf_read leaves.LargeUtf8 count _ types.large_utf8 8 (bare_read types.large_utf8); counted = rw are refl; back = refl }
type_is (types.decimal digits after) count are form fits = record { tag = tags.Leaf leaves.Decimal; number = refl; read = leaf_read leaves.Decimal count _ (types.decimal digits after) 8 (let d = decimal_is most_digits digits after (omega arith) form in decimal_read digits after d.fits d.few d.small); counted = rw are refl; back = refl }
type_is (types.decimal256 digits after) count are form fits = record { tag = tags.Leaf leaves.Decimal; number = refl; read = leaf_read leaves.Decimal count _ (types.decimal256 digits after) 8 (let d = decimal_is most_digits256 digits after (omega arith) form in decimal256_read digits after d.fits d.few d.small); counted = rw are refl; back = refl }
type_is types.float16 count are form fits = absurd (cc form)
type_is types.float32 count are form fits = absurd (cc form)
type_is types.float64 count are form fits = absurd (cc form)
type_is (types.dictionary a b c) count are form fits = absurd (cc form)
type_is (types.extension a b c) count are form fits = some_by (types.extension a b c) count (spec_precision_of (types.extension a b c)) refl (passes (spec_is_float (types.extension a b c)) reasons.Type form) are
type_is (types.list f) count are form fits = record { tag = tags.List; number = refl; read = bare_read list; counted = rw are refl; back = refl }
type_is (types.large_list f) count are form fits = record { tag = tags.LargeList; number = refl; read = bare_read large_list; counted = rw are refl; back = refl }
type_is (types.fixed_size_list f size) count are form fits = record { tag = tags.FixedSizeList; number = refl; read = list_size_read size (sized size form).0 (sized size form).1; counted = rw are refl; back = refl }
type_is (types.struct fs) count are form fits = record {
  tag = tags.Struct;
  number = refl;
  read = bare_read struct;
  counted = rw (are, trees_counted fs) (passes (not (eqb (count_fields fs) 0)) reasons.Type form);
  back = ap (λ (l : FieldTrees). Ok (types.struct l)) (trees_back fs);
}
type_is (types.union fs ids mode) count are form fits =
    let same : count ≡ count_fields fs = are ∙ trees_counted fs in
    record {
      tag = tags.Union;
      number = refl;
      read = union_read ids mode count (rw same (passes (spec_are_union_ids ids (count_fields fs)) reasons.Type form));
      counted = refl;
      back = ap (λ (l : FieldTrees). Ok (types.union l ids mode)) (trees_back fs);
    }
type_is (types.map f sorted) count are form fits = record {
  tag = tags.Map;
  number = refl;
  read = map_read sorted;
  counted = rw are refl;
  back = rw (passes (is_pair (field_type f)) reasons.Type form) refl;
}

-- the cost of reading a type is at most the number of its bytes
pub type_pays : (type : TypeTree) (count : ℕ) → TypeIs type count → spec_check_type type ≡ Ok tt → type_cost type ≤ length (type_bytes type)
unfolding type_cost type_bytes zone_cost timestamp_bytes ids_cost union_bytes no_field one_field two_fields three_fields u32_bytes
type_pays (types.timestamp unit None) count is form = omega arith
type_pays (types.timestamp unit (Some zone)) count is form = omega (arith, string_long zone)
type_pays (types.union fs None mode) count is form = omega arith
type_pays (types.union fs (Some ids) mode) count is form = omega (arith, ids_long ids (are_few ids (count_fields fs) (passes (spec_are_union_ids (Some ids) (count_fields fs)) reasons.Type form)).1)
type_pays type count is form = omega (arith, is.read.long)
