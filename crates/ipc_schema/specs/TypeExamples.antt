-- Worked examples: the bytes of fields of another writer, which omits defaults, one for each unit and width.
use Rattle.std.specs.Prelude.{◌≡◌, ℕ, ◌+◌, ◌^◌, ◌<◌, ◌≤◌, true, List, [], ◌∷◌, None, Some, Ok, Err, refl}
use Rattle.std.specs.Str.{is_utf8}
use Rattle.std.proofs.Common.{rules, arith}
use Rattle.std.proofs.lemmas.Str.{IsUtf8-from_ascii, is_utf8-from_IsUtf8}
use Rattle.nest_memory.specs.TypeTree as types
use Rattle.nest_memory.specs.TypeTree.{Letters, TypeTree, field}
use Rattle.nest_memory.specs.declared.datatypes.TimeUnit.TheVariants.{Second, Millisecond, Microsecond, Nanosecond}
use Rattle.nest_memory.specs.declared.datatypes.IntervalUnit.TheVariants.{YearMonth, DayTime, MonthDayNano}
use Rattle.ipc_flatbuf.specs.declared.error.IpcReadError.TheVariants.{TypeRange}
use Rattle.ipc_flatbuf.specs.declared.error.IpcWriteError.TheVariants as reasons
use Rattle.ipc_flatbuf.specs.Flatbuffers.{spec_offset_at, spec_back_from, spec_table_at, spec_field_position, spec_charge_budget, spec_read_table, spec_read_vector, spec_read_string, tables_at, spec_items_at, spec_str_at}
use Rattle.ipc_schema.specs.Types.{most_digits, most_digits256, spec_decimal_of, spec_decimal_at, spec_date_at, spec_time_at, spec_zone_at, spec_timestamp_at, spec_interval_at, spec_duration_at, spec_fixed_size_binary_at}
use Rattle.ipc_schema.specs.Dictionaries.{no_dictionaries, progress}
use Rattle.ipc_schema.specs.FieldVectors.{tables_in_turn}
use Rattle.ipc_schema.specs.Schemas.{spec_metadata_at, spec_field_at}
use Rattle.ipc_schema.specs.WriteChecks.{spec_check_type}

-- the field at a position has this name and type, is nullable and without metadata, and leaves this budget of 200
abbrev pub HasField : List ℕ → ℕ → Letters → TypeTree → ℕ → Type 0
HasField bytes position name type left = spec_field_at 64 bytes position (progress 200 no_dictionaries) ≡ Ok (field name type true [], progress left no_dictionaries)

-- ---- strings

text_a : is_utf8 (97 ∷ []) ≡ true
text_a = is_utf8-from_IsUtf8 (97 ∷ []) (IsUtf8-from_ascii (97 ∷ []) (search (rules, arith)))

text_b : is_utf8 (98 ∷ []) ≡ true
text_b = is_utf8-from_IsUtf8 (98 ∷ []) (IsUtf8-from_ascii (98 ∷ []) (search (rules, arith)))

text_c : is_utf8 (99 ∷ []) ≡ true
text_c = is_utf8-from_IsUtf8 (99 ∷ []) (IsUtf8-from_ascii (99 ∷ []) (search (rules, arith)))

text_d4 : is_utf8 (100 ∷ 52 ∷ []) ≡ true
text_d4 = is_utf8-from_IsUtf8 (100 ∷ 52 ∷ []) (IsUtf8-from_ascii (100 ∷ 52 ∷ []) (search (rules, arith)))

text_d8 : is_utf8 (100 ∷ 56 ∷ []) ≡ true
text_d8 = is_utf8-from_IsUtf8 (100 ∷ 56 ∷ []) (IsUtf8-from_ascii (100 ∷ 56 ∷ []) (search (rules, arith)))

text_ts : is_utf8 (116 ∷ 115 ∷ []) ≡ true
text_ts = is_utf8-from_IsUtf8 (116 ∷ 115 ∷ []) (IsUtf8-from_ascii (116 ∷ 115 ∷ []) (search (rules, arith)))

text_tm : is_utf8 (116 ∷ 109 ∷ []) ≡ true
text_tm = is_utf8-from_IsUtf8 (116 ∷ 109 ∷ []) (IsUtf8-from_ascii (116 ∷ 109 ∷ []) (search (rules, arith)))

text_tu : is_utf8 (116 ∷ 117 ∷ []) ≡ true
text_tu = is_utf8-from_IsUtf8 (116 ∷ 117 ∷ []) (IsUtf8-from_ascii (116 ∷ 117 ∷ []) (search (rules, arith)))

text_tn : is_utf8 (116 ∷ 110 ∷ []) ≡ true
text_tn = is_utf8-from_IsUtf8 (116 ∷ 110 ∷ []) (IsUtf8-from_ascii (116 ∷ 110 ∷ []) (search (rules, arith)))

text_s : is_utf8 (115 ∷ []) ≡ true
text_s = is_utf8-from_IsUtf8 (115 ∷ []) (IsUtf8-from_ascii (115 ∷ []) (search (rules, arith)))

text_m : is_utf8 (109 ∷ []) ≡ true
text_m = is_utf8-from_IsUtf8 (109 ∷ []) (IsUtf8-from_ascii (109 ∷ []) (search (rules, arith)))

text_u : is_utf8 (117 ∷ []) ≡ true
text_u = is_utf8-from_IsUtf8 (117 ∷ []) (IsUtf8-from_ascii (117 ∷ []) (search (rules, arith)))

text_UTC : is_utf8 (85 ∷ 84 ∷ 67 ∷ []) ≡ true
text_UTC = is_utf8-from_IsUtf8 (85 ∷ 84 ∷ 67 ∷ []) (IsUtf8-from_ascii (85 ∷ 84 ∷ 67 ∷ []) (search (rules, arith)))

text_n : is_utf8 (110 ∷ []) ≡ true
text_n = is_utf8-from_IsUtf8 (110 ∷ []) (IsUtf8-from_ascii (110 ∷ []) (search (rules, arith)))

text_Europe_Oslo : is_utf8 (69 ∷ 117 ∷ 114 ∷ 111 ∷ 112 ∷ 101 ∷ 47 ∷ 79 ∷ 115 ∷ 108 ∷ 111 ∷ []) ≡ true
text_Europe_Oslo = is_utf8-from_IsUtf8 (69 ∷ 117 ∷ 114 ∷ 111 ∷ 112 ∷ 101 ∷ 47 ∷ 79 ∷ 115 ∷ 108 ∷ 111 ∷ []) (IsUtf8-from_ascii (69 ∷ 117 ∷ 114 ∷ 111 ∷ 112 ∷ 101 ∷ 47 ∷ 79 ∷ 115 ∷ 108 ∷ 111 ∷ []) (search (rules, arith)))

text_ds : is_utf8 (100 ∷ 115 ∷ []) ≡ true
text_ds = is_utf8-from_IsUtf8 (100 ∷ 115 ∷ []) (IsUtf8-from_ascii (100 ∷ 115 ∷ []) (search (rules, arith)))

text_dm : is_utf8 (100 ∷ 109 ∷ []) ≡ true
text_dm = is_utf8-from_IsUtf8 (100 ∷ 109 ∷ []) (IsUtf8-from_ascii (100 ∷ 109 ∷ []) (search (rules, arith)))

text_du : is_utf8 (100 ∷ 117 ∷ []) ≡ true
text_du = is_utf8-from_IsUtf8 (100 ∷ 117 ∷ []) (IsUtf8-from_ascii (100 ∷ 117 ∷ []) (search (rules, arith)))

text_dn : is_utf8 (100 ∷ 110 ∷ []) ≡ true
text_dn = is_utf8-from_IsUtf8 (100 ∷ 110 ∷ []) (IsUtf8-from_ascii (100 ∷ 110 ∷ []) (search (rules, arith)))

text_y : is_utf8 (121 ∷ []) ≡ true
text_y = is_utf8-from_IsUtf8 (121 ∷ []) (IsUtf8-from_ascii (121 ∷ []) (search (rules, arith)))

text_d : is_utf8 (100 ∷ []) ≡ true
text_d = is_utf8-from_IsUtf8 (100 ∷ []) (IsUtf8-from_ascii (100 ∷ []) (search (rules, arith)))

no_text : is_utf8 ([]) ≡ true
no_text = is_utf8-from_IsUtf8 ([]) (IsUtf8-from_ascii ([]) (search (rules, arith)))

-- ---- 128-bit and 256-bit decimals

abbrev pub decimals_metadata : List ℕ
decimals_metadata =
    16 ∷ 0 ∷ 0 ∷ 0 ∷ 10 ∷ 0 ∷ 11 ∷ 0 ∷ 8 ∷ 0 ∷ 10 ∷ 0 ∷ 4 ∷ 0 ∷ 0 ∷ 0 ∷ 12 ∷ 0 ∷ 0 ∷ 0 ∷ 16 ∷ 0 ∷ 0 ∷ 0 ∷ 4 ∷ 0 ∷ 1 ∷ 0 ∷ 8 ∷ 0 ∷ 8 ∷ 0 ∷ 0 ∷ 0 ∷ 4 ∷ 0 ∷ 8 ∷ 0 ∷ 0 ∷ 0 ∷ 4 ∷ 0 ∷ 0 ∷ 0 ∷ 3 ∷ 0 ∷ 0 ∷ 0 ∷ 28 ∷ 0 ∷ 0 ∷ 0 ∷ 76 ∷ 0 ∷ 0 ∷ 0 ∷ 128 ∷ 0 ∷ 0 ∷ 0 ∷ 16 ∷ 0 ∷ 18 ∷ 0 ∷ 4 ∷ 0 ∷ 16 ∷ 0 ∷ 17 ∷ 0 ∷ 8 ∷ 0 ∷ 0 ∷ 0 ∷ 12 ∷ 0 ∷ 16 ∷ 0 ∷ 0 ∷ 0 ∷ 16 ∷ 0 ∷ 0 ∷ 0 ∷ 28 ∷ 0 ∷ 0 ∷ 0 ∷ 36 ∷ 0 ∷ 0 ∷ 0 ∷ 1 ∷ 7 ∷ 0 ∷ 0 ∷ 1 ∷ 0 ∷ 0 ∷ 0 ∷ 97 ∷ 0 ∷ 8 ∷ 0 ∷ 12 ∷ 0 ∷ 4 ∷ 0 ∷ 8 ∷ 0 ∷ 0 ∷ 0 ∷ 10 ∷ 0 ∷ 0 ∷ 0 ∷ 38 ∷ 0 ∷ 0 ∷ 0 ∷ 2 ∷ 0 ∷ 0 ∷ 0 ∷ 0 ∷ 0 ∷ 0 ∷ 0 ∷ 68 ∷ 0 ∷ 0 ∷ 0 ∷ 16 ∷ 0 ∷ 0 ∷ 0 ∷ 28 ∷ 0 ∷ 0 ∷ 0 ∷ 40 ∷ 0 ∷ 0 ∷ 0 ∷ 1 ∷ 7 ∷ 0 ∷ 0 ∷ 1 ∷ 0 ∷ 0 ∷ 0 ∷ 98 ∷ 0 ∷ 10 ∷ 0 ∷ 16 ∷ 0 ∷ 4 ∷ 0 ∷ 8 ∷ 0 ∷ 12 ∷ 0 ∷ 10 ∷ 0 ∷ 0 ∷ 0 ∷ 76 ∷ 0 ∷ 0 ∷ 0 ∷ 5 ∷ 0 ∷ 0 ∷ 0 ∷ 0 ∷ 1 ∷ 0 ∷ 0 ∷ 0 ∷ 0 ∷ 0 ∷ 0 ∷ 124 ∷ 0 ∷ 0 ∷ 0 ∷ 16 ∷ 0 ∷ 0 ∷ 0 ∷ 24 ∷ 0 ∷ 0 ∷ 0 ∷ 28 ∷ 0 ∷ 0 ∷ 0 ∷ 1 ∷ 7 ∷ 0 ∷ 0 ∷ 1 ∷ 0 ∷ 0 ∷ 0 ∷ 99 ∷ 0 ∷ 6 ∷ 0 ∷ 8 ∷ 0 ∷ 4 ∷ 0 ∷ 6 ∷ 0 ∷ 0 ∷ 0 ∷ 5 ∷ 0 ∷ 0 ∷ 0 ∷ 0 ∷ 0 ∷ 0 ∷ 0 ∷ 0 ∷ 0 ∷ 0 ∷ 0 ∷ []

decimals_0 : HasField decimals_metadata 76 (97 ∷ []) (types.decimal 38 2) 175
unfolding spec_offset_at spec_back_from spec_table_at spec_field_position spec_charge_budget spec_read_table spec_read_vector spec_read_string spec_items_at spec_str_at spec_metadata_at spec_decimal_at spec_field_at tables_at tables_in_turn
decimals_0 = rw (text_a) refl

decimals_1 : HasField decimals_metadata 128 (98 ∷ []) (types.decimal256 76 5) 175
unfolding spec_offset_at spec_back_from spec_table_at spec_field_position spec_charge_budget spec_read_table spec_read_vector spec_read_string spec_items_at spec_str_at spec_metadata_at spec_decimal_at spec_field_at tables_at tables_in_turn
decimals_1 = rw (text_b) refl

decimals_2 : HasField decimals_metadata 184 (99 ∷ []) (types.decimal 5 0) 175
unfolding spec_offset_at spec_back_from spec_table_at spec_field_position spec_charge_budget spec_read_table spec_read_vector spec_read_string spec_items_at spec_str_at spec_metadata_at spec_decimal_at spec_field_at tables_at tables_in_turn
decimals_2 = rw (text_c) refl

abbrev pub AreDecimals : Type 0
AreDecimals = HasField decimals_metadata 76 (97 ∷ []) (types.decimal 38 2) 175
    × HasField decimals_metadata 128 (98 ∷ []) (types.decimal256 76 5) 175
    × HasField decimals_metadata 184 (99 ∷ []) (types.decimal 5 0) 175

pub decimals : AreDecimals
decimals = (decimals_0, decimals_1, decimals_2)

-- each number of 38 digits fits in 128 bits with a sign, not each of 39, and so for 256 bits
abbrev pub AreMostDigits : Type 0
AreMostDigits = (10 ^ most_digits ≤ 2 ^ 127) × (2 ^ 127 < 10 ^ (most_digits + 1)) × (10 ^ most_digits256 ≤ 2 ^ 255) × (2 ^ 255 < 10 ^ (most_digits256 + 1))

pub most_digits_are : AreMostDigits
most_digits_are = (omega arith, omega arith, omega arith, omega arith)

-- the least and the greatest precision, and those beside them
abbrev pub ArePrecisions : Type 0
ArePrecisions = (spec_decimal_of 0 0 128 ≡ Err TypeRange) × (spec_decimal_of 1 0 128 ≡ Ok (types.decimal 1 0)) × (spec_decimal_of 39 2 128 ≡ Err TypeRange) × (spec_decimal_of 39 2 256 ≡ Ok (types.decimal256 39 2)) × (spec_decimal_of 77 2 256 ≡ Err TypeRange)
    × (spec_check_type (types.decimal 38 2) ≡ Ok tt) × (spec_check_type (types.decimal 39 2) ≡ Err reasons.Type) × (spec_check_type (types.decimal256 77 2) ≡ Err reasons.Type) × (spec_check_type (types.decimal256 0 0) ≡ Err reasons.Type)

pub precisions : ArePrecisions
precisions = (refl, refl, refl, refl, refl, refl, refl, refl, refl)

-- ---- dates and times of each unit

abbrev pub dates_times_metadata : List ℕ
dates_times_metadata =
    16 ∷ 0 ∷ 0 ∷ 0 ∷ 10 ∷ 0 ∷ 11 ∷ 0 ∷ 8 ∷ 0 ∷ 10 ∷ 0 ∷ 4 ∷ 0 ∷ 0 ∷ 0 ∷ 12 ∷ 0 ∷ 0 ∷ 0 ∷ 16 ∷ 0 ∷ 0 ∷ 0 ∷ 4 ∷ 0 ∷ 1 ∷ 0 ∷ 8 ∷ 0 ∷ 8 ∷ 0 ∷ 0 ∷ 0 ∷ 4 ∷ 0 ∷ 8 ∷ 0 ∷ 0 ∷ 0 ∷ 4 ∷ 0 ∷ 0 ∷ 0 ∷ 6 ∷ 0 ∷ 0 ∷ 0 ∷ 40 ∷ 0 ∷ 0 ∷ 0 ∷ 84 ∷ 0 ∷ 0 ∷ 0 ∷ 120 ∷ 0 ∷ 0 ∷ 0 ∷ 156 ∷ 0 ∷ 0 ∷ 0 ∷ 188 ∷ 0 ∷ 0 ∷ 0 ∷ 236 ∷ 0 ∷ 0 ∷ 0 ∷ 16 ∷ 0 ∷ 18 ∷ 0 ∷ 4 ∷ 0 ∷ 16 ∷ 0 ∷ 17 ∷ 0 ∷ 8 ∷ 0 ∷ 0 ∷ 0 ∷ 12 ∷ 0 ∷ 16 ∷ 0 ∷ 0 ∷ 0 ∷ 16 ∷ 0 ∷ 0 ∷ 0 ∷ 28 ∷ 0 ∷ 0 ∷ 0 ∷ 32 ∷ 0 ∷ 0 ∷ 0 ∷ 1 ∷ 8 ∷ 0 ∷ 0 ∷ 2 ∷ 0 ∷ 0 ∷ 0 ∷ 100 ∷ 52 ∷ 0 ∷ 0 ∷ 6 ∷ 0 ∷ 6 ∷ 0 ∷ 4 ∷ 0 ∷ 0 ∷ 0 ∷ 8 ∷ 0 ∷ 0 ∷ 0 ∷ 0 ∷ 0 ∷ 0 ∷ 0 ∷ 0 ∷ 0 ∷ 0 ∷ 0 ∷ 64 ∷ 0 ∷ 0 ∷ 0 ∷ 16 ∷ 0 ∷ 0 ∷ 0 ∷ 24 ∷ 0 ∷ 0 ∷ 0 ∷ 24 ∷ 0 ∷ 0 ∷ 0 ∷ 1 ∷ 8 ∷ 0 ∷ 0 ∷ 2 ∷ 0 ∷ 0 ∷ 0 ∷ 100 ∷ 56 ∷ 0 ∷ 0 ∷ 4 ∷ 0 ∷ 4 ∷ 0 ∷ 4 ∷ 0 ∷ 0 ∷ 0 ∷ 0 ∷ 0 ∷ 0 ∷ 0 ∷ 104 ∷ 0 ∷ 0 ∷ 0 ∷ 16 ∷ 0 ∷ 0 ∷ 0 ∷ 20 ∷ 0 ∷ 0 ∷ 0 ∷ 24 ∷ 0 ∷ 0 ∷ 0 ∷ 1 ∷ 9 ∷ 0 ∷ 0 ∷ 2 ∷ 0 ∷ 0 ∷ 0 ∷ 116 ∷ 115 ∷ 0 ∷ 0 ∷ 88 ∷ 0 ∷ 0 ∷ 0 ∷ 0 ∷ 0 ∷ 0 ∷ 0 ∷ 0 ∷ 0 ∷ 0 ∷ 0 ∷ 144 ∷ 0 ∷ 0 ∷ 0 ∷ 16 ∷ 0 ∷ 0 ∷ 0 ∷ 20 ∷ 0 ∷ 0 ∷ 0 ∷ 20 ∷ 0 ∷ 0 ∷ 0 ∷ 1 ∷ 9 ∷ 0 ∷ 0 ∷ 2 ∷ 0 ∷ 0 ∷ 0 ∷ 116 ∷ 109 ∷ 0 ∷ 0 ∷ 80 ∷ 0 ∷ 0 ∷ 0 ∷ 0 ∷ 0 ∷ 0 ∷ 0 ∷ 180 ∷ 0 ∷ 0 ∷ 0 ∷ 16 ∷ 0 ∷ 0 ∷ 0 ∷ 28 ∷ 0 ∷ 0 ∷ 0 ∷ 36 ∷ 0 ∷ 0 ∷ 0 ∷ 1 ∷ 9 ∷ 0 ∷ 0 ∷ 2 ∷ 0 ∷ 0 ∷ 0 ∷ 116 ∷ 117 ∷ 0 ∷ 0 ∷ 8 ∷ 0 ∷ 10 ∷ 0 ∷ 8 ∷ 0 ∷ 4 ∷ 0 ∷ 8 ∷ 0 ∷ 0 ∷ 0 ∷ 64 ∷ 0 ∷ 0 ∷ 0 ∷ 2 ∷ 0 ∷ 0 ∷ 0 ∷ 0 ∷ 0 ∷ 0 ∷ 0 ∷ 232 ∷ 0 ∷ 0 ∷ 0 ∷ 16 ∷ 0 ∷ 0 ∷ 0 ∷ 20 ∷ 0 ∷ 0 ∷ 0 ∷ 28 ∷ 0 ∷ 0 ∷ 0 ∷ 1 ∷ 9 ∷ 0 ∷ 0 ∷ 2 ∷ 0 ∷ 0 ∷ 0 ∷ 116 ∷ 110 ∷ 0 ∷ 0 ∷ 52 ∷ 0 ∷ 0 ∷ 0 ∷ 64 ∷ 0 ∷ 0 ∷ 0 ∷ 3 ∷ 0 ∷ 0 ∷ 0 ∷ 0 ∷ 0 ∷ 0 ∷ 0 ∷ 0 ∷ 0 ∷ 0 ∷ 0 ∷ []

dates_times_0 : HasField dates_times_metadata 88 (100 ∷ 52 ∷ []) types.date32 174
unfolding spec_offset_at spec_back_from spec_table_at spec_field_position spec_charge_budget spec_read_table spec_read_vector spec_read_string spec_items_at spec_str_at spec_metadata_at spec_date_at spec_time_at spec_field_at tables_at tables_in_turn
dates_times_0 = rw (text_d4) refl

dates_times_1 : HasField dates_times_metadata 136 (100 ∷ 56 ∷ []) types.date64 174
unfolding spec_offset_at spec_back_from spec_table_at spec_field_position spec_charge_budget spec_read_table spec_read_vector spec_read_string spec_items_at spec_str_at spec_metadata_at spec_date_at spec_time_at spec_field_at tables_at tables_in_turn
dates_times_1 = rw (text_d8) refl

dates_times_2 : HasField dates_times_metadata 176 (116 ∷ 115 ∷ []) (types.time32 Second) 174
unfolding spec_offset_at spec_back_from spec_table_at spec_field_position spec_charge_budget spec_read_table spec_read_vector spec_read_string spec_items_at spec_str_at spec_metadata_at spec_date_at spec_time_at spec_field_at tables_at tables_in_turn
dates_times_2 = rw (text_ts) refl

dates_times_3 : HasField dates_times_metadata 216 (116 ∷ 109 ∷ []) (types.time32 Millisecond) 174
unfolding spec_offset_at spec_back_from spec_table_at spec_field_position spec_charge_budget spec_read_table spec_read_vector spec_read_string spec_items_at spec_str_at spec_metadata_at spec_date_at spec_time_at spec_field_at tables_at tables_in_turn
dates_times_3 = rw (text_tm) refl

dates_times_4 : HasField dates_times_metadata 252 (116 ∷ 117 ∷ []) (types.time64 Microsecond) 174
unfolding spec_offset_at spec_back_from spec_table_at spec_field_position spec_charge_budget spec_read_table spec_read_vector spec_read_string spec_items_at spec_str_at spec_metadata_at spec_date_at spec_time_at spec_field_at tables_at tables_in_turn
dates_times_4 = rw (text_tu) refl

dates_times_5 : HasField dates_times_metadata 304 (116 ∷ 110 ∷ []) (types.time64 Nanosecond) 174
unfolding spec_offset_at spec_back_from spec_table_at spec_field_position spec_charge_budget spec_read_table spec_read_vector spec_read_string spec_items_at spec_str_at spec_metadata_at spec_date_at spec_time_at spec_field_at tables_at tables_in_turn
dates_times_5 = rw (text_tn) refl

abbrev pub AreTimes : Type 0
AreTimes = HasField dates_times_metadata 88 (100 ∷ 52 ∷ []) types.date32 174
    × HasField dates_times_metadata 136 (100 ∷ 56 ∷ []) types.date64 174
    × HasField dates_times_metadata 176 (116 ∷ 115 ∷ []) (types.time32 Second) 174
    × HasField dates_times_metadata 216 (116 ∷ 109 ∷ []) (types.time32 Millisecond) 174
    × HasField dates_times_metadata 252 (116 ∷ 117 ∷ []) (types.time64 Microsecond) 174
    × HasField dates_times_metadata 304 (116 ∷ 110 ∷ []) (types.time64 Nanosecond) 174

pub dates_times : AreTimes
dates_times = (dates_times_0, dates_times_1, dates_times_2, dates_times_3, dates_times_4, dates_times_5)

-- ---- timestamps with and without a time zone, and durations, of each unit

abbrev pub timestamps_durations_metadata : List ℕ
timestamps_durations_metadata =
    16 ∷ 0 ∷ 0 ∷ 0 ∷ 10 ∷ 0 ∷ 11 ∷ 0 ∷ 8 ∷ 0 ∷ 10 ∷ 0 ∷ 4 ∷ 0 ∷ 0 ∷ 0 ∷ 12 ∷ 0 ∷ 0 ∷ 0 ∷ 16 ∷ 0 ∷ 0 ∷ 0 ∷ 4 ∷ 0 ∷ 1 ∷ 0 ∷ 8 ∷ 0 ∷ 8 ∷ 0 ∷ 0 ∷ 0 ∷ 4 ∷ 0 ∷ 8 ∷ 0 ∷ 0 ∷ 0 ∷ 4 ∷ 0 ∷ 0 ∷ 0 ∷ 8 ∷ 0 ∷ 0 ∷ 0 ∷ 48 ∷ 0 ∷ 0 ∷ 0 ∷ 84 ∷ 0 ∷ 0 ∷ 0 ∷ 140 ∷ 0 ∷ 0 ∷ 0 ∷ 188 ∷ 0 ∷ 0 ∷ 0 ∷ 244 ∷ 0 ∷ 0 ∷ 0 ∷ 32 ∷ 1 ∷ 0 ∷ 0 ∷ 64 ∷ 1 ∷ 0 ∷ 0 ∷ 100 ∷ 1 ∷ 0 ∷ 0 ∷ 16 ∷ 0 ∷ 18 ∷ 0 ∷ 4 ∷ 0 ∷ 16 ∷ 0 ∷ 17 ∷ 0 ∷ 8 ∷ 0 ∷ 0 ∷ 0 ∷ 12 ∷ 0 ∷ 16 ∷ 0 ∷ 0 ∷ 0 ∷ 16 ∷ 0 ∷ 0 ∷ 0 ∷ 24 ∷ 0 ∷ 0 ∷ 0 ∷ 24 ∷ 0 ∷ 0 ∷ 0 ∷ 1 ∷ 10 ∷ 0 ∷ 0 ∷ 1 ∷ 0 ∷ 0 ∷ 0 ∷ 115 ∷ 0 ∷ 4 ∷ 0 ∷ 4 ∷ 0 ∷ 0 ∷ 0 ∷ 6 ∷ 0 ∷ 0 ∷ 0 ∷ 0 ∷ 0 ∷ 0 ∷ 0 ∷ 56 ∷ 0 ∷ 0 ∷ 0 ∷ 16 ∷ 0 ∷ 0 ∷ 0 ∷ 28 ∷ 0 ∷ 0 ∷ 0 ∷ 44 ∷ 0 ∷ 0 ∷ 0 ∷ 1 ∷ 10 ∷ 0 ∷ 0 ∷ 1 ∷ 0 ∷ 0 ∷ 0 ∷ 109 ∷ 0 ∷ 8 ∷ 0 ∷ 10 ∷ 0 ∷ 8 ∷ 0 ∷ 4 ∷ 0 ∷ 0 ∷ 0 ∷ 10 ∷ 0 ∷ 0 ∷ 0 ∷ 8 ∷ 0 ∷ 0 ∷ 0 ∷ 1 ∷ 0 ∷ 0 ∷ 0 ∷ 0 ∷ 0 ∷ 0 ∷ 0 ∷ 0 ∷ 0 ∷ 0 ∷ 0 ∷ 0 ∷ 0 ∷ 0 ∷ 0 ∷ 116 ∷ 0 ∷ 0 ∷ 0 ∷ 16 ∷ 0 ∷ 0 ∷ 0 ∷ 20 ∷ 0 ∷ 0 ∷ 0 ∷ 36 ∷ 0 ∷ 0 ∷ 0 ∷ 1 ∷ 10 ∷ 0 ∷ 0 ∷ 1 ∷ 0 ∷ 0 ∷ 0 ∷ 117 ∷ 0 ∷ 0 ∷ 0 ∷ 62 ∷ 0 ∷ 0 ∷ 0 ∷ 8 ∷ 0 ∷ 0 ∷ 0 ∷ 2 ∷ 0 ∷ 0 ∷ 0 ∷ 3 ∷ 0 ∷ 0 ∷ 0 ∷ 85 ∷ 84 ∷ 67 ∷ 0 ∷ 0 ∷ 0 ∷ 0 ∷ 0 ∷ 168 ∷ 0 ∷ 0 ∷ 0 ∷ 16 ∷ 0 ∷ 0 ∷ 0 ∷ 20 ∷ 0 ∷ 0 ∷ 0 ∷ 44 ∷ 0 ∷ 0 ∷ 0 ∷ 1 ∷ 10 ∷ 0 ∷ 0 ∷ 1 ∷ 0 ∷ 0 ∷ 0 ∷ 110 ∷ 0 ∷ 0 ∷ 0 ∷ 114 ∷ 0 ∷ 0 ∷ 0 ∷ 8 ∷ 0 ∷ 0 ∷ 0 ∷ 3 ∷ 0 ∷ 0 ∷ 0 ∷ 11 ∷ 0 ∷ 0 ∷ 0 ∷ 69 ∷ 117 ∷ 114 ∷ 111 ∷ 112 ∷ 101 ∷ 47 ∷ 79 ∷ 115 ∷ 108 ∷ 111 ∷ 0 ∷ 0 ∷ 0 ∷ 0 ∷ 0 ∷ 228 ∷ 0 ∷ 0 ∷ 0 ∷ 16 ∷ 0 ∷ 0 ∷ 0 ∷ 28 ∷ 0 ∷ 0 ∷ 0 ∷ 32 ∷ 0 ∷ 0 ∷ 0 ∷ 1 ∷ 18 ∷ 0 ∷ 0 ∷ 2 ∷ 0 ∷ 0 ∷ 0 ∷ 100 ∷ 115 ∷ 0 ∷ 0 ∷ 6 ∷ 0 ∷ 6 ∷ 0 ∷ 4 ∷ 0 ∷ 0 ∷ 0 ∷ 8 ∷ 0 ∷ 0 ∷ 0 ∷ 0 ∷ 0 ∷ 0 ∷ 0 ∷ 0 ∷ 0 ∷ 0 ∷ 0 ∷ 20 ∷ 1 ∷ 0 ∷ 0 ∷ 16 ∷ 0 ∷ 0 ∷ 0 ∷ 20 ∷ 0 ∷ 0 ∷ 0 ∷ 20 ∷ 0 ∷ 0 ∷ 0 ∷ 1 ∷ 18 ∷ 0 ∷ 0 ∷ 2 ∷ 0 ∷ 0 ∷ 0 ∷ 100 ∷ 109 ∷ 0 ∷ 0 ∷ 6 ∷ 1 ∷ 0 ∷ 0 ∷ 0 ∷ 0 ∷ 0 ∷ 0 ∷ 56 ∷ 1 ∷ 0 ∷ 0 ∷ 16 ∷ 0 ∷ 0 ∷ 0 ∷ 20 ∷ 0 ∷ 0 ∷ 0 ∷ 24 ∷ 0 ∷ 0 ∷ 0 ∷ 1 ∷ 18 ∷ 0 ∷ 0 ∷ 2 ∷ 0 ∷ 0 ∷ 0 ∷ 100 ∷ 117 ∷ 0 ∷ 0 ∷ 84 ∷ 0 ∷ 0 ∷ 0 ∷ 2 ∷ 0 ∷ 0 ∷ 0 ∷ 0 ∷ 0 ∷ 0 ∷ 0 ∷ 96 ∷ 1 ∷ 0 ∷ 0 ∷ 16 ∷ 0 ∷ 0 ∷ 0 ∷ 20 ∷ 0 ∷ 0 ∷ 0 ∷ 24 ∷ 0 ∷ 0 ∷ 0 ∷ 1 ∷ 18 ∷ 0 ∷ 0 ∷ 2 ∷ 0 ∷ 0 ∷ 0 ∷ 100 ∷ 110 ∷ 0 ∷ 0 ∷ 124 ∷ 0 ∷ 0 ∷ 0 ∷ 3 ∷ 0 ∷ 0 ∷ 0 ∷ 0 ∷ 0 ∷ 0 ∷ 0 ∷ []

timestamps_durations_0 : HasField timestamps_durations_metadata 96 (115 ∷ []) (types.timestamp Second None) 175
unfolding spec_offset_at spec_back_from spec_table_at spec_field_position spec_charge_budget spec_read_table spec_read_vector spec_read_string spec_items_at spec_str_at spec_metadata_at spec_zone_at spec_timestamp_at spec_duration_at spec_field_at tables_at tables_in_turn
timestamps_durations_0 = rw (text_s) refl

timestamps_durations_1 : HasField timestamps_durations_metadata 136 (109 ∷ []) (types.timestamp Millisecond (Some [])) 171
unfolding spec_offset_at spec_back_from spec_table_at spec_field_position spec_charge_budget spec_read_table spec_read_vector spec_read_string spec_items_at spec_str_at spec_metadata_at spec_zone_at spec_timestamp_at spec_duration_at spec_field_at tables_at tables_in_turn
timestamps_durations_1 = rw (text_m, no_text) refl

timestamps_durations_2 : HasField timestamps_durations_metadata 196 (117 ∷ []) (types.timestamp Microsecond (Some (85 ∷ 84 ∷ 67 ∷ []))) 168
unfolding spec_offset_at spec_back_from spec_table_at spec_field_position spec_charge_budget spec_read_table spec_read_vector spec_read_string spec_items_at spec_str_at spec_metadata_at spec_zone_at spec_timestamp_at spec_duration_at spec_field_at tables_at tables_in_turn
timestamps_durations_2 = rw (text_u, text_UTC) refl

timestamps_durations_3 : HasField timestamps_durations_metadata 248 (110 ∷ []) (types.timestamp Nanosecond (Some (69 ∷ 117 ∷ 114 ∷ 111 ∷ 112 ∷ 101 ∷ 47 ∷ 79 ∷ 115 ∷ 108 ∷ 111 ∷ []))) 160
unfolding spec_offset_at spec_back_from spec_table_at spec_field_position spec_charge_budget spec_read_table spec_read_vector spec_read_string spec_items_at spec_str_at spec_metadata_at spec_zone_at spec_timestamp_at spec_duration_at spec_field_at tables_at tables_in_turn
timestamps_durations_3 = rw (text_n, text_Europe_Oslo) refl

timestamps_durations_4 : HasField timestamps_durations_metadata 308 (100 ∷ 115 ∷ []) (types.duration Second) 174
unfolding spec_offset_at spec_back_from spec_table_at spec_field_position spec_charge_budget spec_read_table spec_read_vector spec_read_string spec_items_at spec_str_at spec_metadata_at spec_zone_at spec_timestamp_at spec_duration_at spec_field_at tables_at tables_in_turn
timestamps_durations_4 = rw (text_ds) refl

timestamps_durations_5 : HasField timestamps_durations_metadata 356 (100 ∷ 109 ∷ []) (types.duration Millisecond) 174
unfolding spec_offset_at spec_back_from spec_table_at spec_field_position spec_charge_budget spec_read_table spec_read_vector spec_read_string spec_items_at spec_str_at spec_metadata_at spec_zone_at spec_timestamp_at spec_duration_at spec_field_at tables_at tables_in_turn
timestamps_durations_5 = rw (text_dm) refl

timestamps_durations_6 : HasField timestamps_durations_metadata 392 (100 ∷ 117 ∷ []) (types.duration Microsecond) 174
unfolding spec_offset_at spec_back_from spec_table_at spec_field_position spec_charge_budget spec_read_table spec_read_vector spec_read_string spec_items_at spec_str_at spec_metadata_at spec_zone_at spec_timestamp_at spec_duration_at spec_field_at tables_at tables_in_turn
timestamps_durations_6 = rw (text_du) refl

timestamps_durations_7 : HasField timestamps_durations_metadata 432 (100 ∷ 110 ∷ []) (types.duration Nanosecond) 174
unfolding spec_offset_at spec_back_from spec_table_at spec_field_position spec_charge_budget spec_read_table spec_read_vector spec_read_string spec_items_at spec_str_at spec_metadata_at spec_zone_at spec_timestamp_at spec_duration_at spec_field_at tables_at tables_in_turn
timestamps_durations_7 = rw (text_dn) refl

abbrev pub AreZones : Type 0
AreZones = HasField timestamps_durations_metadata 96 (115 ∷ []) (types.timestamp Second None) 175
    × HasField timestamps_durations_metadata 136 (109 ∷ []) (types.timestamp Millisecond (Some [])) 171
    × HasField timestamps_durations_metadata 196 (117 ∷ []) (types.timestamp Microsecond (Some (85 ∷ 84 ∷ 67 ∷ []))) 168
    × HasField timestamps_durations_metadata 248 (110 ∷ []) (types.timestamp Nanosecond (Some (69 ∷ 117 ∷ 114 ∷ 111 ∷ 112 ∷ 101 ∷ 47 ∷ 79 ∷ 115 ∷ 108 ∷ 111 ∷ []))) 160
    × HasField timestamps_durations_metadata 308 (100 ∷ 115 ∷ []) (types.duration Second) 174
    × HasField timestamps_durations_metadata 356 (100 ∷ 109 ∷ []) (types.duration Millisecond) 174
    × HasField timestamps_durations_metadata 392 (100 ∷ 117 ∷ []) (types.duration Microsecond) 174
    × HasField timestamps_durations_metadata 432 (100 ∷ 110 ∷ []) (types.duration Nanosecond) 174

pub timestamps_durations : AreZones
timestamps_durations = (timestamps_durations_0, timestamps_durations_1, timestamps_durations_2, timestamps_durations_3, timestamps_durations_4, timestamps_durations_5, timestamps_durations_6, timestamps_durations_7)

-- ---- intervals of each unit

abbrev pub intervals_metadata : List ℕ
intervals_metadata =
    16 ∷ 0 ∷ 0 ∷ 0 ∷ 10 ∷ 0 ∷ 11 ∷ 0 ∷ 8 ∷ 0 ∷ 10 ∷ 0 ∷ 4 ∷ 0 ∷ 0 ∷ 0 ∷ 12 ∷ 0 ∷ 0 ∷ 0 ∷ 16 ∷ 0 ∷ 0 ∷ 0 ∷ 4 ∷ 0 ∷ 1 ∷ 0 ∷ 8 ∷ 0 ∷ 8 ∷ 0 ∷ 0 ∷ 0 ∷ 4 ∷ 0 ∷ 8 ∷ 0 ∷ 0 ∷ 0 ∷ 4 ∷ 0 ∷ 0 ∷ 0 ∷ 3 ∷ 0 ∷ 0 ∷ 0 ∷ 28 ∷ 0 ∷ 0 ∷ 0 ∷ 64 ∷ 0 ∷ 0 ∷ 0 ∷ 104 ∷ 0 ∷ 0 ∷ 0 ∷ 16 ∷ 0 ∷ 18 ∷ 0 ∷ 4 ∷ 0 ∷ 16 ∷ 0 ∷ 17 ∷ 0 ∷ 8 ∷ 0 ∷ 0 ∷ 0 ∷ 12 ∷ 0 ∷ 16 ∷ 0 ∷ 0 ∷ 0 ∷ 16 ∷ 0 ∷ 0 ∷ 0 ∷ 24 ∷ 0 ∷ 0 ∷ 0 ∷ 24 ∷ 0 ∷ 0 ∷ 0 ∷ 1 ∷ 11 ∷ 0 ∷ 0 ∷ 1 ∷ 0 ∷ 0 ∷ 0 ∷ 121 ∷ 0 ∷ 4 ∷ 0 ∷ 4 ∷ 0 ∷ 0 ∷ 0 ∷ 6 ∷ 0 ∷ 0 ∷ 0 ∷ 0 ∷ 0 ∷ 0 ∷ 0 ∷ 56 ∷ 0 ∷ 0 ∷ 0 ∷ 16 ∷ 0 ∷ 0 ∷ 0 ∷ 24 ∷ 0 ∷ 0 ∷ 0 ∷ 28 ∷ 0 ∷ 0 ∷ 0 ∷ 1 ∷ 11 ∷ 0 ∷ 0 ∷ 1 ∷ 0 ∷ 0 ∷ 0 ∷ 100 ∷ 0 ∷ 6 ∷ 0 ∷ 6 ∷ 0 ∷ 4 ∷ 0 ∷ 6 ∷ 0 ∷ 0 ∷ 0 ∷ 1 ∷ 0 ∷ 0 ∷ 0 ∷ 0 ∷ 0 ∷ 0 ∷ 0 ∷ 100 ∷ 0 ∷ 0 ∷ 0 ∷ 16 ∷ 0 ∷ 0 ∷ 0 ∷ 20 ∷ 0 ∷ 0 ∷ 0 ∷ 24 ∷ 0 ∷ 0 ∷ 0 ∷ 1 ∷ 11 ∷ 0 ∷ 0 ∷ 1 ∷ 0 ∷ 0 ∷ 0 ∷ 109 ∷ 0 ∷ 0 ∷ 0 ∷ 46 ∷ 0 ∷ 0 ∷ 0 ∷ 2 ∷ 0 ∷ 0 ∷ 0 ∷ 0 ∷ 0 ∷ 0 ∷ 0 ∷ []

intervals_0 : HasField intervals_metadata 76 (121 ∷ []) (types.interval YearMonth) 175
unfolding spec_offset_at spec_back_from spec_table_at spec_field_position spec_charge_budget spec_read_table spec_read_vector spec_read_string spec_items_at spec_str_at spec_metadata_at spec_interval_at spec_field_at tables_at tables_in_turn
intervals_0 = rw (text_y) refl

intervals_1 : HasField intervals_metadata 116 (100 ∷ []) (types.interval DayTime) 175
unfolding spec_offset_at spec_back_from spec_table_at spec_field_position spec_charge_budget spec_read_table spec_read_vector spec_read_string spec_items_at spec_str_at spec_metadata_at spec_interval_at spec_field_at tables_at tables_in_turn
intervals_1 = rw (text_d) refl

intervals_2 : HasField intervals_metadata 160 (109 ∷ []) (types.interval MonthDayNano) 175
unfolding spec_offset_at spec_back_from spec_table_at spec_field_position spec_charge_budget spec_read_table spec_read_vector spec_read_string spec_items_at spec_str_at spec_metadata_at spec_interval_at spec_field_at tables_at tables_in_turn
intervals_2 = rw (text_m) refl

abbrev pub AreIntervals : Type 0
AreIntervals = HasField intervals_metadata 76 (121 ∷ []) (types.interval YearMonth) 175
    × HasField intervals_metadata 116 (100 ∷ []) (types.interval DayTime) 175
    × HasField intervals_metadata 160 (109 ∷ []) (types.interval MonthDayNano) 175

pub intervals : AreIntervals
intervals = (intervals_0, intervals_1, intervals_2)

-- ---- fixed-size binaries

abbrev pub fixed_size_binary_metadata : List ℕ
fixed_size_binary_metadata =
    16 ∷ 0 ∷ 0 ∷ 0 ∷ 10 ∷ 0 ∷ 11 ∷ 0 ∷ 8 ∷ 0 ∷ 10 ∷ 0 ∷ 4 ∷ 0 ∷ 0 ∷ 0 ∷ 12 ∷ 0 ∷ 0 ∷ 0 ∷ 16 ∷ 0 ∷ 0 ∷ 0 ∷ 4 ∷ 0 ∷ 1 ∷ 0 ∷ 8 ∷ 0 ∷ 8 ∷ 0 ∷ 0 ∷ 0 ∷ 4 ∷ 0 ∷ 8 ∷ 0 ∷ 0 ∷ 0 ∷ 4 ∷ 0 ∷ 0 ∷ 0 ∷ 2 ∷ 0 ∷ 0 ∷ 0 ∷ 24 ∷ 0 ∷ 0 ∷ 0 ∷ 64 ∷ 0 ∷ 0 ∷ 0 ∷ 16 ∷ 0 ∷ 18 ∷ 0 ∷ 4 ∷ 0 ∷ 16 ∷ 0 ∷ 17 ∷ 0 ∷ 8 ∷ 0 ∷ 0 ∷ 0 ∷ 12 ∷ 0 ∷ 16 ∷ 0 ∷ 0 ∷ 0 ∷ 16 ∷ 0 ∷ 0 ∷ 0 ∷ 24 ∷ 0 ∷ 0 ∷ 0 ∷ 28 ∷ 0 ∷ 0 ∷ 0 ∷ 1 ∷ 15 ∷ 0 ∷ 0 ∷ 1 ∷ 0 ∷ 0 ∷ 0 ∷ 97 ∷ 0 ∷ 6 ∷ 0 ∷ 8 ∷ 0 ∷ 4 ∷ 0 ∷ 6 ∷ 0 ∷ 0 ∷ 0 ∷ 3 ∷ 0 ∷ 0 ∷ 0 ∷ 0 ∷ 0 ∷ 0 ∷ 0 ∷ 60 ∷ 0 ∷ 0 ∷ 0 ∷ 16 ∷ 0 ∷ 0 ∷ 0 ∷ 20 ∷ 0 ∷ 0 ∷ 0 ∷ 24 ∷ 0 ∷ 0 ∷ 0 ∷ 1 ∷ 15 ∷ 0 ∷ 0 ∷ 1 ∷ 0 ∷ 0 ∷ 0 ∷ 98 ∷ 0 ∷ 0 ∷ 0 ∷ 46 ∷ 0 ∷ 0 ∷ 0 ∷ 1 ∷ 0 ∷ 0 ∷ 0 ∷ 0 ∷ 0 ∷ 0 ∷ 0 ∷ 0 ∷ 0 ∷ 0 ∷ 0 ∷ []

fixed_size_binary_0 : HasField fixed_size_binary_metadata 72 (97 ∷ []) (types.fixed_size_binary 3) 175
unfolding spec_offset_at spec_back_from spec_table_at spec_field_position spec_charge_budget spec_read_table spec_read_vector spec_read_string spec_items_at spec_str_at spec_metadata_at spec_fixed_size_binary_at spec_field_at tables_at tables_in_turn
fixed_size_binary_0 = rw (text_a) refl

fixed_size_binary_1 : HasField fixed_size_binary_metadata 116 (98 ∷ []) (types.fixed_size_binary 1) 175
unfolding spec_offset_at spec_back_from spec_table_at spec_field_position spec_charge_budget spec_read_table spec_read_vector spec_read_string spec_items_at spec_str_at spec_metadata_at spec_fixed_size_binary_at spec_field_at tables_at tables_in_turn
fixed_size_binary_1 = rw (text_b) refl

abbrev pub AreSizes : Type 0
AreSizes = HasField fixed_size_binary_metadata 72 (97 ∷ []) (types.fixed_size_binary 3) 175
    × HasField fixed_size_binary_metadata 116 (98 ∷ []) (types.fixed_size_binary 1) 175

pub fixed_size_binary : AreSizes
fixed_size_binary = (fixed_size_binary_0, fixed_size_binary_1)
