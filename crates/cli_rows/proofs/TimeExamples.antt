-- Dates and times compared with values, from the numbers of their texts.
use Rattle.std.proofs.Common.{◌≡◌, ℤ, pos, List, ℕ, Option, Some, None, option_map, FitsSigned, w32, w64, Bool, true, false, sym, ap, ◌∙◌, ◌*ℤ◌, ◌^◌}
use Rattle.std.specs.Int.{int_div_euclid}
use Rattle.std.specs.Option.{option_and_then, option_or}
use Rattle.nest_memory.specs.TypeTree as types
use Rattle.nest_memory.specs.TypeTree.{Letters, TypeTree}
use Rattle.nest_memory.specs.declared.datatypes.TimeUnit.{TimeUnit}
use Rattle.nest_memory.specs.declared.datatypes.TimeUnit.TheVariants.{Second, Millisecond, Microsecond, Nanosecond}
use Rattle.json_write.proofs.TimeFacts.{has_letter}
use Rattle.json_write.specs.Times.{date_text, time_text, timestamp_text, unit_digits, whole_seconds}
use Rattle.cli_args.specs.Conditions.{NumberTree, text}
use Rattle.cli_args.specs.declared.condition.Comparison.{Comparison}
use Rattle.cli_rows.specs.Comparisons.{decimal_cmp, spec_holds, spec_holds_of, spec_number_order, spec_ordered}
use Rattle.cli_rows.specs.ConditionExamples.{value_of_type}
use Rattle.cli_rows.specs.Conditions.{spec_compared}
use Rattle.cli_rows.specs.TimeLiterals.{day_with_text, in_unit, midnight, seconds_of_time, seconds_of_timestamp, time_in, timestamp_in, units_of_seconds, whole_number}
use Rattle.cli_rows.proofs.TimeTexts.{IsTime, parsed-day, parsed-time, parsed-timestamp}

pub day-of : (s : List ℕ) (n : ℤ) → FitsSigned w32 n → s ≡ date_text n → day_with_text s ≡ Some n
day-of s n fits e = sym (parsed-day s (Some n) (fits, e))

-- the text of a timestamp is that of no date
no-day : (s : List ℕ) (utc : Bool) (n : ℤ) → s ≡ timestamp_text 0 utc n → day_with_text s ≡ None
no-day s utc n e = sym (parsed-day s None (λ day fits d. has_letter day (int_div_euclid (whole_seconds 0 n) (pos 86_400)) _ (sym d ∙ e)))

second-of : (s : List ℕ) (n : ℤ) → IsTime Second n → s ≡ time_text 0 n → seconds_of_time s ≡ Some (n, 0)
second-of s n fits e =
    ap (λ o. option_or (option_or (option_or (option_map (in_unit Second) o) (time_in Millisecond s)) (time_in Microsecond s)) (time_in Nanosecond s)) (sym (parsed-time Second s (Some n) (fits, e)))

abbrev rest : Bool → List ℕ → Option (ℤ × ℕ) → Option (ℤ × ℕ) → Option (ℤ × ℕ)
rest utc s day second = option_or (option_or (option_or (option_or day second) (timestamp_in utc Millisecond s)) (timestamp_in utc Microsecond s)) (timestamp_in utc Nanosecond s)

midnight-of : (s : List ℕ) (utc : Bool) (n : ℤ) → FitsSigned w32 n → s ≡ date_text n → seconds_of_timestamp utc s ≡ Some (n *ℤ pos 86_400, 0)
midnight-of s utc n fits e = ap (λ o. rest utc s (option_map midnight o) (timestamp_in utc Second s)) (day-of s n fits e)

timestamp-of : (s : List ℕ) (utc : Bool) (n : ℤ) → FitsSigned w64 n → s ≡ timestamp_text 0 utc n → seconds_of_timestamp utc s ≡ Some (n, 0)
timestamp-of s utc n fits e =
    ap (λ o. rest utc s (option_map midnight o) (timestamp_in utc Second s)) (no-day s utc n e)
    ∙ ap (λ o. rest utc s None (option_map (in_unit Second) o)) (sym (parsed-timestamp Second utc s (Some n) (fits, e)))

-- ---- compared

abbrev compared_with : Comparison → ℤ → Option NumberTree → Option Bool
compared_with op x o = option_map (spec_holds_of op) (spec_ordered (option_and_then (spec_number_order 0 (value_of_type types.date32 x).1) o))

pub date-compared : (op : Comparison) (s : List ℕ) (n x : ℤ) → FitsSigned w32 n → s ≡ date_text n → spec_compared op (text s) (value_of_type types.date32 x) ≡ Some (spec_holds op (decimal_cmp x 0 n 0))
date-compared op s n x fits e = ap (λ o. compared_with op x (option_map whole_number o)) (day-of s n fits e)

pub time-compared : (op : Comparison) (s : List ℕ) (u : TimeUnit) (n x : ℤ) → IsTime Second n → s ≡ time_text 0 n → spec_compared op (text s) (value_of_type (types.time32 u) x) ≡ Some (spec_holds op (decimal_cmp x 0 (n *ℤ pos (10 ^ unit_digits u)) 0))
time-compared op s u n x fits e = ap (λ o. compared_with op x (option_map (units_of_seconds (unit_digits u)) o)) (second-of s n fits e)

pub zoned-compared : (op : Comparison) (s : List ℕ) (u : TimeUnit) (zone : Letters) (n x : ℤ) → FitsSigned w64 n → s ≡ timestamp_text 0 true n → spec_compared op (text s) (value_of_type (types.timestamp u (Some zone)) x) ≡ Some (spec_holds op (decimal_cmp x 0 (n *ℤ pos (10 ^ unit_digits u)) 0))
zoned-compared op s u zone n x fits e = ap (λ o. compared_with op x (option_map (units_of_seconds (unit_digits u)) o)) (timestamp-of s true n fits e)

pub timestamp-compared : (op : Comparison) (s : List ℕ) (u : TimeUnit) (n x : ℤ) → FitsSigned w64 n → s ≡ timestamp_text 0 false n → spec_compared op (text s) (value_of_type (types.timestamp u None) x) ≡ Some (spec_holds op (decimal_cmp x 0 (n *ℤ pos (10 ^ unit_digits u)) 0))
timestamp-compared op s u n x fits e = ap (λ o. compared_with op x (option_map (units_of_seconds (unit_digits u)) o)) (timestamp-of s false n fits e)

pub midnight-compared : (op : Comparison) (s : List ℕ) (u : TimeUnit) (n x : ℤ) → FitsSigned w32 n → s ≡ date_text n
    → spec_compared op (text s) (value_of_type (types.timestamp u None) x) ≡ Some (spec_holds op (decimal_cmp x 0 ((n *ℤ pos 86_400) *ℤ pos (10 ^ unit_digits u)) 0))
midnight-compared op s u n x fits e = ap (λ o. compared_with op x (option_map (units_of_seconds (unit_digits u)) o)) (midnight-of s false n fits e)

pub milliseconds-compared : (op : Comparison) (s : List ℕ) (n x : ℤ) → FitsSigned w32 n → s ≡ date_text n → spec_compared op (text s) (value_of_type types.date64 x) ≡ Some (spec_holds op (decimal_cmp x 0 ((n *ℤ pos 86_400) *ℤ pos (10 ^ 3)) 0))
milliseconds-compared op s n x fits e = ap (λ o. compared_with op x (option_map (units_of_seconds 3) o)) (midnight-of s false n fits e)
