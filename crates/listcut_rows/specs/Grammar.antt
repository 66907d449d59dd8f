-- The format of rows and of the arguments.
use Rattle.std.specs.Prelude.{ℕ, ◌+◌, ◌-◌, ◌^◌, List, [], ◌∷◌, length, take, drop, map, Bool, true, false, ◌&&◌, ◌||◌, not, nat_lt, nat_le, ◌==◌, if◌then◌else◌, bytes_eq, codes, slice_index, Option, Some, None, option_map, option_and_then, Result, Ok, Err, ℤ, pos, neg_ℤ}
use Rattle.std.specs.List.{slice_split, onto_first, list_all}
use Rattle.std.specs.Char.{is_ascii_digit}
use Rattle.std.specs.Str.Parse.{digits_value}
use Rattle.nest_model.specs.Slot as slots
use Rattle.nest_model.specs.Slot.{Slot, seal}
use Rattle.listcut_rows.specs.Rows.{list_row_len}

-- ---- numbers

-- digits without a leading zero
abbrev pub is_decimal : List ℕ → Bool
is_decimal [] = false
is_decimal (c ∷ cs) = list_all is_ascii_digit (c ∷ cs) && (not (c == 48) || length cs == 0)

-- no digit, or a zero before other digits
abbrev pub spec_has_leading_zero : List ℕ → Bool
spec_has_leading_zero [] = true
spec_has_leading_zero (c ∷ cs) = c == 48 && not (length cs == 0)

-- the number of such digits, if it is below `limit`
abbrev pub number_below : ℕ → List ℕ → Option ℕ
number_below limit digits = if is_decimal digits && nat_lt (digits_value 10 digits) limit then Some (digits_value 10 digits) else None

-- an integer from -2^63 to 2^63 - 1
abbrev pub parsed_number : List ℕ → Option ℤ
parsed_number [] = None
parsed_number (c ∷ cs) = if c == 45
    then (if bytes_eq cs (codes "0") then None else option_map (λ n. neg_ℤ (pos n)) (number_below (2 ^ 63 + 1) cs))
    else option_map pos (number_below (2 ^ 63) (c ∷ cs))

-- ---- rows

-- all values, if each is there
abbrev pub all_of : {X : Type 0} → List (Option X) → Option (List X)
all_of [] = Some []
all_of (None ∷ others) = None
all_of (Some x ∷ others) = option_map (λ xs. x ∷ xs) (all_of others)

-- `null` or an integer
abbrev pub parsed_item : List ℕ → Option Slot
parsed_item bytes = if bytes_eq bytes (codes "null") then Some slots.null else option_map (λ number. slots.number (number ∷ [])) (parsed_number bytes)

-- items separated by commas, or none
abbrev pub parsed_items : List ℕ → Option (List Slot)
parsed_items bytes = if length bytes == 0 then Some [] else all_of (map parsed_item (slice_split (λ b. b == 44) bytes))

-- the bytes between the brackets
abbrev pub bracketed : List ℕ → Option (List ℕ)
bracketed line = if nat_le 2 (length line) && (slice_index line 0 == 91 && slice_index line (length line - 1) == 93)
    then Some (take (length line - 2) (drop 1 line))
    else None

-- `null`, or items in brackets
abbrev pub parsed_row : List ℕ → Option Slot
parsed_row line = if bytes_eq line (codes "null") then Some slots.null else option_map (λ items. slots.list (seal items)) (option_and_then parsed_items (bracketed line))

-- ---- lines

-- a line feed ends each line; the last line may lack it
abbrev pub lines_of : List ℕ → List (List ℕ)
lines_of [] = []
lines_of (b ∷ bs) = if b == 10 then [] ∷ lines_of bs else onto_first b (lines_of bs)

abbrev pub prepend_row : Slot → Result (List Slot) ℕ → Result (List Slot) ℕ
prepend_row row (Ok rows) = Ok (row ∷ rows)
prepend_row row (Err line) = Err line

-- the rows of the lines after `above` lines with `items` items, or the number of the first line that is invalid or with which there are
-- 2^31 items or more
unfoldable pub parsed_rows_after : ℕ → ℕ → List (List ℕ) → Result (List Slot) ℕ
parsed_rows_after above items [] = Ok []
parsed_rows_after above items (line ∷ lines) = elim (parsed_row line) [
  | None ↦ Err (above + 1)
  | Some row ↦ if nat_lt (items + list_row_len row) (2 ^ 31) then prepend_row row (parsed_rows_after (above + 1) (items + list_row_len row) lines) else Err (above + 1)
]

-- the rows of the bytes, or the number, from 1, of the first invalid line
abbrev pub parsed_rows : List ℕ → Result (List Slot) ℕ
parsed_rows bytes = parsed_rows_after 0 0 (lines_of bytes)

-- ---- arguments

-- a selection: the rows of a slice, by offset and length, or the rows at indices
pub data Selection : Type 0 where
  slice_rows : ℕ × ℕ → Selection
  take_rows : List ℕ → Selection

-- an offset and a length
abbrev pub parsed_slice : List (List ℕ) → Option (ℕ × ℕ)
parsed_slice (offset ∷ len ∷ []) = option_and_then (λ o. option_map (λ n. (o, n)) (number_below (2 ^ 64) len)) (number_below (2 ^ 64) offset)
parsed_slice arguments = None

-- indices
abbrev pub parsed_indices : List (List ℕ) → Option (List ℕ)
parsed_indices arguments = all_of (map (number_below (2 ^ 64)) arguments)

-- `take` and any number of indices, or an offset and a length
abbrev pub parsed_selection : List (List ℕ) → Option Selection
parsed_selection [] = None
parsed_selection (argument ∷ arguments) = if bytes_eq argument (codes "take") then option_map take_rows (parsed_indices arguments) else option_map slice_rows (parsed_slice (argument ∷ arguments))
