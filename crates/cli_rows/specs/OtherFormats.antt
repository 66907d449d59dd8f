-- The format of a file that is no Arrow IPC file or stream, by its first bytes.
use Rattle.std.specs.Prelude.{ℕ, Bool, ◌&&◌, ◌||◌, not, ◌==◌, nat_le, List, [], ◌∷◌, nat_eq, codes, Option, Some, None, if◌then◌else◌}
use Rattle.std.specs.List.{starts_with}
use Rattle.cli_rows.specs.declared.other_formats.OtherFormat.{OtherFormat}
use Rattle.cli_rows.specs.declared.other_formats.OtherFormat.TheVariants.{Empty, Parquet, Feather, Text, Unknown}

-- a byte that UTF-8 has, other than control characters that are no tab or line end
abbrev pub is_text_byte : ℕ → Bool
is_text_byte b = (b == 9) || ((b == 10) || ((b == 13) || (nat_le 32 b && (nat_le b 244 && not (b == 127)))))

abbrev pub spec_is_text : ℕ → ℕ → ℕ → ℕ → Bool
spec_is_text a b c d = is_text_byte a && (is_text_byte b && (is_text_byte c && is_text_byte d))

-- a length below 2^24 may begin a stream
abbrev pub unmarked_format : List ℕ → Option OtherFormat
unmarked_format [] = Some Empty
unmarked_format (a ∷ b ∷ c ∷ d ∷ bytes) = if spec_is_text a b c d then Some Text else (if d == 0 then None else Some Unknown)
unmarked_format bytes = Some Unknown

-- the format of bytes that do not begin with the magic of a file; FF FF FF FF begins a stream
abbrev pub other_format_of : List ℕ → Option OtherFormat
other_format_of bytes =
    if starts_with nat_eq bytes (255 ∷ 255 ∷ 255 ∷ 255 ∷ []) then None
    else (if starts_with nat_eq bytes (codes "PAR1") then Some Parquet
    else (if starts_with nat_eq bytes (codes "FEA1") then Some Feather
    else unmarked_format bytes))
