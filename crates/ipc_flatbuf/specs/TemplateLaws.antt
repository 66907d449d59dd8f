-- The tables and fields that a fixed layout of bytes decodes to, at any position.
use Rattle.std.proofs.Common.{◌≡◌, ℕ, ◌+◌, ◌-◌, ◌*◌, ◌^◌, ◌%◌, ◌<◌, ◌≤◌, Bool, true, false, eqb, ltb, List, [], ◌∷◌, ◌++◌, length, drop, Some, None, Ok, refl, ap, ◌∙◌, append_assoc, arith}
use Rattle.std.specs.Prelude.{ℤ}
use Rattle.std.specs.Int.{w16, w32, w64, from_le_bytes, to_le_bytes, cast_unsigned, from_bool}
use Rattle.std.specs.Int.RustNames.{FitsSigned}
use Rattle.std.specs.Str.{is_utf8}
use Rattle.std.proofs.lemmas.Int.{ints, to_z-of_z}
use Rattle.std.proofs.lemmas.List.{length-append, length-take}
use Rattle.std.proofs.lemmas.Nat.{from_le_bytes-to_le_bytes_2, from_le_bytes-to_le_bytes_4, from_le_bytes-to_le_bytes_8}
use Rattle.ipc_flatbuf.specs.declared.tables.FlatbufferTable.{FlatbufferTable}
use Rattle.ipc_flatbuf.specs.PartBytes.{u32_bytes, padding_zeros, string_bytes}
use Rattle.ipc_flatbuf.specs.Flatbuffers.{number_at, signed_at, spec_offset_at, spec_field_position, spec_table_at, spec_read_table, spec_read_string}
use Rattle.ipc_flatbuf.specs.FlatbufferLaws.{From, From-length, From_more, number_in, offset_is, table_is, visit_is, field_is, field_is_zero, string_is}

-- the bytes from k bytes further on
pub From_at : (whole : List ℕ) (position q k : ℕ) (part rest : List ℕ) → From whole position part → k ≤ length part → q ≡ position + k → drop k part ≡ rest → From whole q rest
From_at whole position q k part rest h le e r =
    let m = From_more whole position part k h le in
    record { is = ap (λ (n : ℕ). drop n whole) e ∙ m.is ∙ r; within = omega (arith, m.within) }

below_16 : (z : ℤ) → FitsSigned w16 z → cast_unsigned w16 z < 2 ^ 16
below_16 z h = omega (arith, ints)

below_32 : (z : ℤ) → FitsSigned w32 z → cast_unsigned w32 z < 2 ^ 32
below_32 z h = omega (arith, ints)

below_64 : (z : ℤ) → FitsSigned w64 z → cast_unsigned w64 z < 2 ^ 64
below_64 z h = omega (arith, ints)

pub flag_round_trips : (b : Bool) → ltb 0 (from_bool b) ≡ b
flag_round_trips true = refl
flag_round_trips false = refl

-- the number k bytes into the layout
pub i16_in : (whole : List ℕ) (position : ℕ) (part : List ℕ) (k q : ℕ) (z : ℤ) → From whole position part → k + 2 ≤ length part → q ≡ position + k → FitsSigned w16 z → from_le_bytes w16 (drop k part) ≡ from_le_bytes w16 (to_le_bytes w16 (cast_unsigned w16 z))
    → signed_at w16 whole q ≡ Ok z
i16_in whole position part k q z h le e fits same =
    let n : number_at w16 whole q ≡ Ok (cast_unsigned w16 z) = number_in w16 whole position part k q h le e ∙ ap (λ (m : ℕ). Ok m) (same ∙ from_le_bytes-to_le_bytes_2 (cast_unsigned w16 z) (below_16 z fits)) in
    rw (n, to_z-of_z w16 z fits) refl

pub i32_in : (whole : List ℕ) (position : ℕ) (part : List ℕ) (k q : ℕ) (z : ℤ) → From whole position part → k + 4 ≤ length part → q ≡ position + k → FitsSigned w32 z → from_le_bytes w32 (drop k part) ≡ from_le_bytes w32 (to_le_bytes w32 (cast_unsigned w32 z))
    → signed_at w32 whole q ≡ Ok z
i32_in whole position part k q z h le e fits same =
    let n : number_at w32 whole q ≡ Ok (cast_unsigned w32 z) = number_in w32 whole position part k q h le e ∙ ap (λ (m : ℕ). Ok m) (same ∙ from_le_bytes-to_le_bytes_4 (cast_unsigned w32 z) (below_32 z fits)) in
    rw (n, to_z-of_z w32 z fits) refl

pub i64_in : (whole : List ℕ) (position : ℕ) (part : List ℕ) (k q : ℕ) (z : ℤ) → From whole position part → k + 8 ≤ length part → q ≡ position + k → FitsSigned w64 z → from_le_bytes w64 (drop k part) ≡ from_le_bytes w64 (to_le_bytes w64 (cast_unsigned w64 z))
    → signed_at w64 whole q ≡ Ok z
i64_in whole position part k q z h le e fits same =
    let n : number_at w64 whole q ≡ Ok (cast_unsigned w64 z) = number_in w64 whole position part k q h le e ∙ ap (λ (m : ℕ). Ok m) (same ∙ from_le_bytes-to_le_bytes_8 (cast_unsigned w64 z) (below_64 z fits)) in
    rw (n, to_z-of_z w64 z fits) refl

pub u32_in : (whole : List ℕ) (position : ℕ) (part : List ℕ) (k q n : ℕ) → From whole position part → k + 4 ≤ length part → q ≡ position + k → n < 2 ^ 32 → from_le_bytes w32 (drop k part) ≡ from_le_bytes w32 (to_le_bytes w32 n) → number_at w32 whole q ≡ Ok n
u32_in whole position part k q n h le e small same = number_in w32 whole position part k q h le e ∙ ap (λ (m : ℕ). Ok m) (same ∙ from_le_bytes-to_le_bytes_4 n small)

pub offset_in : (whole : List ℕ) (position : ℕ) (part : List ℕ) (k q n : ℕ) → From whole position part → k + 4 ≤ length part → q ≡ position + k → n < 2 ^ 32 → from_le_bytes w32 (drop k part) ≡ from_le_bytes w32 (to_le_bytes w32 n) → spec_offset_at whole q ≡ Ok (q + n)
offset_in whole position part k q n h le e small same = offset_is whole q n (u32_in whole position part k q n h le e small same)

-- the table of a layout that begins with its vtable
abbrev pub table_in : ℕ → ℕ → ℕ → FlatbufferTable
table_in position s size = record { at = position + s; vtable = position; size = size }

pub visit_in : (whole : List ℕ) (position : ℕ) (part : List ℕ) (s size left : ℕ) → From whole position part → s + 4 ≤ length part → size ≤ length part → 4 ≤ size → s < 2 ^ 31 → from_le_bytes w16 part ≡ size → eqb (size % 2) 0 ≡ true → from_le_bytes w32 (drop s part) ≡ s → 8 ≤ left
    → spec_read_table whole (position + s) left ≡ Ok (table_in position s size, left - 8)
visit_in whole position part s size left h long within four small head even back le =
    let a : number_at w16 whole position ≡ Ok size = number_in w16 whole position part 0 position h (omega arith) (omega arith) ∙ ap (λ (m : ℕ). Ok m) head in
    let b : number_at w32 whole (position + s) ≡ Ok s = number_in w32 whole position part s (position + s) h long refl ∙ ap (λ (m : ℕ). Ok m) back in
    let t : spec_table_at whole (position + s) ≡ Ok (table_in position s size) = table_is whole position s size b small a four even (omega (arith, From-length whole position part h)) in
    visit_is whole (position + s) left (table_in position s size) t le

pub field_in : (whole : List ℕ) (position : ℕ) (part : List ℕ) (s size id n : ℕ) → From whole position part → 2 * id + 6 ≤ length part → 2 * id + 4 < size → 4 ≤ n → from_le_bytes w16 (drop (2 * id + 4) part) ≡ n
    → spec_field_position whole (table_in position s size) id ≡ Ok (Some (position + s + n))
field_in whole position part s size id n h long within four is =
    let a : number_at w16 whole (position + (2 * id + 4)) ≡ Ok n = number_in w16 whole position part (2 * id + 4) (position + (2 * id + 4)) h (omega arith) refl ∙ ap (λ (m : ℕ). Ok m) is in
    field_is whole (table_in position s size) id n a within four

pub field_out : (whole : List ℕ) (position : ℕ) (part : List ℕ) (s size id : ℕ) → From whole position part → 2 * id + 6 ≤ length part → 2 * id + 4 < size → from_le_bytes w16 (drop (2 * id + 4) part) ≡ 0
    → spec_field_position whole (table_in position s size) id ≡ Ok None
field_out whole position part s size id h long within is =
    let a : number_at w16 whole (position + (2 * id + 4)) ≡ Ok 0 = number_in w16 whole position part (2 * id + 4) (position + (2 * id + 4)) h (omega arith) refl ∙ ap (λ (m : ℕ). Ok m) is in
    field_is_zero whole (table_in position s size) id a within

-- a string round-trips
pub string_long : (text : List ℕ) → 5 + length text ≤ length (string_bytes text)
unfolding string_bytes u32_bytes
string_long text = omega (arith, length-append text (padding_zeros (8 - (length text + 4) % 8)), length-take {A = ℕ} (8 - (length text + 4) % 8) (0 ∷ 0 ∷ 0 ∷ 0 ∷ 0 ∷ 0 ∷ 0 ∷ 0 ∷ []))

pub string_round_trips : (text whole : List ℕ) (p left : ℕ) (after : List ℕ) → is_utf8 text ≡ true → From whole p (string_bytes text ++ after) → length whole < 2 ^ 32 → 4 + length text ≤ left → spec_read_string whole p left ≡ Ok (text, left - (4 + length text))
unfolding string_bytes u32_bytes
string_round_trips text whole p left after utf8 h small le =
    let part : List ℕ = string_bytes text ++ after in
    let gap : List ℕ = padding_zeros (8 - (length text + 4) % 8) in
    let long : 4 + length text ≤ length part = omega (arith, string_long text, length-append (string_bytes text) after) in
    let ends = From-length whole p part h in
    let count : number_at w32 whole p ≡ Ok (length text) = u32_in whole p part 0 p (length text) h (omega arith) (omega arith) (omega arith) refl in
    let here : From whole (p + 4) (text ++ (gap ++ after)) = From_at whole p (p + 4) 4 part (text ++ (gap ++ after)) h (omega arith) refl (append_assoc text gap after) in
    string_is whole p left text (gap ++ after) count here utf8 le
