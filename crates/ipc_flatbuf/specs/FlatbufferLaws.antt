-- The values at a position whose bytes are known.
use Rattle.std.proofs.Common.{◌≡◌, ℕ, ◌+◌, ◌-◌, ◌*◌, ◌^◌, ◌%◌, ◌<◌, ◌≤◌, true, false, ltb, leb, eqb, List, ◌++◌, length, take, drop, Some, None, Ok, refl, sym, ap, ◌∙◌, arith}
use Rattle.std.specs.Int.{Width, w16, w32, byte_len, from_le_bytes}
use Rattle.std.specs.Str.{is_utf8}
use Rattle.std.proofs.lemmas.Bool.{le-ltb, lt-ltb, le-leb}
use Rattle.std.proofs.lemmas.List.{take_at, drop_at, drop-drop, length-append, length-drop}
use Rattle.ipc_flatbuf.specs.declared.tables.FlatbufferTable.{FlatbufferTable}
use Rattle.ipc_flatbuf.specs.Flatbuffers.{number_at, spec_offset_at, spec_back_from, spec_table_at, spec_field_position, spec_charge_budget, spec_read_table, spec_read_vector, spec_read_string}

-- the bytes from a position to the end
pub record From (whole : List ℕ) (position : ℕ) (part : List ℕ) : Type 0 where
  pub is : drop position whole ≡ part
  pub within : position ≤ length whole

pub From-length : (whole : List ℕ) (position : ℕ) (part : List ℕ) → From whole position part → position + length part ≡ length whole
From-length whole position part h = let e : length (drop position whole) ≡ length part = ap length h.is in omega (arith, e, length-drop position whole, h.within)

pub From_start : (whole : List ℕ) → From whole 0 whole
From_start whole = record { is = refl; within = omega arith }

-- after the first k bytes
pub From_more : (whole : List ℕ) (position : ℕ) (part : List ℕ) (k : ℕ) → From whole position part → k ≤ length part → From whole (position + k) (drop k part)
From_more whole position part k h le = record {
  is = sym (drop-drop k position whole) ∙ ap (drop k) h.is;
  within = omega (arith, From-length whole position part h);
}

-- after a part
pub From_next : (whole : List ℕ) (position : ℕ) (first rest : List ℕ) → From whole position (first ++ rest) → From whole (position + length first) rest
From_next whole position first rest h =
    let le : length first ≤ length (first ++ rest) = omega (arith, length-append first rest) in
    let m = From_more whole position (first ++ rest) (length first) h le in
    record { is = m.is ∙ drop_at first rest (length first) refl; within = m.within }

pub number_is : (w : Width) (whole : List ℕ) (position : ℕ) (part : List ℕ) → From whole position part → byte_len w ≤ length part → number_at w whole position ≡ Ok (from_le_bytes w part)
number_is w whole position part h le =
    let fits : leb (position + byte_len w) (length whole) ≡ true = le-leb _ _ (omega (arith, From-length whole position part h)) in
    rw (fits, h.is) refl

-- the number k bytes further on
pub number_in : (w : Width) (whole : List ℕ) (position : ℕ) (part : List ℕ) (k q : ℕ) → From whole position part → k + byte_len w ≤ length part → q ≡ position + k → number_at w whole q ≡ Ok (from_le_bytes w (drop k part))
number_in w whole position part k q h le e =
    rw e (number_is w whole (position + k) (drop k part) (From_more whole position part k h (omega arith)) (omega (arith, length-drop k part)))

pub offset_is : (whole : List ℕ) (position : ℕ) (n : ℕ) → number_at w32 whole position ≡ Ok n → spec_offset_at whole position ≡ Ok (position + n)
unfolding spec_offset_at
offset_is whole position n e = rw e refl

-- a table whose vtable is s bytes before it
pub table_is : (whole : List ℕ) (vtable s size : ℕ) → number_at w32 whole (vtable + s) ≡ Ok s → s < 2 ^ 31 → number_at w16 whole vtable ≡ Ok size → 4 ≤ size → eqb (size % 2) 0 ≡ true → vtable + size ≤ length whole
    → spec_table_at whole (vtable + s) ≡ Ok (record { at = vtable + s; vtable = vtable; size = size })
unfolding spec_table_at spec_back_from
table_is whole vtable s size back small first four even within =
    let a : ltb s (2 ^ 31) ≡ true = lt-ltb _ _ small in
    let b : leb s (vtable + s) ≡ true = le-leb _ _ (omega arith) in
    let v : vtable + s - s ≡ vtable = omega arith in
    let c : leb 4 size ≡ true = le-leb _ _ four in
    let d : leb (vtable + size) (length whole) ≡ true = le-leb _ _ within in
    rw (back, a, b, v, first, c, even, d) refl

pub visit_is : (whole : List ℕ) (position left : ℕ) (table : FlatbufferTable) → spec_table_at whole position ≡ Ok table → 8 ≤ left → spec_read_table whole position left ≡ Ok (table, left - 8)
unfolding spec_read_table spec_charge_budget
visit_is whole position left table e le =
    let a : leb 8 left ≡ true = le-leb _ _ le in
    rw (e, a) refl

pub field_is : (whole : List ℕ) (table : FlatbufferTable) (id n : ℕ) → number_at w16 whole (table.vtable + (2 * id + 4)) ≡ Ok n → 2 * id + 4 < table.size → 4 ≤ n → spec_field_position whole table id ≡ Ok (Some (table.at + n))
unfolding spec_field_position
field_is whole table id n e lt four =
    let a : ltb (2 * id + 4) table.size ≡ true = lt-ltb _ _ lt in
    let b : eqb n 0 ≡ false = grind arith in
    let c : ltb n 4 ≡ false = le-ltb _ _ four in
    rw (a, e, b, c) refl

pub field_is_zero : (whole : List ℕ) (table : FlatbufferTable) (id : ℕ) → number_at w16 whole (table.vtable + (2 * id + 4)) ≡ Ok 0 → 2 * id + 4 < table.size → spec_field_position whole table id ≡ Ok None
unfolding spec_field_position
field_is_zero whole table id e lt =
    let a : ltb (2 * id + 4) table.size ≡ true = lt-ltb _ _ lt in
    rw (a, e) refl

pub field_is_past : (whole : List ℕ) (table : FlatbufferTable) (id : ℕ) → table.size ≤ 2 * id + 4 → spec_field_position whole table id ≡ Ok None
unfolding spec_field_position
field_is_past whole table id le =
    let a : ltb (2 * id + 4) table.size ≡ false = le-ltb _ _ le in
    rw a refl

pub vector_is : (size : ℕ) (whole : List ℕ) (position left count : ℕ) → number_at w32 whole position ≡ Ok count → position + 4 + count * size ≤ length whole → 4 + count * size ≤ left
    → spec_read_vector size whole position left ≡ Ok (record { first = position + 4; count = count }, left - (4 + count * size))
unfolding spec_read_vector spec_charge_budget
vector_is size whole position left count e within le =
    let a : leb (position + 4 + count * size) (length whole) ≡ true = le-leb _ _ within in
    let b : leb (4 + count * size) left ≡ true = le-leb _ _ le in
    rw (e, a, b) refl

pub string_is : (whole : List ℕ) (position left : ℕ) (text rest : List ℕ) → number_at w32 whole position ≡ Ok (length text) → From whole (position + 4) (text ++ rest) → is_utf8 text ≡ true → 4 + length text ≤ left
    → spec_read_string whole position left ≡ Ok (text, left - (4 + length text))
unfolding spec_read_string
string_is whole position left text rest e h utf8 le =
    let one : length text * 1 ≡ length text = omega arith in
    let v : spec_read_vector 1 whole position left ≡ Ok (record { first = position + 4; count = length text }, left - (4 + length text)) =
    ap (λ (k : ℕ). spec_read_vector 1 whole position left) one ∙ vector_is 1 whole position left (length text) e (omega (arith, From-length whole (position + 4) (text ++ rest) h, length-append text rest)) (omega arith) ∙ ap (λ (k : ℕ). Ok (record { first = position + 4; count = length text }, left - (4 + k))) one in
    let t : take (length text) (drop (position + 4) whole) ≡ text = ap (take (length text)) h.is ∙ take_at text rest (length text) refl in
    rw (v, t, utf8) refl
