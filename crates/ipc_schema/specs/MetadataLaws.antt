-- Custom metadata round-trips.
use Rattle.std.proofs.Common.{◌≡◌, ℕ, ◌+◌, ◌-◌, ◌*◌, ◌^◌, ◌<◌, ◌≤◌, true, List, [], ◌∷◌, ◌++◌, map, length, Some, Ok, refl, sym, ◌∙◌, append_assoc, arith}
use Rattle.std.specs.BTreeMap.{insert_entry}
use Rattle.std.specs.Cmp.Lexicographic.{slice_cmp}
use Rattle.std.specs.List.{AllByRecursion}
use Rattle.std.specs.List.Sorted.{IsStrictlySortedBy}
use Rattle.std.specs.Map.{keys_of}
use Rattle.std.specs.Ordering.{nat_cmp}
use Rattle.std.specs.declared.cmp.Ordering.TheVariants.{Less, Greater}
use Rattle.std.specs.Str.{is_utf8}
use Rattle.std.proofs.lemmas.Cmp.{nat_list_cmp_total}
use Rattle.std.proofs.lemmas.List.{length-append, append-nil}
use Rattle.nest_memory.specs.TypeTree.{Letters, Entries}
use Rattle.ipc_flatbuf.specs.Flatbuffers.{spec_offset_at, spec_field_position, spec_read_table, spec_read_string, spec_items_at, spec_str_at}
use Rattle.ipc_flatbuf.specs.PartBytes.{u32_bytes, string_bytes, concatenated}
use Rattle.ipc_flatbuf.specs.FlatbufferLaws.{From, From-length, From_next}
use Rattle.ipc_flatbuf.specs.TemplateLaws.{From_at, offset_in, table_in, visit_in, field_in, string_long, string_round_trips}
use Rattle.ipc_flatbuf.specs.VectorLaws.{ReadsBackAs, EachReadsBackAs, table_vector_round_trips, table_vector_is_long}
use Rattle.ipc_schema.specs.Schemas.{spec_pair_at, with_pairs, spec_metadata_at}
use Rattle.ipc_schema.specs.SchemaBytes.{pair_bytes, entries_bytes}

-- ---- the order of keys

-- the keys and values are UTF-8
abbrev pub AreUtf8 : Entries → Type 0
AreUtf8 entries = AllByRecursion (λ entry. (is_utf8 entry.0 ≡ true) × (is_utf8 entry.1 ≡ true)) entries

abbrev pub AreSorted : Entries → Type 0
AreSorted entries = IsStrictlySortedBy (slice_cmp nat_cmp) (keys_of entries)

-- a key greater than all others is last
abbrev pub AreBelow : Letters → Entries → Type 0
AreBelow key entries = AllByRecursion (λ entry. slice_cmp nat_cmp key entry.0 ≡ Greater) entries

goes_behind : (key value : Letters) (entries : Entries) → AreBelow key entries → insert_entry (slice_cmp nat_cmp) entries key value ≡ entries ++ (key, value) ∷ []
goes_behind key value [] below = refl
goes_behind key value (entry ∷ entries) below = rw (below.0, goes_behind key value entries below.1) refl

-- the entries whose keys are greater than a key
above : (a b : Letters) → slice_cmp nat_cmp a b ≡ Less → slice_cmp nat_cmp b a ≡ Greater
above a b less = nat_list_cmp_total.antisymm b a ∙ rw less refl

below_more : (key : Letters) (front : Entries) (entry : Letters × Letters) → AreBelow key front → slice_cmp nat_cmp key entry.0 ≡ Greater → AreBelow key (front ++ entry ∷ [])
below_more key [] entry below greater = (greater, tt)
below_more key (first ∷ front) entry below greater = (below.0, below_more key front entry below.1 greater)

-- all keys of the front are less than those of the rest
abbrev pub AreApart : Entries → Entries → Type 0
AreApart front rest = AllByRecursion (λ entry. AreBelow entry.0 front) rest

grown : (front : Entries) (entry : Letters × Letters) (rest : Entries) → AreApart front rest → AllByRecursion (λ key. slice_cmp nat_cmp entry.0 key ≡ Less) (keys_of rest) → AreApart (front ++ entry ∷ []) rest
grown front entry [] apart less = tt
grown front entry (next ∷ rest) apart less = (below_more next.0 front entry apart.0 (above entry.0 next.0 less.0), grown front entry rest apart.1 less.1)

one_by_one : (front rest : Entries) → AreApart front rest → AreSorted rest → with_pairs front rest ≡ front ++ rest
unfolding IsStrictlySortedBy
one_by_one front [] apart rising = sym (append-nil front)
one_by_one front (entry ∷ rest) apart rising =
    rw (goes_behind entry.0 entry.1 front apart.0) (one_by_one (front ++ entry ∷ []) rest (grown front entry rest apart.1 rising.0) rising.1 ∙ append_assoc front (entry ∷ []) rest)

none_below : (rest : Entries) → AreApart [] rest
none_below [] = tt
none_below (entry ∷ rest) = (tt, none_below rest)

-- sorted pairs are their own entries
pub sorted_entries_round_trip : (entries : Entries) → AreSorted entries → with_pairs [] entries ≡ entries
sorted_entries_round_trip entries rising = one_by_one [] entries (none_below entries) rising

-- ---- pairs

unfoldable pub pair_cost : Letters × Letters → ℕ
pair_cost pair = 16 + length pair.0 + length pair.1

pub pair_long : (pair : Letters × Letters) → pair_cost pair + 10 ≤ length (pair_bytes pair)
unfolding pair_bytes u32_bytes pair_cost
pair_long pair = omega (arith, string_long pair.0, string_long pair.1, length-append (string_bytes pair.0) (string_bytes pair.1))

-- a part is at most as long as all parts
pub one_of : (front : List (List ℕ)) (part : List ℕ) (rest : List (List ℕ)) → length part ≤ length (concatenated (front ++ part ∷ rest))
unfolding concatenated
one_of [] part rest = omega (arith, length-append part (concatenated rest))
one_of (first ∷ front) part rest = omega (arith, one_of front part rest, length-append first (concatenated (front ++ part ∷ rest)))

pair_in : (pair : Letters × Letters) (whole : List ℕ) (p q left : ℕ) (after : List ℕ) → is_utf8 pair.0 ≡ true → is_utf8 pair.1 ≡ true → From whole p (pair_bytes pair ++ after) → length whole < 2 ^ 32 → q ≡ p + 8 → pair_cost pair ≤ left
    → spec_pair_at whole q left ≡ Ok (pair, left - pair_cost pair)
unfolding spec_pair_at pair_bytes u32_bytes spec_str_at pair_cost
pair_in pair whole p q left after key_text value_text h small at le =
    let key : List ℕ = string_bytes pair.0 in
    let value : List ℕ = string_bytes pair.1 in
    let part : List ℕ = pair_bytes pair ++ after in
    let ends = From-length whole p part h in
    let keys = string_long pair.0 in
    let values = string_long pair.1 in
    let long : 24 + length key + length value ≤ length part = omega (arith, length-append (key ++ value) after, length-append key value) in
    let v : spec_read_table whole (p + 8) left ≡ Ok (table_in p 8 8, left - 8) = visit_in whole p part 8 8 left h (omega arith) (omega arith) (omega arith) (omega arith) refl refl refl (omega arith) in
    let f0 : spec_field_position whole (table_in p 8 8) 0 ≡ Ok (Some (p + 8 + 4)) = field_in whole p part 8 8 0 4 h (omega arith) (omega arith) (omega arith) refl in
    let f1 : spec_field_position whole (table_in p 8 8) 1 ≡ Ok (Some (p + 8 + 8)) = field_in whole p part 8 8 1 8 h (omega arith) (omega arith) (omega arith) refl in
    let o0 : spec_offset_at whole (p + 8 + 4) ≡ Ok (p + 8 + 4 + 12) = offset_in whole p part 12 (p + 8 + 4) 12 h (omega arith) (omega arith) (omega arith) refl in
    let o1 : spec_offset_at whole (p + 8 + 8) ≡ Ok (p + 8 + 8 + (8 + length key)) = offset_in whole p part 16 (p + 8 + 8) (8 + length key) h (omega arith) (omega arith) (omega arith) refl in
    let first : From whole (p + 8 + 4 + 12) (key ++ (value ++ after)) = From_at whole p (p + 8 + 4 + 12) 24 part (key ++ (value ++ after)) h (omega arith) (omega arith) (append_assoc key value after) in
    let second : From whole (p + 8 + 4 + 12 + length key) (value ++ after) = From_next whole (p + 8 + 4 + 12) key (value ++ after) first in
    let there : p + 8 + 8 + (8 + length key) ≡ p + 8 + 4 + 12 + length key = omega arith in
    let k : spec_read_string whole (p + 8 + 4 + 12) (left - 8) ≡ Ok (pair.0, left - 8 - (4 + length pair.0)) = string_round_trips pair.0 whole (p + 8 + 4 + 12) (left - 8) (value ++ after) key_text first small (omega arith) in
    let w : spec_read_string whole (p + 8 + 4 + 12 + length key) (left - 8 - (4 + length pair.0)) ≡ Ok (pair.1, left - 8 - (4 + length pair.0) - (4 + length pair.1)) =
    string_round_trips pair.1 whole (p + 8 + 4 + 12 + length key) (left - 8 - (4 + length pair.0)) after value_text second small (omega arith) in
    let spent : left - 8 - (4 + length pair.0) - (4 + length pair.1) ≡ left - (16 + length pair.0 + length pair.1) = omega arith in
    rw (at, v, f0, o0, k, f1, o1, there, w, spent) refl

unfoldable pub pairs_cost : Entries → ℕ
pairs_cost [] = 0
pairs_cost (entry ∷ entries) = pair_cost entry + pairs_cost entries

pairs_again : (entries : Entries) → AreUtf8 entries → EachReadsBackAs spec_pair_at 8 (map pair_bytes entries) entries (pairs_cost entries)
unfolding pairs_cost
pairs_again [] texts = refl
pairs_again (entry ∷ entries) texts = (pair_cost entry, pairs_cost entries, one, pairs_again entries texts.1, refl)
  where
    one : ReadsBackAs spec_pair_at 8 (pair_bytes entry) entry (pair_cost entry)
    one = record {
      law = λ whole p q left after h small at le. pair_in entry whole p q left after texts.0.0 texts.0.1 h small at le;
      long = unfold pair_cost in omega (arith, pair_long entry);
    }

-- the cost of reading custom metadata
abbrev pub entries_cost : Entries → ℕ
entries_cost entries = 4 + length (map pair_bytes entries) * 4 + pairs_cost entries

pairs_pay : (entries : Entries) → pairs_cost entries ≤ length (concatenated (map pair_bytes entries))
unfolding pairs_cost concatenated
pairs_pay [] = omega arith
pairs_pay (entry ∷ entries) = omega (arith, pair_long entry, pairs_pay entries, length-append (pair_bytes entry) (concatenated (map pair_bytes entries)))

pub entries_pay : (entries : Entries) → entries_cost entries ≤ length (entries_bytes entries)
entries_pay entries = omega (arith, pairs_pay entries, table_vector_is_long 8 (map pair_bytes entries))

pub metadata_round_trips : (entries : Entries) (whole : List ℕ) (p left : ℕ) (after : List ℕ) → AreUtf8 entries → AreSorted entries → From whole p (entries_bytes entries ++ after) → length whole < 2 ^ 32 → entries_cost entries ≤ left
    → spec_metadata_at whole (Some p) left ≡ Ok (entries, left - entries_cost entries)
unfolding spec_metadata_at spec_items_at
metadata_round_trips entries whole p left after texts rising h small le =
    let n : ℕ = length (map pair_bytes entries) in
    let row = table_vector_round_trips spec_pair_at 8 (map pair_bytes entries) entries (pairs_cost entries) whole p left after (pairs_again entries texts) h small le in
    let spent : left - (4 + n * 4) - pairs_cost entries ≡ left - entries_cost entries = omega arith in
    rw (row.vector, row.tables, sorted_entries_round_trip entries rising, spent) refl
