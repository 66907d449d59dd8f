-- Fields round-trip.
use Rattle.std.proofs.Common.{◌≡◌, ℕ, zero, suc, ◌+◌, ◌-◌, ◌*◌, ◌^◌, ◌<◌, ◌≤◌, Bool, true, false, List, [], ◌∷◌, ◌++◌, length, drop, Option, Some, None, Result, Ok, refl, ap, ◌∙◌, subst, append_assoc, arith}
use Rattle.std.specs.Prelude.{ℤ, pos}
use Rattle.std.specs.Int.{w8, w32, w64, from_bool, from_le_bytes, to_le_bytes}
use Rattle.std.specs.List.{AllByRecursion}
use Rattle.std.specs.Str.{is_utf8}
use Rattle.std.proofs.lemmas.Int.{ints}
use Rattle.std.proofs.lemmas.List.{append-nil, length-append}
use Rattle.nest_memory.specs.Physical.{integer_tree}
use Rattle.nest_memory.specs.TypeTree.{Letters, Entries, TypeTree, FieldTree, field, field_type}
use Rattle.ipc_flatbuf.specs.declared.error.IpcReadError.{IpcReadError}
use Rattle.ipc_flatbuf.specs.declared.error.IpcWriteError.{IpcWriteError}
use Rattle.ipc_flatbuf.specs.declared.error.IpcWriteError.TheVariants as reasons
use Rattle.ipc_flatbuf.specs.Flatbuffers.{number_at, signed_at, spec_offset_at, spec_offset_field, spec_field_position, spec_read_table, spec_read_string, spec_str_at, spec_items_at}
use Rattle.ipc_flatbuf.specs.PartBytes.{u32_bytes, i64_bytes, string_bytes, concatenated, table_vector_bytes}
use Rattle.ipc_flatbuf.specs.FlatbufferLaws.{From, From-length, From_next, number_in, field_is_past}
use Rattle.ipc_flatbuf.specs.TemplateLaws.{From_at, offset_in, table_in, visit_in, field_in, field_out, i64_in, flag_round_trips, string_long, string_round_trips}
use Rattle.ipc_flatbuf.specs.VectorLaws.{ReadsBackAs, table_vector_is_long}
use Rattle.ipc_schema.specs.FieldVectors.{ReadsBackBy, EachReadsBackBy, table_vector_is_read, tables_are_read}
use Rattle.ipc_schema.specs.declared.dictionaries.Encoding.{Encoding}
use Rattle.ipc_schema.specs.Dictionaries.{ValueTypeModel, DictionaryTypesModel, Progress, no_dictionaries, progress, spec_record_id, spec_record_values, spec_with_encoding, spec_key_at, spec_encoding_at, spec_dictionary_at}
use Rattle.ipc_schema.specs.Types.{spec_shape_at, spec_children_of}
use Rattle.ipc_schema.specs.Extensions.{spec_names_reserved, field_with_metadata, spec_storage_type, spec_table_type, all_metadata_of}
use Rattle.ipc_schema.specs.ExtensionLaws.{field_round_trips, no_reserved_is_named}
use Rattle.ipc_schema.specs.Schemas.{spec_metadata_at, spec_field_over, spec_field_at}
use Rattle.ipc_schema.specs.WriteChecks.{and_then_check, spec_require, is_not_nested_extension, spec_can_encode, spec_has_no_reserved_key, spec_check_type, spec_check_own, spec_check_each, spec_check_field, check_fields}
use Rattle.ipc_schema.specs.DictionaryIds.{index_type_of, encoding_with_id, spec_encoding_of, next_after, next_after_own, total, each_from, count_dictionaries, count_all, ids_from, own_value_types, flattened, value_types_from, with_ids_from, types_after, types_after_all}
use Rattle.ipc_schema.specs.DictionaryIdLaws.{Keys, AreWithin, encoding_round_trips, ids_more, within_more, within_both, own_is_new, behind_counts, behind_at_most, named_within, all_within, each_long}
use Rattle.ipc_schema.specs.SchemaBytes.{type_bytes, spec_type_number, encoding_head, encoding_part, encoding_bytes, field_vtable, field_head, field_parts, parts_of_field, field_bytes, each_bytes, entries_bytes}
use Rattle.ipc_schema.specs.TypeLaws.{TypeFits, both, passes, own_shape, type_cost, TypeIs, type_is, type_pays, key_read, key_long}
use Rattle.ipc_schema.specs.StoredArrayLaws.{is_not_stored_otherwise}
use Rattle.ipc_schema.specs.MetadataLaws.{AreUtf8, AreSorted, entries_cost, entries_pay, metadata_round_trips}

-- ---- fields that can be written

-- the table of the field can be written, all its metadata does not name a floating-point type, and the field is read from
-- its storage type and all its metadata
pub record IsPlain (name : Letters) (type : TypeTree) (nullable : Bool) (entries : Entries) : Type 0 where
  pub form : spec_check_type (spec_table_type type) ≡ Ok tt
  pub unreserved : spec_names_reserved (all_metadata_of type entries) ≡ false
  pub back : field_with_metadata name (spec_storage_type type) nullable (all_metadata_of type entries) ≡ field name type nullable entries

plain_is : (name : Letters) (type : TypeTree) (nullable : Bool) (entries : Entries) → spec_check_own (field name type nullable entries) ≡ Ok tt → IsPlain name type nullable entries
unfolding spec_check_own
plain_is name type nullable entries h =
    let free : Result (Unit {0}) IpcWriteError = spec_require (spec_has_no_reserved_key type entries) reasons.Extension in
    let encodes : Result (Unit {0}) IpcWriteError = spec_require (spec_can_encode (spec_storage_type type)) reasons.Dictionary in
    let first = both (spec_require (is_not_nested_extension type) reasons.Extension) (and_then_check encodes (and_then_check free (spec_check_type (spec_table_type type)))) h in
    let second = both encodes (and_then_check free (spec_check_type (spec_table_type type))) first.1 in
    let third = both free (spec_check_type (spec_table_type type)) second.1 in
    let are = passes (spec_has_no_reserved_key type entries) reasons.Extension third.0 in
    record { form = third.1; unreserved = no_reserved_is_named type entries are; back = field_round_trips name type nullable entries are }

-- the invariants of a Rust Field and its descendants, to a depth
unfoldable pub FieldFits : ℕ → FieldTree → Type 0
FieldFits zero f = Unit {0}
FieldFits (suc depth) (field name type nullable entries) =
    (is_utf8 name ≡ true) × TypeFits (spec_table_type type) × AreUtf8 (all_metadata_of type entries) × AreSorted (all_metadata_of type entries) × AllByRecursion (FieldFits depth) (spec_children_of (spec_table_type type))

abbrev pub AllFit : List FieldTree → Type 0
AllFit fields = AllByRecursion (FieldFits 64) fields

-- ---- dictionaries

-- the cost of reading an encoding
abbrev pub encoding_cost : {A : Type 0} → Option A → ℕ
encoding_cost None = 0
encoding_cost (Some x) = 16

pub encoding_long : (e : Encoding) → length (encoding_part e) ≡ 64
unfolding encoding_part encoding_head i64_bytes
encoding_long e = omega (arith, key_long e.key)

pub encoding_pays : (id : ℕ) (keys : Keys) → encoding_cost keys ≤ length (encoding_bytes (encoding_with_id id keys))
encoding_pays id None = omega arith
encoding_pays id (Some keys) = omega (arith, encoding_long (record { id = pos id; key = keys.0; is_ordered = keys.1 }))

encoding_read : (e : Encoding) (id : ℕ) → e.id ≡ pos id → id < 2 ^ 63 → ReadsBackAs spec_encoding_at 16 (encoding_part e) e 16
unfolding spec_encoding_at encoding_part encoding_head i64_bytes spec_key_at
encoding_read e id is few = record {
  law = λ whole p q left after h small at le.
      let part : List ℕ = encoding_part e ++ after in
      let ends = From-length whole p part h in
      let table : From whole (p + 4) (drop 4 part) = From_at whole p (p + 4) 4 part (drop 4 part) h (omega arith) refl refl in
      let here : q ≡ p + 4 + 12 = omega arith in
      let v : spec_read_table whole (p + 4 + 12) left ≡ Ok (table_in (p + 4) 12 10, left - 8) = visit_in whole (p + 4) (drop 4 part) 12 10 left table (omega arith) (omega arith) (omega arith) (omega arith) refl refl refl (omega arith) in
      let f0 : spec_field_position whole (table_in (p + 4) 12 10) 0 ≡ Ok (Some (p + 4 + 12 + 8)) = field_in whole (p + 4) (drop 4 part) 12 10 0 8 table (omega arith) (omega arith) (omega arith) refl in
      let f1 : spec_field_position whole (table_in (p + 4) 12 10) 1 ≡ Ok (Some (p + 4 + 12 + 4)) = field_in whole (p + 4) (drop 4 part) 12 10 1 4 table (omega arith) (omega arith) (omega arith) refl in
      let f2 : spec_field_position whole (table_in (p + 4) 12 10) 2 ≡ Ok (Some (p + 4 + 12 + 16)) = field_in whole (p + 4) (drop 4 part) 12 10 2 16 table (omega arith) (omega arith) (omega arith) refl in
      let f3 : spec_field_position whole (table_in (p + 4) 12 10) 3 ≡ Ok None = field_is_past whole (table_in (p + 4) 12 10) 3 (omega arith) in
      let named : signed_at w64 whole (p + 4 + 12 + 8) ≡ Ok e.id = i64_in whole p part 24 (p + 4 + 12 + 8) e.id h (omega arith) (omega arith) (omega (arith, ints, is)) refl in
      let ordered : number_at w8 whole (p + 4 + 12 + 16) ≡ Ok (from_bool e.is_ordered) = number_in w8 whole p part 32 (p + 4 + 12 + 16) h (omega arith) (omega arith) in
      let to : spec_offset_at whole (p + 4 + 12 + 4) ≡ Ok (p + 4 + 12 + 4 + 32) = offset_in whole p part 20 (p + 4 + 12 + 4) 32 h (omega arith) (omega arith) (omega arith) refl in
      let keys : From whole (p + 40) (type_bytes (integer_tree e.key) ++ after) = From_at whole p (p + 40) 40 part (type_bytes (integer_tree e.key) ++ after) h (omega arith) refl refl in
      let key = (key_read e.key).law whole (p + 40) (p + 4 + 12 + 4 + 32) (left - 8) after keys small (omega arith) (omega arith) in
      let spent : left - 8 - 8 ≡ left - 16 = omega arith in
      rw (here, v, f0, named, f2, ordered, f1, to, key, f3, flag_round_trips e.is_ordered, spent) refl;
  long = omega (arith, encoding_long e);
}

first_offset : (e : Encoding) (rest : List ℕ) → from_le_bytes w32 (drop 0 (encoding_part e ++ rest)) ≡ from_le_bytes w32 (to_le_bytes w32 16)
unfolding encoding_part encoding_head
first_offset e rest = refl

-- the position of the encoding of a field
pub record DictionaryIs (whole : List ℕ) (p left id : ℕ) (keys : Keys) : Type 0 where
  pub to : Option ℕ
  pub there : spec_offset_field whole (table_in p 24 18) 4 ≡ Ok to
  pub read : spec_dictionary_at whole to left ≡ Ok (encoding_with_id id keys, left - encoding_cost keys)

dictionary_is : (nullable : Bool) (tag a b c d : ℕ) (whole : List ℕ) (p left id : ℕ) (keys : Keys) (rest : List ℕ) → id < 2 ^ 63
    → From whole p (field_head nullable tag (encoding_with_id id keys) a b c d ++ (encoding_bytes (encoding_with_id id keys) ++ rest)) → length whole < 2 ^ 32 → encoding_cost keys ≤ left → DictionaryIs whole p left id keys
unfolding field_vtable field_head u32_bytes
dictionary_is nullable tag a b c d whole p left id None rest few h small le =
    let part : List ℕ = field_head nullable tag None a b c d ++ rest in
    let f4 : spec_field_position whole (table_in p 24 18) 4 ≡ Ok None = field_out whole p part 24 18 4 h (omega arith) (omega arith) refl in
    let spent : left ≡ left - 0 = omega arith in
    record { to = None; there = rw f4 refl; read = ap (λ (n : ℕ). Ok (None, n)) spent }
dictionary_is nullable tag a b c d whole p left id (Some keys) rest few h small le =
    let e : Encoding = record { id = pos id; key = keys.0; is_ordered = keys.1 } in
    let part : List ℕ = field_head nullable tag (Some e) a b c d ++ (encoding_part e ++ rest) in
    let f4 : spec_field_position whole (table_in p 24 18) 4 ≡ Ok (Some (p + 24 + 24)) = field_in whole p part 24 18 4 24 h (omega arith) (omega arith) (omega arith) refl in
    let table : From whole (p + 48) (encoding_part e ++ rest) = From_at whole p (p + 48) 48 part (encoding_part e ++ rest) h (omega arith) refl refl in
    let o4 : spec_offset_at whole (p + 24 + 24) ≡ Ok (p + 24 + 24 + 16) = offset_in whole (p + 48) (encoding_part e ++ rest) 0 (p + 24 + 24) 16 table (omega (arith, length-append (encoding_part e) rest, encoding_long e)) (omega arith) (omega arith) (first_offset e rest) in
    let read = (encoding_read e id refl few).law whole (p + 48) (p + 24 + 24 + 16) left rest table small (omega arith) le in
    record { to = Some (p + 24 + 24 + 16); there = rw (f4, o4) refl; read = rw read refl }

-- ---- fields

-- the cost of reading a field, given that of its children
abbrev pub own_cost : Letters → Keys → TypeTree → Entries → ℕ → ℕ
own_cost name keys type entries inner = 16 + length name + 4 * length (spec_children_of type) + type_cost type + encoding_cost keys + inner + entries_cost entries

unfoldable pub field_cost : ℕ → FieldTree → ℕ
field_cost zero f = 0
field_cost (suc depth) (field name type nullable entries) = own_cost name (index_type_of (spec_storage_type type)) (spec_table_type type) (all_metadata_of type entries) (total (field_cost depth) (spec_children_of (spec_table_type type)))

pub field_parts_long : (nullable : Bool) (tag : ℕ) (dictionary : Option Encoding) (type children name metadata : List ℕ)
    → length (field_parts nullable tag dictionary type children name metadata) ≡ 48 + length (encoding_bytes dictionary) + length type + length children + length name + length metadata
unfolding field_parts field_vtable field_head u32_bytes
field_parts_long nullable tag dictionary type children name metadata =
    omega (arith, length-append (encoding_bytes dictionary) (type ++ (children ++ (name ++ metadata))), length-append type (children ++ (name ++ metadata)), length-append children (name ++ metadata), length-append name metadata)

-- one level, whose children are read from their bytes
module _ (read : List ℕ → ℕ → Progress → Result (FieldTree × Progress) IpcReadError) (bodies : List (List ℕ)) (inner : ℕ) (name : Letters) (id : ℕ) (keys : Keys) (type : TypeTree) (nullable : Bool) (entries : Entries) (seen middle last : DictionaryTypesModel) where
  -- whatever budget is left, after the id of the field
  abbrev pub AreChildren : Type 0
  AreChildren = (left : ℕ) → inner ≤ left → EachReadsBackBy read 24 bodies (spec_children_of type) (progress left (spec_record_id (encoding_with_id id keys) seen)) (progress (left - inner) middle)

  -- the id is new after them
  abbrev pub IsNamed : Type 0
  IsNamed = spec_record_values (encoding_with_id id keys) type (length seen.ids) middle ≡ Ok last

  level_again : (whole : List ℕ) (p q left : ℕ) (after : List ℕ) → TypeIs type (length bodies) → AreChildren → IsNamed → spec_names_reserved entries ≡ false → id < 2 ^ 63 → length bodies ≡ length (spec_children_of type)
      → is_utf8 name ≡ true → AreUtf8 entries → AreSorted entries → From whole p (parts_of_field nullable (encoding_with_id id keys) type (table_vector_bytes 24 bodies) name entries ++ after) → length whole < 2 ^ 32 → q ≡ p + 24 → own_cost name keys type entries inner ≤ left
      → spec_field_over (read whole) whole q (progress left seen) ≡ Ok (field_with_metadata name (spec_with_encoding (encoding_with_id id keys) type) nullable entries, progress (left - own_cost name keys type entries inner) last)
  unfolding field_parts field_vtable field_head u32_bytes spec_str_at spec_items_at
  level_again whole p q left after is are named unreserved few many utf8 pairs rising whole_is small at le =
      let table : List ℕ = type_bytes type in
      let row : List ℕ = table_vector_bytes 24 bodies in
      let n : ℕ = length table in
      let m : ℕ = length row in
      let k : ℕ = length bodies in
      let text : List ℕ = string_bytes name in
      let metadata : List ℕ = entries_bytes entries in
      let dictionary : List ℕ = encoding_bytes (encoding_with_id id keys) in
      let e : ℕ = length dictionary in
      let texts = string_long name in
      let rows = table_vector_is_long 24 bodies in
      let behind_row : List ℕ = text ++ (metadata ++ after) in
      let tail : List ℕ = row ++ behind_row in
      let head : List ℕ = field_head nullable (spec_type_number type) (encoding_with_id id keys) e (e + n) (e + n + m) (e + n + m + length text) in
      let part : List ℕ = head ++ (dictionary ++ (table ++ tail)) in
      let regrouped : parts_of_field nullable (encoding_with_id id keys) type row name entries ++ after ≡ part =
      ap (λ (r : List ℕ). head ++ r) (append_assoc dictionary (table ++ (row ++ (text ++ metadata))) after
      ∙ ap (λ (r : List ℕ). dictionary ++ r) (append_assoc table (row ++ (text ++ metadata)) after ∙ ap (λ (r : List ℕ). table ++ r) (append_assoc row (text ++ metadata) after ∙ ap (λ (r : List ℕ). row ++ r) (append_assoc text metadata after)))) in
      let h : From whole p part = subst (λ (l : List ℕ). From whole p l) regrouped whole_is in
      let ends = From-length whole p part h in
      let first : From whole (p + 48) (dictionary ++ (table ++ tail)) = From_at whole p (p + 48) 48 part (dictionary ++ (table ++ tail)) h (omega arith) refl refl in
      let types : From whole (p + 48 + e) (table ++ tail) = From_next whole (p + 48) dictionary (table ++ tail) first in
      let below : From whole (p + 48 + e + n) tail = From_next whole (p + 48 + e) table tail types in
      let names : From whole (p + 48 + e + n + m) behind_row = From_next whole (p + 48 + e + n) row behind_row below in
      let long = From-length whole (p + 48 + e + n + m) behind_row names in
      let all : length behind_row ≡ length text + length metadata + length after = omega (arith, length-append text (metadata ++ after), length-append metadata after) in
      let v : spec_read_table whole (p + 24) left ≡ Ok (table_in p 24 18, left - 8) = visit_in whole p part 24 18 left h (omega arith) (omega arith) (omega arith) (omega arith) refl refl refl (omega arith) in
      let f0 : spec_field_position whole (table_in p 24 18) 0 ≡ Ok (Some (p + 24 + 4)) = field_in whole p part 24 18 0 4 h (omega arith) (omega arith) (omega arith) refl in
      let f1 : spec_field_position whole (table_in p 24 18) 1 ≡ Ok (Some (p + 24 + 20)) = field_in whole p part 24 18 1 20 h (omega arith) (omega arith) (omega arith) refl in
      let f2 : spec_field_position whole (table_in p 24 18) 2 ≡ Ok (Some (p + 24 + 21)) = field_in whole p part 24 18 2 21 h (omega arith) (omega arith) (omega arith) refl in
      let f3 : spec_field_position whole (table_in p 24 18) 3 ≡ Ok (Some (p + 24 + 8)) = field_in whole p part 24 18 3 8 h (omega arith) (omega arith) (omega arith) refl in
      let f5 : spec_field_position whole (table_in p 24 18) 5 ≡ Ok (Some (p + 24 + 12)) = field_in whole p part 24 18 5 12 h (omega arith) (omega arith) (omega arith) refl in
      let f6 : spec_field_position whole (table_in p 24 18) 6 ≡ Ok (Some (p + 24 + 16)) = field_in whole p part 24 18 6 16 h (omega arith) (omega arith) (omega arith) refl in
      let o0 : spec_offset_at whole (p + 24 + 4) ≡ Ok (p + 24 + 4 + (20 + (e + n + m))) = offset_in whole p part 28 (p + 24 + 4) (20 + (e + n + m)) h (omega arith) (omega arith) (omega arith) refl in
      let o3 : spec_offset_at whole (p + 24 + 8) ≡ Ok (p + 24 + 8 + (28 + e)) = offset_in whole p part 32 (p + 24 + 8) (28 + e) h (omega arith) (omega arith) (omega arith) refl in
      let o5 : spec_offset_at whole (p + 24 + 12) ≡ Ok (p + 24 + 12 + (12 + (e + n))) = offset_in whole p part 36 (p + 24 + 12) (12 + (e + n)) h (omega arith) (omega arith) (omega arith) refl in
      let o6 : spec_offset_at whole (p + 24 + 16) ≡ Ok (p + 24 + 16 + (8 + (e + n + m + length text))) = offset_in whole p part 40 (p + 24 + 16) (8 + (e + n + m + length text)) h (omega arith) (omega arith) (omega arith) refl in
      let b : number_at w8 whole (p + 24 + 20) ≡ Ok (from_bool nullable) = number_in w8 whole p part 44 (p + 24 + 20) h (omega arith) (omega arith) in
      let g : number_at w8 whole (p + 24 + 21) ≡ Ok (spec_type_number type) = number_in w8 whole p part 45 (p + 24 + 21) h (omega arith) (omega arith) in
      let name_place : p + 24 + 4 + (20 + (e + n + m)) ≡ p + 48 + e + n + m = omega arith in
      let row_place : p + 24 + 12 + (12 + (e + n)) ≡ p + 48 + e + n = omega arith in
      let metadata_place : p + 24 + 16 + (8 + (e + n + m + length text)) ≡ p + 48 + e + n + m + length text = omega arith in
      let s : spec_read_string whole (p + 48 + e + n + m) (left - 8) ≡ Ok (name, left - 8 - (4 + length name)) = string_round_trips name whole (p + 48 + e + n + m) (left - 8) (metadata ++ after) utf8 names small (omega arith) in
      let rest : ℕ = left - 8 - (4 + length name) in
      let c = table_vector_is_read 24 bodies whole (p + 48 + e + n) rest behind_row below small (omega arith) in
      let i : spec_shape_at is.tag k whole (p + 24 + 8 + (28 + e)) (rest - (4 + k * 4)) ≡ Ok (own_shape type, rest - (4 + k * 4) - type_cost type) = is.read.law whole (p + 48 + e) (p + 24 + 8 + (28 + e)) (rest - (4 + k * 4)) tail types small (omega arith) (omega arith) in
      let d = dictionary_is nullable (spec_type_number type) e (e + n) (e + n + m) (e + n + m + length text) whole p (rest - (4 + k * 4) - type_cost type) id keys (table ++ tail) few h small (omega arith) in
      let then : ℕ = rest - (4 + k * 4) - type_cost type - encoding_cost keys in
      let c' = tables_are_read read 24 bodies (spec_children_of type) (progress then (spec_record_id (encoding_with_id id keys) seen)) (progress (then - inner) middle) whole (p + 48 + e + n) behind_row (are then (omega arith)) below small in
      let rest' : ℕ = then - inner in
      let next_after : From whole (p + 48 + e + n + m + length text) (metadata ++ after) = From_next whole (p + 48 + e + n + m) text (metadata ++ after) names in
      let w : spec_metadata_at whole (Some (p + 48 + e + n + m + length text)) rest' ≡ Ok (entries, rest' - entries_cost entries) = metadata_round_trips entries whole (p + 48 + e + n + m + length text) rest' after pairs rising next_after small (omega arith) in
      let spent : rest' - entries_cost entries ≡ left - own_cost name keys type entries inner = omega arith in
      rw (at, v, f0, o0, name_place, s, f1, b, f2, g, f3, o3, is.number, f5, o5, row_place, c, i, d.there, d.read, is.counted, c', f6, o6, metadata_place, w, unreserved, is.back, named, flag_round_trips nullable, spent) refl

  pub level_is : TypeIs type (length bodies) → AreChildren → IsNamed → spec_names_reserved entries ≡ false → id < 2 ^ 63 → length bodies ≡ length (spec_children_of type) → is_utf8 name ≡ true → AreUtf8 entries → AreSorted entries → (left : ℕ) → own_cost name keys type entries inner ≤ left
      → ReadsBackBy (λ whole. spec_field_over (read whole) whole) 24 (parts_of_field nullable (encoding_with_id id keys) type (table_vector_bytes 24 bodies) name entries) (field_with_metadata name (spec_with_encoding (encoding_with_id id keys) type) nullable entries) (progress left seen) (progress (left - own_cost name keys type entries inner) last)
  level_is is are named unreserved few many utf8 pairs rising left le = record {
    law = λ whole p q after h small at. level_again whole p q left after is are named unreserved few many utf8 pairs rising h small at le;
    long = omega (arith, field_parts_long nullable (spec_type_number type) (encoding_with_id id keys) (type_bytes type) (table_vector_bytes 24 bodies) (string_bytes name) (entries_bytes entries));
  }

-- ---- lists of fields

-- the first of fields that can be written, and the rest
pub split : (form : FieldTree → Result (Unit {0}) IpcWriteError) (f : FieldTree) (fs : List FieldTree) → spec_check_each form (f ∷ fs) ≡ Ok tt → (form f ≡ Ok tt) × (spec_check_each form fs ≡ Ok tt)
unfolding spec_check_each
split form f fs h = both (form f) (spec_check_each form fs) h

nothing_more : (next : ℕ) (seen : DictionaryTypesModel) → seen ≡ with_ids_from next 0 [] seen
unfolding ids_from
nothing_more next seen = rw (append-nil seen.ids, append-nil seen.named) refl

more_twice : (next a b : ℕ) (front next_after : List (ℤ × ValueTypeModel)) (seen : DictionaryTypesModel) → with_ids_from (next + a) b next_after (with_ids_from next a front seen) ≡ with_ids_from next (a + b) (front ++ next_after) seen
more_twice next a b front next_after seen = rw (append_assoc seen.ids (ids_from next a) (ids_from (next + a) b), append_assoc seen.named front next_after, ids_more next a b) refl

-- a field is read where the ids from next on are new
abbrev pub IsReadAt : ℕ → FieldTree → Type 0
IsReadAt depth f = (next : ℕ) (seen : DictionaryTypesModel) (left : ℕ) → AreWithin 0 next seen.named → next + count_dictionaries depth f ≤ 2 ^ 62 → field_cost depth f ≤ left
    → ReadsBackBy (spec_field_at depth) 24 (field_bytes depth next f) f (progress left seen) (progress (left - field_cost depth f) (types_after depth next f seen))

each_again : (depth : ℕ) → ((f : FieldTree) → spec_check_field depth f ≡ Ok tt → FieldFits depth f → IsReadAt depth f)
    → (fs : List FieldTree) → spec_check_each (spec_check_field depth) fs ≡ Ok tt → AllByRecursion (FieldFits depth) fs → (next : ℕ) (seen : DictionaryTypesModel) (left : ℕ) → AreWithin 0 next seen.named → next + total (count_dictionaries depth) fs ≤ 2 ^ 62 → total (field_cost depth) fs ≤ left
    → EachReadsBackBy (spec_field_at depth) 24 (each_bytes depth next fs) fs (progress left seen) (progress (left - total (field_cost depth) fs) (types_after_all depth next fs seen))
unfolding total each_from flattened
each_again depth one [] form fits next seen left new few le =
    let spent : left ≡ left - 0 = omega arith in
    let same = nothing_more next seen in
    λ i. progress (spent i) (same i)
each_again depth one (f ∷ fs) form fits next seen left new few le =
    let s = split (spec_check_field depth) f fs form in
    let n : ℕ = count_dictionaries depth f in
    let m : ℕ = total (count_dictionaries depth) fs in
    let first : DictionaryTypesModel = types_after depth next f seen in
    let old : AreWithin 0 (next + n) seen.named = within_more 0 (next + n) 0 next seen.named (omega arith) (omega arith) new in
    let own : AreWithin 0 (next + n) (value_types_from depth next f) = within_more 0 (next + n) next (next + n) (value_types_from depth next f) (omega arith) (omega arith) (named_within depth next f) in
    let both_are : AreWithin 0 (next + n) first.named = within_both 0 (next + n) seen.named (value_types_from depth next f) old own in
    let rest = each_again depth one fs s.1 fits.1 (next + n) first (left - field_cost depth f) both_are (omega arith) (omega arith) in
    let spent : left - field_cost depth f - total (field_cost depth) fs ≡ left - (field_cost depth f + total (field_cost depth) fs) = omega arith in
    let same = more_twice next n m (value_types_from depth next f) (flattened (each_from (count_dictionaries depth) (value_types_from depth) (next + n) fs)) seen in (
      progress (left - field_cost depth f) first,
      one f s.0 fits.0 next seen left new (omega arith) (omega arith),
      subst (λ (p : Progress). EachReadsBackBy (spec_field_at depth) 24 (each_bytes depth (next + n) fs) fs (progress (left - field_cost depth f) first) p) (λ i. progress (spent i) (same i)) rest,
    )

-- the checks of a field and of its children
pub own_and_inner : (depth : ℕ) (f : FieldTree) → spec_check_field (suc depth) f ≡ Ok tt → (spec_check_own f ≡ Ok tt) × (spec_check_each (spec_check_field depth) (spec_children_of (spec_table_type (field_type f))) ≡ Ok tt)
unfolding spec_check_field
own_and_inner depth f form = both (spec_check_own f) (spec_check_each (spec_check_field depth) (spec_children_of (spec_table_type (field_type f)))) form

no_depth : (f : FieldTree) → spec_check_field 0 f ≡ Ok tt → ⊥
unfolding spec_check_field
no_depth f form = cc form

-- after the id of a field
still_new : (keys : Keys) (id : ℕ) (seen : DictionaryTypesModel) → AreWithin 0 id seen.named → AreWithin 0 (next_after keys id) (spec_record_id (encoding_with_id id keys) seen).named
still_new None id seen new = new
still_new (Some keys) id seen new = within_more 0 (suc id) 0 id seen.named (omega arith) (omega arith) new

pub field_part_round_trips : (depth : ℕ) (f : FieldTree) → spec_check_field depth f ≡ Ok tt → FieldFits depth f → IsReadAt depth f
unfolding spec_field_at field_bytes field_cost FieldFits count_dictionaries value_types_from
field_part_round_trips zero f form fits = absurd (no_depth f form)
field_part_round_trips (suc depth) (field name type nullable entries) form fits = λ next seen left new few le.
    let parts = own_and_inner depth (field name type nullable entries) form in
    let plain = plain_is name type nullable entries parts.0 in
    let keys : Keys = index_type_of (spec_storage_type type) in
    let own : TypeTree = spec_table_type type in
    let cs : List FieldTree = spec_children_of own in
    let inner : ℕ = total (field_cost depth) cs in
    let n : ℕ = total (count_dictionaries depth) cs in
    let start : ℕ = next_after keys next in
    let bodies : List (List ℕ) = each_bytes depth start cs in
    let many : length bodies ≡ length cs = each_long (count_dictionaries depth) (field_bytes depth) start cs in
    let counts = behind_counts keys next n in
    let now : DictionaryTypesModel = spec_record_id (encoding_with_id next keys) seen in
    let inside = flattened (each_from (count_dictionaries depth) (value_types_from depth) start cs) in
    let last : DictionaryTypesModel = with_ids_from next (next_after keys n) (own_value_types keys next own n ++ inside) seen in
    let named = own_is_new keys next n (start + n) own seen inside new (all_within depth start cs) (is_not_stored_otherwise own plain.form) in
    let level = level_is (spec_field_at depth) bodies inner name next keys own nullable (all_metadata_of type entries) seen (types_after_all depth start cs now) last (type_is own (length bodies) many plain.form fits.1)
    (λ m enough. each_again depth (field_part_round_trips depth) cs parts.1 fits.4 start now m (still_new keys next seen new) (omega (arith, counts)) enough) named plain.unreserved (omega arith) many fits.0 fits.2 fits.3 left le in
    let back : field_with_metadata name (spec_with_encoding (encoding_with_id next keys) own) nullable (all_metadata_of type entries) ≡ field name type nullable entries =
    ap (λ (t : TypeTree). field_with_metadata name t nullable (all_metadata_of type entries)) (encoding_round_trips next (spec_storage_type type)) ∙ plain.back in
    record { law = λ whole p q after h small at. level.law whole p q after h small at ∙ ap (λ (f : FieldTree). Ok (f, progress (left - own_cost name keys own (all_metadata_of type entries) inner) last)) back; long = level.long }

pub fields_round_trip : (fs : List FieldTree) → check_fields fs ≡ Ok tt → AllFit fs → count_all fs ≤ 2 ^ 62 → (left : ℕ) → total (field_cost 64) fs ≤ left
    → EachReadsBackBy (spec_field_at 64) 24 (each_bytes 64 0 fs) fs (progress left no_dictionaries) (progress (left - total (field_cost 64) fs) (types_after_all 64 0 fs no_dictionaries))
fields_round_trip fs form fits few left le =
    let all : 0 + count_all fs ≤ 2 ^ 62 = omega (arith, few) in
    each_again 64 (field_part_round_trips 64) fs form fits 0 no_dictionaries left tt all le

-- ---- the cost of reading

each_pays : (depth : ℕ) → ((f : FieldTree) → spec_check_field depth f ≡ Ok tt → FieldFits depth f → (next : ℕ) → field_cost depth f ≤ length (field_bytes depth next f))
    → (fs : List FieldTree) → spec_check_each (spec_check_field depth) fs ≡ Ok tt → AllByRecursion (FieldFits depth) fs → (next : ℕ) → total (field_cost depth) fs ≤ length (concatenated (each_bytes depth next fs))
unfolding total each_from concatenated
each_pays depth one [] form fits next = omega arith
each_pays depth one (f ∷ fs) form fits next =
    let s = split (spec_check_field depth) f fs form in
    let n : ℕ = next + count_dictionaries depth f in
    omega (arith, one f s.0 fits.0 next, each_pays depth one fs s.1 fits.1 n, length-append (field_bytes depth next f) (concatenated (each_bytes depth n fs)))

pub field_pays : (depth : ℕ) (f : FieldTree) → spec_check_field depth f ≡ Ok tt → FieldFits depth f → (next : ℕ) → field_cost depth f ≤ length (field_bytes depth next f)
unfolding field_bytes field_cost FieldFits
field_pays zero f form fits = absurd (no_depth f form)
field_pays (suc depth) (field name type nullable entries) form fits = λ next.
    let parts = own_and_inner depth (field name type nullable entries) form in
    let plain = plain_is name type nullable entries parts.0 in
    let keys : Keys = index_type_of (spec_storage_type type) in
    let own : TypeTree = spec_table_type type in
    let cs : List FieldTree = spec_children_of own in
    let bodies : List (List ℕ) = each_bytes depth (next_after keys next) cs in
    let many : length bodies ≡ length cs = each_long (count_dictionaries depth) (field_bytes depth) (next_after keys next) cs in
    let is = type_is own (length cs) refl plain.form fits.1 in
    let inner = each_pays depth (field_pays depth) cs parts.1 fits.4 (next_after keys next) in
    omega (arith, many, inner, table_vector_is_long 24 bodies, field_parts_long nullable (spec_type_number own) (encoding_with_id next keys) (type_bytes own) (table_vector_bytes 24 bodies) (string_bytes name) (entries_bytes (all_metadata_of type entries)), string_long name, type_pays own (length cs) is plain.form, encoding_pays next keys, entries_pay (all_metadata_of type entries))

pub fields_pay : (fs : List FieldTree) → check_fields fs ≡ Ok tt → AllFit fs → total (field_cost 64) fs ≤ length (concatenated (each_bytes 64 0 fs))
fields_pay fs form fits = each_pays 64 (field_pays 64) fs form fits 0

-- each dictionary has more than a byte

each_counts : (depth : ℕ) → ((f : FieldTree) (next : ℕ) → count_dictionaries depth f ≤ length (field_bytes depth next f)) → (fs : List FieldTree) (next : ℕ) → total (count_dictionaries depth) fs ≤ length (concatenated (each_bytes depth next fs))
unfolding total each_from concatenated
each_counts depth one [] next = omega arith
each_counts depth one (f ∷ fs) next =
    let n : ℕ = next + count_dictionaries depth f in
    omega (arith, one f next, each_counts depth one fs n, length-append (field_bytes depth next f) (concatenated (each_bytes depth n fs)))

pub field_counts : (depth : ℕ) (f : FieldTree) (next : ℕ) → count_dictionaries depth f ≤ length (field_bytes depth next f)
unfolding field_bytes count_dictionaries
field_counts zero f next = omega arith
field_counts (suc depth) (field name type nullable entries) next =
    let keys : Keys = index_type_of (spec_storage_type type) in
    let own : TypeTree = spec_table_type type in
    let cs : List FieldTree = spec_children_of own in
    let bodies : List (List ℕ) = each_bytes depth (next_after keys next) cs in
    omega (arith, behind_at_most keys (total (count_dictionaries depth) cs), each_counts depth (field_counts depth) cs (next_after keys next), table_vector_is_long 24 bodies, field_parts_long nullable (spec_type_number own) (encoding_with_id next keys) (type_bytes own) (table_vector_bytes 24 bodies) (string_bytes name) (entries_bytes (all_metadata_of type entries)))

pub fields_count : (depth : ℕ) (fs : List FieldTree) (next : ℕ) → total (count_dictionaries depth) fs ≤ length (concatenated (each_bytes depth next fs))
fields_count depth fs next = each_counts depth (field_counts depth) fs next

-- ---- the parts of a field

abbrev pub name_of : FieldTree → Letters
name_of (field name type nullable entries) = name

abbrev pub nullable_of : FieldTree → Bool
nullable_of (field name type nullable entries) = nullable

abbrev pub own_entries : FieldTree → Entries
own_entries (field name type nullable entries) = entries

-- the type of the type table of a field, and all its metadata
abbrev pub own_type : FieldTree → TypeTree
own_type f = spec_table_type (field_type f)

abbrev pub all_of : FieldTree → Entries
all_of f = all_metadata_of (field_type f) (own_entries f)

-- the table of a field with its encoding and the bytes of its children
abbrev pub table_bytes : Option Encoding → FieldTree → List ℕ → List ℕ
table_bytes dictionary f children = parts_of_field (nullable_of f) dictionary (own_type f) children (name_of f) (all_of f)

-- the invariants of a Rust Field, without its children
abbrev pub TableFits : FieldTree → Type 0
TableFits f = (is_utf8 (name_of f) ≡ true) × TypeFits (own_type f) × AreUtf8 (all_of f) × AreSorted (all_of f)

pub bytes_are : (depth next : ℕ) (f : FieldTree) → field_bytes (suc depth) next f ≡ table_bytes (spec_encoding_of next (field_type f)) f (table_vector_bytes 24 (each_bytes depth (next_after_own (field_type f) next) (spec_children_of (own_type f))))
unfolding field_bytes
bytes_are depth next (field name type nullable entries) = refl

pub count_is : (depth : ℕ) (f : FieldTree) → count_dictionaries (suc depth) f ≡ next_after_own (field_type f) (total (count_dictionaries depth) (spec_children_of (own_type f)))
unfolding count_dictionaries
count_is depth f = refl

pub form_is : (f : FieldTree) → spec_check_own f ≡ Ok tt → spec_check_type (own_type f) ≡ Ok tt
form_is (field name type nullable entries) form = (plain_is name type nullable entries form).form

pub fits_are : (depth : ℕ) (f : FieldTree) → is_utf8 (name_of f) ≡ true → TypeFits (own_type f) → AreUtf8 (all_of f) → AreSorted (all_of f) → AllByRecursion (FieldFits depth) (spec_children_of (own_type f)) → FieldFits (suc depth) f
unfolding FieldFits
fits_are depth (field name type nullable entries) utf8 fits texts rising inner = (utf8, fits, texts, rising, inner)
