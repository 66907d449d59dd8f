-- Fields of extension types round-trip.
use Rattle.std.proofs.Common.{◌≡◌, Bool, true, false, cond, [], ◌∷◌, Option, Some, None, refl, sym, ap, ◌∙◌}
use Rattle.std.specs.Prelude.{◌&&◌, ◌||◌, not}
use Rattle.std.specs.Cmp.Lexicographic.{slice_cmp}
use Rattle.std.specs.Ordering.{nat_cmp, is_eq}
use Rattle.std.specs.Str.{bytes_eq}
use Rattle.std.specs.declared.cmp.Ordering.{Ordering}
use Rattle.std.specs.declared.cmp.Ordering.TheVariants.{Less, Equal, Greater}
use Rattle.std.proofs.lemmas.Map.Text.{is_eq-slice_cmp}
use Rattle.nest_memory.specs.TypeTree as types
use Rattle.nest_memory.specs.TypeTree.{Letters, Entries, TypeTree, field}
use Rattle.nest_memory.specs.Floats.{spec_is_float}
use Rattle.ipc_schema.specs.StoredTypes.{spec_is_reserved_name}
use Rattle.ipc_schema.specs.Extensions.{extension_name, extension_metadata, metadata_value, spec_has_key, without, spec_with_pair, spec_names_reserved, field_with_metadata, spec_storage_type, spec_is_extension, with_text, all_metadata_of}
use Rattle.ipc_schema.specs.WriteChecks.{spec_has_free_name, spec_has_no_reserved_key}

-- ---- a key that is absent

-- no entry has the key
abbrev pub HasNoKey : Letters → Entries → Type 0
HasNoKey key entries = metadata_value key entries ≡ None

none_first : (b : Bool) (x : Letters) (rest : Option Letters) → cond b (Some x) rest ≡ None → (b ≡ false) × (rest ≡ None)
none_first true x rest h = absurd (cc h)
none_first false x rest h = (refl, h)

module _ (key value : Letters) (same : bytes_eq key key ≡ true) where
  -- the order of the key to that of the first entry
  tie : (o : Ordering) (other : Letters) → slice_cmp nat_cmp key other ≡ o → bytes_eq key other ≡ is_eq o
  tie o other e = sym (is_eq-slice_cmp key other) ∙ ap is_eq e

  -- a pair is inserted before an entry or after it
  module _ (e : Letters × Letters) (es : Entries) (apart : bytes_eq key e.0 ≡ false) where
    there_by : (o : Ordering) → slice_cmp nat_cmp key e.0 ≡ o → metadata_value key (spec_with_pair key value es) ≡ Some value → metadata_value key (spec_with_pair key value (e ∷ es)) ≡ Some value
    there_by Less o rest = rw (o, same) refl
    there_by Equal o rest = absurd (cc (sym (tie Equal e.0 o) ∙ apart))
    there_by Greater o rest = rw (o, apart) rest

    taken_by : (o : Ordering) → slice_cmp nat_cmp key e.0 ≡ o → without key (spec_with_pair key value es) ≡ es → without key (spec_with_pair key value (e ∷ es)) ≡ e ∷ es
    taken_by Less o rest = rw (o, same) refl
    taken_by Equal o rest = absurd (cc (sym (tie Equal e.0 o) ∙ apart))
    taken_by Greater o rest = rw (o, apart) (ap (λ (l : Entries). e ∷ l) rest)

    stays_by : (other : Letters) → bytes_eq other key ≡ false → (o : Ordering) → slice_cmp nat_cmp key e.0 ≡ o → metadata_value other (spec_with_pair key value es) ≡ metadata_value other es → metadata_value other (spec_with_pair key value (e ∷ es)) ≡ metadata_value other (e ∷ es)
    stays_by other differs Less o rest = rw (o, differs) refl
    stays_by other differs Equal o rest = absurd (cc (sym (tie Equal e.0 o) ∙ apart))
    stays_by other differs Greater o rest = rw o (ap (cond (bytes_eq other e.0) (Some e.1)) rest)

  pub pair_is_there : (entries : Entries) → HasNoKey key entries → metadata_value key (spec_with_pair key value entries) ≡ Some value
  pair_is_there [] free = rw same refl
  pair_is_there (e ∷ es) free =
      let h = none_first (bytes_eq key e.0) e.1 (metadata_value key es) free in
      there_by e es h.0 (slice_cmp nat_cmp key e.0) refl (pair_is_there es h.1)

  pub pair_is_taken : (entries : Entries) → HasNoKey key entries → without key (spec_with_pair key value entries) ≡ entries
  pair_is_taken [] free = rw same refl
  pair_is_taken (e ∷ es) free =
      let h = none_first (bytes_eq key e.0) e.1 (metadata_value key es) free in
      taken_by e es h.0 (slice_cmp nat_cmp key e.0) refl (pair_is_taken es h.1)

  -- another key keeps its value
  pub others_stay : (other : Letters) → bytes_eq other key ≡ false → (entries : Entries) → HasNoKey key entries → metadata_value other (spec_with_pair key value entries) ≡ metadata_value other entries
  others_stay other differs [] free = rw differs refl
  others_stay other differs (e ∷ es) free =
      let h = none_first (bytes_eq key e.0) e.1 (metadata_value key es) free in
      stays_by e es h.0 other differs (slice_cmp nat_cmp key e.0) refl (others_stay other differs es h.1)

-- removing an absent key changes nothing
pub free_stays : (key : Letters) (entries : Entries) → HasNoKey key entries → without key entries ≡ entries
free_stays key [] free = refl
free_stays key (e ∷ es) free =
    let h = none_first (bytes_eq key e.0) e.1 (metadata_value key es) free in
    rw h.0 (ap (λ (l : Entries). e ∷ l) (free_stays key es h.1))

-- ---- extensions

is_free : (key : Letters) (entries : Entries) → spec_has_key key entries ≡ false → HasNoKey key entries
is_free key entries h = by_value (metadata_value key entries) refl
  where
    by_value : (v : Option Letters) → metadata_value key entries ≡ v → metadata_value key entries ≡ None
    by_value None e = e
    by_value (Some x) e = absurd (cc (h, e))

and_parts : (a b : Bool) → (a && b) ≡ true → (a ≡ true) × (b ≡ true)
and_parts true b h = (refl, h)
and_parts false b h = absurd (cc h)

not_back : (b : Bool) → not b ≡ true → b ≡ false
not_back true h = absurd (cc h)
not_back false h = refl

-- the keys of an extension type give its name, its metadata and the other entries
pub record IsEncoded (title : Letters) (text : Option Letters) (entries all : Entries) : Type 0 where
  pub name : metadata_value extension_name all ≡ Some title
  pub text_of : metadata_value extension_metadata (without extension_name all) ≡ text
  pub rest : without extension_metadata (without extension_name all) ≡ entries

spelled : (title : Letters) (text : Option Letters) (entries : Entries) → HasNoKey extension_name entries → HasNoKey extension_metadata entries → IsEncoded title text entries (spec_with_pair extension_name title (with_text text entries))
spelled title None entries free bare =
    let taken = pair_is_taken extension_name title refl entries free in
    record {
      name = pair_is_there extension_name title refl entries free;
      text_of = rw taken bare;
      rest = rw taken (free_stays extension_metadata entries bare);
    }
spelled title (Some text) entries free bare =
    let more : Entries = spec_with_pair extension_metadata text entries in
    let still : HasNoKey extension_name more = others_stay extension_metadata text refl extension_name refl entries bare ∙ free in
    let taken : without extension_name (spec_with_pair extension_name title more) ≡ more = pair_is_taken extension_name title refl more still in
    record {
      name = pair_is_there extension_name title refl more still;
      text_of = rw taken (pair_is_there extension_metadata text refl entries bare);
      rest = rw taken (pair_is_taken extension_metadata text refl entries bare);
    }

-- the name of the type and the keys of the entries are free
record IsFree (type : TypeTree) (entries : Entries) : Type 0 where
  pub title : spec_has_free_name type ≡ true
  pub name : not (spec_has_key extension_name entries) ≡ true
  pub text : not (spec_is_extension type && spec_has_key extension_metadata entries) ≡ true

parts_of : (type : TypeTree) (entries : Entries) → spec_has_no_reserved_key type entries ≡ true → IsFree type entries
parts_of type entries are =
    let keys : Bool = not (spec_has_key extension_name entries) && not (spec_is_extension type && spec_has_key extension_metadata entries) in
    let first = and_parts (spec_has_free_name type) keys are in
    let both = and_parts (not (spec_has_key extension_name entries)) (not (spec_is_extension type && spec_has_key extension_metadata entries)) first.1 in
    record { title = first.0; name = both.0; text = both.1 }

free_name : (type : TypeTree) (entries : Entries) → spec_has_no_reserved_key type entries ≡ true → HasNoKey extension_name entries
free_name type entries are = is_free extension_name entries (not_back (spec_has_key extension_name entries) (parts_of type entries are).name)

-- of an extension type that is not a floating-point type
key_is_free : (float key : Bool) → float ≡ false → not (not float && key) ≡ true → key ≡ false
key_is_free true key plain h = absurd (cc plain)
key_is_free false key plain h = not_back key h

title_is_free : (float reserved : Bool) → float ≡ false → (float || not reserved) ≡ true → reserved ≡ false
title_is_free true reserved plain h = absurd (cc plain)
title_is_free false reserved plain h = not_back reserved h

module _ (title : Letters) (type : TypeTree) (text : Option Letters) (entries : Entries) (plain : spec_is_float (types.extension title type text) ≡ false) (are : spec_has_no_reserved_key (types.extension title type text) entries ≡ true) where
  free_text : HasNoKey extension_metadata entries
  free_text = is_free extension_metadata entries (key_is_free (spec_is_float (types.extension title type text)) (spec_has_key extension_metadata entries) plain (parts_of (types.extension title type text) entries are).text)

  free_title : spec_is_reserved_name title ≡ false
  free_title = title_is_free (spec_is_float (types.extension title type text)) (spec_is_reserved_name title) plain (parts_of (types.extension title type text) entries are).title

plain_back : (name : Letters) (type : TypeTree) (nullable : Bool) (entries : Entries) → HasNoKey extension_name entries → field_with_metadata name type nullable entries ≡ field name type nullable entries
plain_back name type nullable entries free = rw free refl

-- the field of the storage type and all its metadata round-trips
pub field_round_trips : (name : Letters) (type : TypeTree) (nullable : Bool) (entries : Entries) → spec_has_no_reserved_key type entries ≡ true → field_with_metadata name (spec_storage_type type) nullable (all_metadata_of type entries) ≡ field name type nullable entries
field_round_trips name types.null nullable entries are = plain_back name types.null nullable entries (free_name types.null entries are)
field_round_trips name types.boolean nullable entries are = plain_back name types.boolean nullable entries (free_name types.boolean entries are)
field_round_trips name types.int8 nullable entries are = plain_back name types.int8 nullable entries (free_name types.int8 entries are)
field_round_trips name types.int16 nullable entries are = plain_back name types.int16 nullable entries (free_name types.int16 entries are)
field_round_trips name types.int32 nullable entries are = plain_back name types.int32 nullable entries (free_name types.int32 entries are)
field_round_trips name types.int64 nullable entries are = plain_back name types.int64 nullable entries (free_name types.int64 entries are)
field_round_trips name types.uint8 nullable entries are = plain_back name types.uint8 nullable entries (free_name types.uint8 entries are)
field_round_trips name types.uint16 nullable entries are = plain_back name types.uint16 nullable entries (free_name types.uint16 entries are)
field_round_trips name types.uint32 nullable entries are = plain_back name types.uint32 nullable entries (free_name types.uint32 entries are)
field_round_trips name types.uint64 nullable entries are = plain_back name types.uint64 nullable entries (free_name types.uint64 entries are)
field_round_trips name types.float16 nullable entries are = plain_back name types.float16 nullable entries (free_name types.float16 entries are)
field_round_trips name types.float32 nullable entries are = plain_back name types.float32 nullable entries (free_name types.float32 entries are)
field_round_trips name types.float64 nullable entries are = plain_back name types.float64 nullable entries (free_name types.float64 entries are)
field_round_trips name (types.timestamp a b) nullable entries are = plain_back name (types.timestamp a b) nullable entries (free_name (types.timestamp a b) entries are)
field_round_trips name types.date32 nullable entries are = plain_back name types.date32 nullable entries (free_name types.date32 entries are)
field_round_trips name types.date64 nullable entries are = plain_back name types.date64 nullable entries (free_name types.date64 entries are)
field_round_trips name (types.time32 a) nullable entries are = plain_back name (types.time32 a) nullable entries (free_name (types.time32 a) entries are)
field_round_trips name (types.time64 a) nullable entries are = plain_back name (types.time64 a) nullable entries (free_name (types.time64 a) entries are)
field_round_trips name (types.duration a) nullable entries are = plain_back name (types.duration a) nullable entries (free_name (types.duration a) entries are)
field_round_trips name (types.interval a) nullable entries are = plain_back name (types.interval a) nullable entries (free_name (types.interval a) entries are)
field_round_trips name types.binary nullable entries are = plain_back name types.binary nullable entries (free_name types.binary entries are)
field_round_trips name (types.fixed_size_binary a) nullable entries are = plain_back name (types.fixed_size_binary a) nullable entries (free_name (types.fixed_size_binary a) entries are)
field_round_trips name types.large_binary nullable entries are = plain_back name types.large_binary nullable entries (free_name types.large_binary entries are)
field_round_trips name types.utf8 nullable entries are = plain_back name types.utf8 nullable entries (free_name types.utf8 entries are)
field_round_trips name types.large_utf8 nullable entries are = plain_back name types.large_utf8 nullable entries (free_name types.large_utf8 entries are)
field_round_trips name (types.list a) nullable entries are = plain_back name (types.list a) nullable entries (free_name (types.list a) entries are)
field_round_trips name (types.fixed_size_list a b) nullable entries are = plain_back name (types.fixed_size_list a b) nullable entries (free_name (types.fixed_size_list a b) entries are)
field_round_trips name (types.large_list a) nullable entries are = plain_back name (types.large_list a) nullable entries (free_name (types.large_list a) entries are)
field_round_trips name (types.struct a) nullable entries are = plain_back name (types.struct a) nullable entries (free_name (types.struct a) entries are)
field_round_trips name (types.union a b c) nullable entries are = plain_back name (types.union a b c) nullable entries (free_name (types.union a b c) entries are)
field_round_trips name (types.map a b) nullable entries are = plain_back name (types.map a b) nullable entries (free_name (types.map a b) entries are)
field_round_trips name (types.dictionary a b c) nullable entries are = plain_back name (types.dictionary a b c) nullable entries (free_name (types.dictionary a b c) entries are)
field_round_trips name (types.decimal a b) nullable entries are = plain_back name (types.decimal a b) nullable entries (free_name (types.decimal a b) entries are)
field_round_trips name (types.decimal256 a b) nullable entries are = plain_back name (types.decimal256 a b) nullable entries (free_name (types.decimal256 a b) entries are)
field_round_trips name (types.extension title type text) nullable entries are = by_kind (spec_is_float (types.extension title type text)) refl
  where
    free : HasNoKey extension_name entries
    free = free_name (types.extension title type text) entries are

    by_kind : (float : Bool) → spec_is_float (types.extension title type text) ≡ float → field_with_metadata name (spec_storage_type (types.extension title type text)) nullable (all_metadata_of (types.extension title type text) entries) ≡ field name (types.extension title type text) nullable entries
    by_kind true e = rw (e, free) refl
    by_kind false e =
        let is = spelled title text entries free (free_text title type text entries e are) in
        rw (e, is.name, is.text_of, is.rest) refl

-- all metadata of a field has no reserved name
pub no_reserved_is_named : (type : TypeTree) (entries : Entries) → spec_has_no_reserved_key type entries ≡ true → spec_names_reserved (all_metadata_of type entries) ≡ false
no_reserved_is_named (types.extension title type text) entries are = by_kind (spec_is_float (types.extension title type text)) refl
  where
    free : HasNoKey extension_name entries
    free = free_name (types.extension title type text) entries are

    by_kind : (float : Bool) → spec_is_float (types.extension title type text) ≡ float → spec_names_reserved (all_metadata_of (types.extension title type text) entries) ≡ false
    by_kind true e = rw (e, free) refl
    by_kind false e =
        let is = spelled title text entries free (free_text title type text entries e are) in
        rw (e, is.name) (free_title title type text entries e are)
no_reserved_is_named type entries are = rw (free_name type entries are) refl
