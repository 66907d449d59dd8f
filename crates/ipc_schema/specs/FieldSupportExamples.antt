-- Worked examples of fields whose types are not supported.
use Rattle.std.specs.Prelude.{◌≡◌, ℕ, List, [], ◌∷◌, map, codes, Option, Some, None, Ok, refl}
use Rattle.ipc_flatbuf.specs.Flatbuffers.{spec_offset_at, spec_back_from, spec_table_at, spec_field_position, spec_charge_budget, spec_read_table, spec_read_vector, spec_read_string, spec_items_at, spec_str_at}
use Rattle.ipc_schema.specs.FieldVectors.{tables_in_turn}
use Rattle.ipc_schema.specs.FieldSupport.{FieldSupportModel, path_of, spec_type_name, spec_unsupported_type, support_of, spec_support_at, spec_columns_support_at}
use Rattle.ipc_schema.specs.declared.field_support.UnsupportedType.{UnsupportedType}
use Rattle.ipc_schema.specs.declared.field_support.UnsupportedType.TheVariants.{RunEndEncoded, ListView, LargeListView}

-- the tags from 20 to 27
abbrev pub AreUnsupportedTags : Type 0
AreUnsupportedTags = map spec_unsupported_type (20 ∷ 21 ∷ 22 ∷ 23 ∷ 24 ∷ 25 ∷ 26 ∷ 27 ∷ []) ≡ None ∷ None ∷ Some RunEndEncoded ∷ None ∷ None ∷ Some ListView ∷ Some LargeListView ∷ None ∷ []

pub are_unsupported_tags : AreUnsupportedTags
are_unsupported_tags = refl

abbrev supported : List ℕ → FieldSupportModel
supported name = record { name = name; unsupported = None }

abbrev unsupported : List ℕ → List (List ℕ) → UnsupportedType → FieldSupportModel
unsupported name names type = record { name = name; unsupported = Some (record { names = names; type = type }) }

-- `a`: a list of views; `a: struct<b, c: list of views, d: run-end encoded>`; `a` without unsupported fields in it
abbrev pub AreFound : Type 0
AreFound = (support_of (97 ∷ []) (Some ListView) [] ≡ unsupported (97 ∷ []) ((97 ∷ []) ∷ []) ListView)
    × (support_of (97 ∷ []) None (supported (98 ∷ []) ∷ unsupported (99 ∷ []) ((99 ∷ []) ∷ []) LargeListView ∷ unsupported (100 ∷ []) ((100 ∷ []) ∷ []) RunEndEncoded ∷ []) ≡ unsupported (97 ∷ []) ((99 ∷ []) ∷ (97 ∷ []) ∷ []) LargeListView)
    × (support_of (97 ∷ []) None (supported (98 ∷ []) ∷ []) ≡ supported (97 ∷ []))

pub are_found : AreFound
are_found = (refl, refl, refl)

-- the field `c` in `b` in the column `a`; the names of the types
abbrev pub AreNamed : Type 0
AreNamed = (path_of ((99 ∷ []) ∷ (98 ∷ []) ∷ (97 ∷ []) ∷ []) ≡ codes "a.b.c") × (path_of ((97 ∷ []) ∷ []) ≡ codes "a")
    × (map spec_type_name (RunEndEncoded ∷ ListView ∷ LargeListView ∷ []) ≡ codes "run_end_encoded" ∷ codes "list_view" ∷ codes "large_list_view" ∷ [])

pub are_named : AreNamed
are_named = (refl, refl, refl)

-- the metadata of a schema that pyarrow wrote, with types `int64`, `list_view<int8>` and `struct<int8, list<large_list_view<int8>>>`, without the
-- names of its fields; the schema table is at 36
abbrev pub unnamed_metadata : List ℕ
unnamed_metadata =
    16 ∷ 0 ∷ 0 ∷ 0 ∷ 0 ∷ 0 ∷ 10 ∷ 0 ∷ 12 ∷ 0 ∷ 6 ∷ 0 ∷ 5 ∷ 0 ∷ 8 ∷ 0 ∷ 10 ∷ 0 ∷ 0 ∷ 0 ∷ 0 ∷ 1 ∷ 4 ∷ 0 ∷ 12 ∷ 0 ∷ 0 ∷ 0 ∷ 8 ∷ 0 ∷ 8 ∷ 0 ∷ 0 ∷ 0 ∷ 4 ∷ 0 ∷ 8 ∷ 0 ∷ 0 ∷ 0 ∷ 4 ∷ 0 ∷ 0 ∷ 0 ∷ 3 ∷ 0 ∷ 0 ∷ 0 ∷ 72 ∷ 1 ∷ 0 ∷ 0 ∷ 220 ∷ 0 ∷ 0 ∷ 0 ∷ 4 ∷ 0 ∷ 0 ∷ 0 ∷ 212 ∷ 254 ∷ 255 ∷ 255 ∷ 0 ∷ 0 ∷ 1 ∷ 13 ∷ 24 ∷ 0 ∷ 0 ∷ 0 ∷ 28 ∷ 0 ∷ 0 ∷ 0 ∷ 4 ∷ 0 ∷ 0 ∷ 0 ∷ 2 ∷ 0 ∷ 0 ∷ 0 ∷ 144 ∷ 0 ∷ 0 ∷ 0 ∷ 16 ∷ 0 ∷ 0 ∷ 0 ∷ 0 ∷ 0 ∷ 0 ∷ 0 ∷ 0 ∷ 0 ∷ 0 ∷ 0 ∷ 48 ∷ 255 ∷ 255 ∷ 255 ∷ 0 ∷ 255 ∷ 255 ∷ 255 ∷ 0 ∷ 0 ∷ 1 ∷ 12 ∷ 20 ∷ 0 ∷ 0 ∷ 0 ∷ 24 ∷ 0 ∷ 0 ∷ 0 ∷ 4 ∷ 0 ∷ 0 ∷ 0 ∷ 1 ∷ 0 ∷ 0 ∷ 0 ∷ 16 ∷ 0 ∷ 0 ∷ 0 ∷ 1 ∷ 0 ∷ 0 ∷ 0 ∷ 97 ∷ 0 ∷ 0 ∷ 0 ∷ 88 ∷ 255 ∷ 255 ∷ 255 ∷ 40 ∷ 255 ∷ 255 ∷ 255 ∷ 0 ∷ 0 ∷ 1 ∷ 26 ∷ 20 ∷ 0 ∷ 0 ∷ 0 ∷ 24 ∷ 0 ∷ 0 ∷ 0 ∷ 4 ∷ 0 ∷ 0 ∷ 0 ∷ 1 ∷ 0 ∷ 0 ∷ 0 ∷ 16 ∷ 0 ∷ 0 ∷ 0 ∷ 0 ∷ 0 ∷ 0 ∷ 0 ∷ 0 ∷ 0 ∷ 0 ∷ 0 ∷ 128 ∷ 255 ∷ 255 ∷ 255 ∷ 80 ∷ 255 ∷ 255 ∷ 255 ∷ 0 ∷ 0 ∷ 1 ∷ 2 ∷ 16 ∷ 0 ∷ 0 ∷ 0 ∷ 20 ∷ 0 ∷ 0 ∷ 0 ∷ 4 ∷ 0 ∷ 0 ∷ 0 ∷ 0 ∷ 0 ∷ 0 ∷ 0 ∷ 0 ∷ 0 ∷ 0 ∷ 0 ∷ 0 ∷ 0 ∷ 0 ∷ 0 ∷ 64 ∷ 255 ∷ 255 ∷ 255 ∷ 0 ∷ 0 ∷ 0 ∷ 1 ∷ 8 ∷ 0 ∷ 0 ∷ 0 ∷ 124 ∷ 255 ∷ 255 ∷ 255 ∷ 0 ∷ 0 ∷ 1 ∷ 2 ∷ 16 ∷ 0 ∷ 0 ∷ 0 ∷ 20 ∷ 0 ∷ 0 ∷ 0 ∷ 4 ∷ 0 ∷ 0 ∷ 0 ∷ 0 ∷ 0 ∷ 0 ∷ 0 ∷ 0 ∷ 0 ∷ 0 ∷ 0 ∷ 0 ∷ 0 ∷ 0 ∷ 0 ∷ 108 ∷ 255 ∷ 255 ∷ 255 ∷ 0 ∷ 0 ∷ 0 ∷ 1 ∷ 8 ∷ 0 ∷ 0 ∷ 0 ∷ 168 ∷ 255 ∷ 255 ∷ 255 ∷ 0 ∷ 0 ∷ 1 ∷ 25 ∷ 20 ∷ 0 ∷ 0 ∷ 0 ∷ 28 ∷ 0 ∷ 0 ∷ 0 ∷ 4 ∷ 0 ∷ 0 ∷ 0 ∷ 1 ∷ 0 ∷ 0 ∷ 0 ∷ 20 ∷ 0 ∷ 0 ∷ 0 ∷ 1 ∷ 0 ∷ 0 ∷ 0 ∷ 97 ∷ 0 ∷ 0 ∷ 0 ∷ 4 ∷ 0 ∷ 4 ∷ 0 ∷ 4 ∷ 0 ∷ 0 ∷ 0 ∷ 212 ∷ 255 ∷ 255 ∷ 255 ∷ 0 ∷ 0 ∷ 1 ∷ 2 ∷ 16 ∷ 0 ∷ 0 ∷ 0 ∷ 20 ∷ 0 ∷ 0 ∷ 0 ∷ 4 ∷ 0 ∷ 0 ∷ 0 ∷ 0 ∷ 0 ∷ 0 ∷ 0 ∷ 0 ∷ 0 ∷ 0 ∷ 0 ∷ 0 ∷ 0 ∷ 0 ∷ 0 ∷ 196 ∷ 255 ∷ 255 ∷ 255 ∷ 0 ∷ 0 ∷ 0 ∷ 1 ∷ 8 ∷ 0 ∷ 0 ∷ 0 ∷ 16 ∷ 0 ∷ 20 ∷ 0 ∷ 0 ∷ 0 ∷ 6 ∷ 0 ∷ 7 ∷ 0 ∷ 12 ∷ 0 ∷ 0 ∷ 0 ∷ 16 ∷ 0 ∷ 16 ∷ 0 ∷ 0 ∷ 0 ∷ 0 ∷ 0 ∷ 1 ∷ 2 ∷ 16 ∷ 0 ∷ 0 ∷ 0 ∷ 28 ∷ 0 ∷ 0 ∷ 0 ∷ 4 ∷ 0 ∷ 0 ∷ 0 ∷ 0 ∷ 0 ∷ 0 ∷ 0 ∷ 0 ∷ 0 ∷ 0 ∷ 0 ∷ 0 ∷ 0 ∷ 0 ∷ 0 ∷ 8 ∷ 0 ∷ 12 ∷ 0 ∷ 8 ∷ 0 ∷ 7 ∷ 0 ∷ 8 ∷ 0 ∷ 0 ∷ 0 ∷ 0 ∷ 0 ∷ 0 ∷ 1 ∷ 64 ∷ 0 ∷ 0 ∷ 0 ∷ 0 ∷ 0 ∷ 0 ∷ 0 ∷ []

abbrev pub IsSupportRead : Type 0
IsSupportRead = spec_columns_support_at unnamed_metadata 36 8000 ≡ Ok (supported [] ∷ unsupported [] ([] ∷ []) ListView ∷ unsupported [] ([] ∷ [] ∷ [] ∷ []) LargeListView ∷ [])

pub is_support_read : IsSupportRead
unfolding spec_offset_at spec_back_from spec_table_at spec_field_position spec_charge_budget spec_read_table spec_read_vector spec_read_string spec_items_at spec_str_at tables_in_turn spec_support_at spec_columns_support_at
is_support_read = refl
