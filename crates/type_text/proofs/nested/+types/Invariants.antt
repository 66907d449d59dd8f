use Rattle.std.proofs.Common.{◌≡◌, ◌+◌, ◌*◌, ◌-◌, length}
use Rattle.std.specs.Str.{IsUtf8}
use Rattle.type_text.specs.TypeParser.{read_some_fields, read_type, fields_and_ids}
use Rattle.type_text.proofs.Steps.{with_front}
use Rattle.type_text.proofs.nested.+types.Given as goal

abbrev pub decreases-type_at : goal.decreases-type_at
decreases-type_at l = 8 * l.levels

abbrev pub decreases-nested : goal.decreases-nested
decreases-nested l = 8 * l.levels + 6

abbrev pub decreases-list : goal.decreases-list
decreases-list l = 8 * l.levels + 5

abbrev pub decreases-large_list : goal.decreases-large_list
decreases-large_list l = 8 * l.levels + 5

abbrev pub decreases-fixed_size_list : goal.decreases-fixed_size_list
decreases-fixed_size_list l = 8 * l.levels + 5

abbrev pub decreases-structure : goal.decreases-structure
decreases-structure l = 8 * l.levels + 5

abbrev pub decreases-union : goal.decreases-union
decreases-union l = 8 * l.levels + 5

abbrev pub decreases-map : goal.decreases-map
decreases-map l = 8 * l.levels + 5

abbrev pub decreases-map_fields : goal.decreases-map_fields
decreases-map_fields l = 8 * l.levels + 4

abbrev pub decreases-dictionary : goal.decreases-dictionary
decreases-dictionary l = 8 * l.levels + 5

abbrev pub decreases-extension : goal.decreases-extension
decreases-extension l = 8 * l.levels + 5

abbrev pub decreases-item_field : goal.decreases-item_field
decreases-item_field l = 8 * l.levels + 2

abbrev pub decreases-fields : goal.decreases-fields
decreases-fields l = 8 * l.levels + 4

abbrev pub decreases-some_fields : goal.decreases-some_fields
decreases-some_fields l = 8 * l.levels + 3

abbrev pub decreases-field : goal.decreases-field
decreases-field l = 8 * l.levels + 1

abbrev pub decreases-entry_field : goal.decreases-entry_field
decreases-entry_field l = 8 * l.levels + 1

-- the fields so far and what is parsed of the rest are what is parsed of the text
abbrev pub invariant-some_fields-loop : goal.invariant-some_fields-loop
invariant-some_fields-loop l =
    IsUtf8 l.rest × (with_front (fields_and_ids (l.fields, l.ids)) (read_some_fields l.has_ids (read_type l.levels) (length l.text - l.counter) l.rest) ≡ read_some_fields l.has_ids (read_type l.levels) (length l.text) l.text)
