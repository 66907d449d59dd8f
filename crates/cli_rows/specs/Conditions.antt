-- The truth of conditions in rows.
use Rattle.std.specs.Prelude.{◌≡◌, ℕ, zero, suc, Bool, true, false, not, List, map, bytes_eq, Option, Some, None, option_map, unwrap_or, if◌then◌else◌}
use Rattle.std.specs.Option.{option_and_then}
use Rattle.nest_memory.specs.Physical.{physical_type}
use Rattle.nest_memory.specs.declared.datatypes.physical_type.PhysicalType.{PhysicalType}
use Rattle.nest_memory.specs.declared.datatypes.physical_type.PhysicalType.TheVariants as physical
use Rattle.nest_memory.specs.TypeTree.{FieldTrees, TypeTree, field_type, fields_of, no_fields, more_fields}
use Rattle.nest_model.specs.Slot as slots
use Rattle.nest_model.specs.Slot.{Slot, Slots, no_slots, more_slots}
use Rattle.nest_model.specs.Accessors.{children_of}
use Rattle.nest_model.specs.Layout.{Layout, Layouts, layout_type, no_layouts, more_layouts}
use Rattle.nest_model.specs.Meaning.{each, slot}
use Rattle.nest_model.specs.Selected.{mask_indices}
use Rattle.json_write.specs.JsonText.{field_name}
use Rattle.cli_args.specs.Columns.{ColumnTree, indexed, named}
use Rattle.cli_args.specs.Conditions.{ConditionTree, LiteralTree, is_true, is_null, compare, negation, both, either}
use Rattle.cli_args.specs.declared.condition.Comparison.{Comparison}
use Rattle.cli_rows.specs.Comparisons.{boolean_of, spec_holds_of, spec_order}
use Rattle.cli_rows.specs.Kinds.{spec_column_kind}
use Rattle.cli_rows.specs.Rows.{RowSlot}
use Rattle.cli_rows.specs.Truth.{truth_and, truth_not, truth_or}

-- whether values of a type are booleans
abbrev pub is_boolean_kind : PhysicalType → Bool
is_boolean_kind physical.Boolean = true
is_boolean_kind kind = false

abbrev pub spec_is_boolean : TypeTree → Bool
spec_is_boolean t = is_boolean_kind (physical_type t)

-- whether values of a type are records
abbrev pub is_record_kind : PhysicalType → Bool
is_record_kind physical.Struct = true
is_record_kind kind = false

abbrev pub is_record : TypeTree → Bool
is_record t = is_record_kind (physical_type t)

-- whether a value is not null
abbrev pub is_valid : Slot → Bool
is_valid slots.null = false
is_valid s = true

-- the value of the first field of a name, and its type
abbrev pub value_named : List ℕ → FieldTrees → Slots → Option RowSlot
value_named name no_fields ss = None
value_named name (more_fields f fs) no_slots = None
value_named name (more_fields f fs) (more_slots s ss) = if bytes_eq (field_name f) name then Some (field_type f, s) else value_named name fs ss

-- the value of the field at an index, and its type
abbrev pub value_at : ℕ → FieldTrees → Slots → Option RowSlot
value_at i no_fields ss = None
value_at i (more_fields f fs) no_slots = None
value_at zero (more_fields f fs) (more_slots s ss) = Some (field_type f, s)
value_at (suc i) (more_fields f fs) (more_slots s ss) = value_at i fs ss

abbrev pub value_of : ColumnTree → FieldTrees → Slots → Option RowSlot
value_of (named name) fs ss = value_named name fs ss
value_of (indexed i) fs ss = value_at i fs ss

-- the value of a boolean column, unknown if it is null
abbrev pub truth_of : RowSlot → Option Bool
truth_of (t, s) = if spec_is_boolean t then boolean_of s else None

-- whether a value is null
abbrev pub nullness : RowSlot → Option Bool
nullness (t, s) = Some (not (is_valid s))

-- whether a value compares so with a literal, unknown if it is null
abbrev pub spec_compared : Comparison → LiteralTree → RowSlot → Option Bool
spec_compared op literal (t, s) = option_map (spec_holds_of op) (spec_order (spec_column_kind t) literal s)

-- the truth of a condition in a record of these fields
abbrev pub spec_truth : ConditionTree → FieldTrees → Slots → Option Bool
spec_truth (is_true column at) fs ss = option_and_then truth_of (value_of column fs ss)
spec_truth (is_null column at) fs ss = option_and_then nullness (value_of column fs ss)
spec_truth (compare column at op literal) fs ss = option_and_then (spec_compared op literal) (value_of column fs ss)
spec_truth (negation c) fs ss = truth_not (spec_truth c fs ss)
spec_truth (both c d) fs ss = truth_and (spec_truth c fs ss) (spec_truth d fs ss)
spec_truth (either c d) fs ss = truth_or (spec_truth c fs ss) (spec_truth d fs ss)

-- that in a row, unknown in a null
abbrev pub truth_in : ConditionTree → RowSlot → Option Bool
truth_in c (t, slots.record_of ss) = if is_record t then spec_truth c (fields_of t) ss else None
truth_in c (t, s) = None

-- whether a condition is true in a row
abbrev pub is_true_in : ConditionTree → RowSlot → Bool
is_true_in c r = unwrap_or (truth_in c r) false

-- ---- arrays

-- the child of the first field of a name
abbrev pub column_named : List ℕ → FieldTrees → Layouts → Option Layout
column_named name no_fields cs = None
column_named name (more_fields f fs) no_layouts = None
column_named name (more_fields f fs) (more_layouts c cs) = if bytes_eq (field_name f) name then Some c else column_named name fs cs

-- the child of the field at an index
abbrev pub column_at : ℕ → FieldTrees → Layouts → Option Layout
column_at i no_fields cs = None
column_at i (more_fields f fs) no_layouts = None
column_at zero (more_fields f fs) (more_layouts c cs) = Some c
column_at (suc i) (more_fields f fs) (more_layouts c cs) = column_at i fs cs

abbrev pub column_layout : ColumnTree → FieldTrees → Layouts → Option Layout
column_layout (named name) fs cs = column_named name fs cs
column_layout (indexed i) fs cs = column_at i fs cs

-- the rows of an array of records have the values of this array, if any, as a column
abbrev pub IsColumn : ColumnTree → Layout → Option Layout → Type 0
IsColumn column a found = (i : ℕ) → value_of column (fields_of (layout_type a)) (each (children_of a) i) ≡ option_map (λ c. (layout_type c, slot c i)) found

-- the indices of the rows where a condition is true
abbrev pub true_indices : ConditionTree → List RowSlot → List ℕ
true_indices c rows = mask_indices (map (λ r. slots.boolean (is_true_in c r)) rows)
