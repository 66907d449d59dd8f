-- The child builders of a struct builder while the members of an object are added.
use Rattle.std.specs.Prelude.{◌≡◌, ◌≢◌, ◌==◌, ◌||◌, ℕ, zero, suc, Bool, true, false, bytes_eq, if◌then◌else◌, List, [], ◌∷◌, Option, Some, None}
use Rattle.json.specs.Json.{Json, Members}
use Rattle.nest_any.specs.Lent.{builder_at, with_field}
use Rattle.nest_any.specs.Refusals.{struct_children}
use Rattle.json_read.specs.JsonSlots.{value_error, slot_of, slot_named, member_slots}
use Rattle.json_read.specs.SlotAdded.{SlotAdded}
use Rattle.json_read.specs.declared.value_error.ValueError.{ValueError}
use Rattle.json_read.specs.declared.value_error.ValueError.TheVariants.{UnknownField, DuplicateField}
use Rattle.json_read.specs.declared.value_error.PushError.{PushError}
use Rattle.json_read.specs.declared.value_error.PushError.TheVariants as push_error
use Rattle.nest_memory.specs.TypeTree.{Letters, FieldTrees, no_fields, more_fields, fields_of}
use Rattle.nest_model.specs.BuilderTree.{BuilderTree, BuilderTrees, struct, no_builders, more_builders, builder_len, builder_type}
use Rattle.nest_model.specs.Slot as slots
use Rattle.nest_model.specs.Slot.{Slot}
use Rattle.json_write.specs.JsonText.{field_name}

-- a member has that name
abbrev pub has_member : Letters → List (Letters × Slot) → Bool
has_member n [] = false
has_member n (p ∷ ps) = bytes_eq p.0 n || has_member n ps

-- the slot was added if the condition holds
abbrev pub AddedIf : Bool → Slot → BuilderTree → BuilderTree → Type 0
AddedIf true s c d = SlotAdded s c d
AddedIf false s c d = d ≡ c

-- a slot was added to each child whose field has a member
abbrev pub MembersAddedTo : FieldTrees → List (Letters × Slot) → BuilderTrees → BuilderTrees → Type 0
MembersAddedTo no_fields ps no_builders no_builders = Unit {0}
MembersAddedTo no_fields ps no_builders (more_builders d ds) = ⊥
MembersAddedTo no_fields ps (more_builders c cs) ds = ⊥
MembersAddedTo (more_fields f fs) ps no_builders ds = ⊥
MembersAddedTo (more_fields f fs) ps (more_builders c cs) no_builders = ⊥
MembersAddedTo (more_fields f fs) ps (more_builders c cs) (more_builders d ds) = AddedIf (has_member (field_name f) ps) (slot_named (field_name f) ps) c d × MembersAddedTo fs ps cs ds

-- the slot of its field was added to each child
abbrev pub AllFieldsAdded : FieldTrees → List (Letters × Slot) → BuilderTrees → BuilderTrees → Type 0
AllFieldsAdded no_fields ps no_builders no_builders = Unit {0}
AllFieldsAdded no_fields ps no_builders (more_builders d ds) = ⊥
AllFieldsAdded no_fields ps (more_builders c cs) ds = ⊥
AllFieldsAdded (more_fields f fs) ps no_builders ds = ⊥
AllFieldsAdded (more_fields f fs) ps (more_builders c cs) no_builders = ⊥
AllFieldsAdded (more_fields f fs) ps (more_builders c cs) (more_builders d ds) = SlotAdded (slot_named (field_name f) ps) c d × AllFieldsAdded fs ps cs ds

-- a null was added to each child of length n
abbrev pub NullsAdded : ℕ → BuilderTrees → BuilderTrees → Type 0
NullsAdded n no_builders no_builders = Unit {0}
NullsAdded n no_builders (more_builders d ds) = ⊥
NullsAdded n (more_builders c cs) no_builders = ⊥
NullsAdded n (more_builders c cs) (more_builders d ds) = AddedIf (builder_len c == n) slots.null c d × NullsAdded n cs ds

-- the child of the first field of that name
abbrev pub child_named : Letters → FieldTrees → BuilderTrees → Option BuilderTree
child_named n no_fields cs = None
child_named n (more_fields f fs) no_builders = None
child_named n (more_fields f fs) (more_builders c cs) = if bytes_eq (field_name f) n then Some c else child_named n fs cs

-- the error of a member for the child of its field, which has length n before: no child, a member before, or the error of the value
abbrev pub child_error : Option BuilderTree → ℕ → Json → Option ValueError
child_error None n j = Some UnknownField
child_error (Some c) n j = if builder_len c == n then value_error (builder_type c) j else Some DuplicateField

-- the name of field `i`
abbrev pub field_name_at_index : FieldTrees → ℕ → Option Letters
field_name_at_index no_fields i = None
field_name_at_index (more_fields f fs) zero = Some (field_name f)
field_name_at_index (more_fields f fs) (suc i) = field_name_at_index fs i

-- field i has this name, or it has another name or is no field
abbrev pub HasName : FieldTrees → Letters → ℕ → Type 0
HasName fs name i = field_name_at_index fs i ≡ Some name

abbrev pub HasOtherName : FieldTrees → Letters → ℕ → Type 0
HasOtherName fs name i = field_name_at_index fs i ≢ Some name

-- the member was added to the child of its field, which had length n
pub record MemberAdded (k : Letters) (j : Json) (n : ℕ) (old new : BuilderTree) : Type 0 where
  pub index : ℕ
  pub before : BuilderTree
  pub after : BuilderTree
  pub named : field_name_at_index (fields_of (builder_type old)) index ≡ Some k
  pub child : builder_at (struct_children old) index ≡ Some before
  pub rows : builder_len before ≡ n
  pub valid : value_error (builder_type before) j ≡ None
  pub added : SlotAdded (slot_of (builder_type before) j) before after
  pub set : new ≡ with_field old index after

-- a struct builder with other children
abbrev pub over_children : BuilderTree → BuilderTrees → BuilderTree
over_children (struct t bits cs) ds = struct t bits ds
over_children b ds = b

-- all members were added to the children of their fields
pub record MembersAdded (ms : Members) (old new : BuilderTree) : Type 0 where
  pub added : MembersAddedTo (fields_of (builder_type old)) (member_slots (fields_of (builder_type old)) ms) (struct_children old) (struct_children new)
  pub set : new ≡ over_children old (struct_children new)

-- a limit or a failed allocation
abbrev pub IsLimitError : PushError → Type 0
IsLimitError (push_error.Value e) = ⊥
IsLimitError push_error.Overflow = Unit {0}
IsLimitError push_error.Memory = Unit {0}
