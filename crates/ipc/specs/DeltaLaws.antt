-- The state after a delta; and a dictionary batch in a file is read as in a stream, or refused.
use Rattle.std.specs.Prelude.{◌≡◌, ℕ, ℤ, pos, Bool, true, false, ◌&&◌, not, nat_lt, List, [], ◌∷◌, ◌++◌, Option, Some, None, is_some, Result, Ok, Err, refl}
use Rattle.std.proofs.Common.{sym, ap, subst, ◌∙◌}
use Rattle.std.specs.Int.{w8, w64}
use Rattle.nest_memory.specs.TypeEq.{same_type, same_type-decides}
use Rattle.nest_model.specs.Array.{IsArray}
use Rattle.nest_model.specs.Layout.{Layout, layout_type}
use Rattle.nest_model.specs.Meaning.{slots_of}
use Rattle.nest_model.specs.Slot.{Slot}
use Rattle.nest_concat.specs.Laid.{joined_layout, joins_past}
use Rattle.ipc_flatbuf.specs.ReadResults.{◌>>=◌, check}
use Rattle.ipc_flatbuf.specs.declared.error.IpcReadError.{IpcReadError}
use Rattle.ipc_flatbuf.specs.declared.error.IpcReadError.TheVariants.{Delta}
use Rattle.ipc_flatbuf.specs.Flatbuffers.{number_at, signed_at, field, spec_offset_field, spec_read_table}
use Rattle.ipc_flatbuf.specs.declared.tables.FlatbufferTable.{FlatbufferTable}
use Rattle.ipc_flatbuf.specs.Messages.{MessageModel}
use Rattle.ipc_schema.specs.Dictionaries.{ValueTypeModel}
use Rattle.ipc.specs.KnownDictionaryLaws.{entry_put}
use Rattle.ipc.specs.UnionOffsets.{spec_union_offsets_overflow}
use Rattle.ipc.specs.Streams.{StateTree, spec_data_position, spec_check_order, data_in, found_in, found_values, new_values_in, named_in, known_at, spec_contains_id, can_join, spec_joined_values, with_delta, spec_with_values, dictionary_in}

first_is : (a b : Bool) → (a && b) ≡ true → a ≡ true
first_is true b h = refl
first_is false b h = h

-- ---- in a file

-- what is read is also read where less is refused
module _ {A B : Type 0} (f g : A → Result B IpcReadError) (y : B) where
  then_read : (first second : Result A IpcReadError) → ((x : A) → first ≡ Ok x → second ≡ Ok x) → ((x : A) → f x ≡ Ok y → g x ≡ Ok y) → (first >>= f) ≡ Ok y → (second >>= g) ≡ Ok y
  then_read (Ok x) second both next h = rw (both x refl) (next x h)
  then_read (Err e) second both next h = cc

  -- if the first step is the same
  after_same : (first : Result A IpcReadError) → ((x : A) → f x ≡ Ok y → g x ≡ Ok y) → (first >>= f) ≡ Ok y → (first >>= g) ≡ Ok y
  after_same first next h = then_read first first (λ x e. e) next h

may_come_too : (delta there : Bool) (x : Unit {0}) → spec_check_order true delta there ≡ Ok x → spec_check_order false delta there ≡ Ok x
may_come_too true there x h = h
may_come_too false true x h = cc
may_come_too false false x h = h

data_too : (there : Bool) (metadata : List ℕ) (table : FlatbufferTable) (x : ℕ × Bool) → data_in true there metadata table ≡ Ok x → data_in false there metadata table ≡ Ok x
unfolding data_in
data_too there metadata table x h =
    after_same _ _ x (spec_offset_field metadata table 1) (λ to. after_same _ _ x (spec_data_position to) (λ position. after_same _ _ x (field (number_at w8 metadata) 0 metadata table 2) (λ delta.
    then_read _ _ x (spec_check_order true (nat_lt 0 delta) there) (spec_check_order false (nat_lt 0 delta) there) (may_come_too (nat_lt 0 delta) there) (λ u e. e)))) h

column_too : (s : StateTree) (m : MessageModel) (table : FlatbufferTable) (left : ℕ) (id : ℤ) (v : ValueTypeModel) (x : Bool × Layout) → new_values_in true s m table left id v ≡ Ok x → new_values_in false s m table left id v ≡ Ok x
column_too s m table left id v x h =
    then_read _ _ x (data_in true (is_some (known_at s.known id)) m.metadata table) (data_in false (is_some (known_at s.known id)) m.metadata table) (data_too (is_some (known_at s.known id)) m.metadata table) (λ at e. e) h

values_too : (s : StateTree) (m : MessageModel) (table : FlatbufferTable) (left : ℕ) (id : ℤ) (named : Option ValueTypeModel) (x : Option (Bool × Layout)) → found_values true s m table left id named ≡ Ok x → found_values false s m table left id named ≡ Ok x
values_too s m table left id None x h = h
values_too s m table left id (Some v) x h = then_read _ _ x (new_values_in true s m table left id v) (new_values_in false s m table left id v) (column_too s m table left id v) (λ new e. e) h

found_too : (s : StateTree) (m : MessageModel) (table : FlatbufferTable) (left : ℕ) (id : ℤ) (x : Option (Bool × Layout)) → found_in true s m table left id ≡ Ok x → found_in false s m table left id ≡ Ok x
found_too s m table left id x h = after_same _ _ x (named_in s.picked id) (λ named. values_too s m table left id named x) h

-- a dictionary batch that is read in a file is read alike in a stream
pub reads_more : (s t : StateTree) (m : MessageModel) → dictionary_in true s m ≡ Ok t → dictionary_in false s m ≡ Ok t
unfolding dictionary_in
reads_more s t m h =
    after_same _ _ t (spec_read_table m.metadata m.root.header m.root.left) (λ table. after_same _ _ t (field (signed_at w64 m.metadata) (pos 0) m.metadata table.0 0) (λ id.
    then_read _ _ t (found_in true s m table.0 table.1 id) (found_in false s m table.0 table.1 id) (found_too s m table.0 table.1 id) (λ found e. e))) h

-- ---- appended

abbrev pub then_more : StateTree → ℤ → Bool → Result Layout IpcReadError → Result StateTree IpcReadError
then_more s id is_fresh read = check is_fresh Delta >>= λ appendable. read >>= λ values. Ok (with_delta s id values)

more_by : (s t : StateTree) (id : ℤ) (values : Layout) (is_fresh fits : Bool) → then_more s id is_fresh (check fits Delta >>= λ all. Ok values) ≡ Ok t → t ≡ with_delta s id values
more_by s t id values true true h = cc
more_by s t id values true false h = cc
more_by s t id values false fits h = cc

fits_by : (s t : StateTree) (id : ℤ) (values : Layout) (is_fresh fits : Bool) → then_more s id is_fresh (check fits Delta >>= λ all. Ok values) ≡ Ok t → fits ≡ true
fits_by s t id values true true h = refl
fits_by s t id values true false h = cc
fits_by s t id values false fits h = cc

-- these values have these slots
abbrev pub HasSlots : List Slot → Option Layout → Type 0
HasSlots ss None = ⊥
HasSlots ss (Some a) = slots_of a ≡ ss

module _ (s t : StateTree) (id : ℤ) (old more : Layout) (there : known_at s.known id ≡ Some old) (read : spec_with_values true s id more ≡ Ok t) where
  abbrev both : Layout
  both = joined_layout (old ∷ more ∷ [])

  abbrev fits : Bool
  fits = can_join old more

  opened : then_more s id (spec_contains_id s.appendable id) (check fits Delta >>= λ all. Ok both) ≡ Ok t
  opened = ap (λ (o : Option Layout). then_more s id (spec_contains_id s.appendable id) (spec_joined_values o more)) (sym there) ∙ read

  -- an id has all values after a delta
  pub delta_joins : t ≡ with_delta s id both
  delta_joins = more_by s t id both (spec_contains_id s.appendable id) fits opened

  -- these have one data type
  pub delta_type : layout_type more ≡ layout_type old
  delta_type = sym ((same_type-decides (layout_type old) (layout_type more)).0 (first_is (same_type (layout_type old) (layout_type more)) (not (joins_past (old ∷ more ∷ [])) && not (spec_union_offsets_overflow old more)) (fits_by s t id both (spec_contains_id s.appendable id) fits opened)))

  pub delta_known : known_at t.known id ≡ Some both
  delta_known = ap (λ (x : StateTree). known_at x.known id) delta_joins ∙ entry_put s.known id both

  -- with the slots of both, if the concatenation has them
  pub delta_slots : (layout_type more ≡ layout_type old → slots_of both ≡ slots_of old ++ slots_of more) → HasSlots (slots_of old ++ slots_of more) (known_at t.known id)
  delta_slots joined = subst (HasSlots (slots_of old ++ slots_of more)) (sym delta_known) (joined delta_type)

-- the id of a delta that is read has the slots that it had, then those of the delta
abbrev pub DeltasHaveSlots : Type 0
DeltasHaveSlots =
    (s t : StateTree) (id : ℤ) (old more : Layout) → IsArray old → IsArray more → known_at s.known id ≡ Some old → spec_with_values true s id more ≡ Ok t
    → HasSlots (slots_of old ++ slots_of more) (known_at t.known id)
