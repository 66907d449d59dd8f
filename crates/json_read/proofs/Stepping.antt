-- A record's members, one step after another, and the reasons on the way.
use Rattle.std.specs.Prelude.{Option, Some, None, if◌then◌else◌}
use Rattle.std.proofs.Common.{◌≡◌, ℕ, Bool, true, List, [], ◌∷◌, ◌++◌, length, map, refl, sym, ap, ◌∙◌, subst}
use Rattle.std.proofs.lemmas.List.{map_push}
use Rattle.json.specs.Json.{Json, Members, member}
use Rattle.nest_any.specs.Lent.{written_over}
use Rattle.nest_any.specs.Refusals.{struct_children}
use Rattle.json_read.specs.DistinctNames.{HasDistinctFieldNames}
use Rattle.json_read.specs.StructMembers.{MembersAddedTo, MemberAdded, NullsAdded, IsLimitError, child_error, child_named}
use Rattle.json_read.specs.FlatValues.{first_error}
use Rattle.json_read.specs.JsonSlots.{value_error, field_slots, slot_of, type_named, members_error}
use Rattle.json_read.specs.SlotAdded.{SlotAdded, IsPushError}
use Rattle.json_read.specs.declared.value_error.ValueError.{ValueError}
use Rattle.json_read.specs.declared.value_error.ValueError.TheVariants.{DuplicateField}
use Rattle.json_read.specs.declared.value_error.PushError.{PushError}
use Rattle.json_read.specs.declared.value_error.PushError.TheVariants as push_error
use Rattle.json_read.proofs.Feeding.{eqb-same, fed-put, fed-types, members-error, named-at, type-at, filled, filled-whole, record-added}
use Rattle.json_read.proofs.TypeParts.{struct-apart}
use Rattle.nest_memory.specs.Physical.{physical_type}
use Rattle.nest_memory.specs.TypeTree.{Letters, TypeTree, fields_of}
use Rattle.nest_memory.specs.declared.datatypes.physical_type.PhysicalType.TheVariants as physical
use Rattle.nest_model.specs.BuilderTree.{BuilderTree, BuilderTrees, struct, no_builders, more_builders, builder_len, builder_type}
use Rattle.nest_model.specs.BuilderAddRow.{HasCompleteChildren, RowAdded}
use Rattle.nest_model.specs.BuilderComplete.{IsComplete}
use Rattle.nest_model.specs.Slot as slots
use Rattle.nest_model.specs.Slot.{Slot}

-- ---- reasons

pub refuses-first : (e : PushError) (a b : Option ValueError) → IsPushError e a → IsPushError e (first_error a b)
refuses-first (push_error.Value r) a b h = ap (λ x. first_error x b) h
refuses-first push_error.Overflow a b h = tt
refuses-first push_error.Memory a b h = tt

pub refuses-later : (e : PushError) (a b : Option ValueError) → a ≡ None → IsPushError e b → IsPushError e (first_error a b)
refuses-later e a b n h = subst (λ x. IsPushError e (first_error x b)) (sym n) h

pub limit-refuses : (e : PushError) (f : Option ValueError) → IsLimitError e → IsPushError e f
limit-refuses (push_error.Value r) f h = absurd h
limit-refuses push_error.Overflow f h = tt
limit-refuses push_error.Memory f h = tt

-- ---- a member

child-valid : (c : Option BuilderTree) (d : BuilderTree) (n : ℕ) (j : Json) → c ≡ Some d → builder_len d ≡ n → value_error (builder_type d) j ≡ None → child_error c n j ≡ None
child-valid c d n j e l f = ap (λ x. child_error x n j) e ∙ ap (λ b. if b then value_error (builder_type d) j else Some DuplicateField) (eqb-same (builder_len d) n l) ∙ f

module _ (t : TypeTree) (bits : List Bool) (cs ds : BuilderTrees) (ps : List (Letters × Slot)) (is : physical_type t ≡ physical.Struct) (apart : HasDistinctFieldNames t) (complete : IsComplete (struct t bits cs)) (fed : MembersAddedTo (fields_of t) ps cs ds) where
  -- the member went to its child
  pub fed-step : (k : Letters) (j : Json) (new : BuilderTree) → MemberAdded k j (length bits) (struct t bits ds) new
      → (MembersAddedTo (fields_of t) (ps ++ (k, slot_of (type_named k (fields_of t)) j) ∷ []) cs (struct_children new)) × (new ≡ struct t bits (struct_children new))
  fed-step k j new h =
      let names = (struct-apart t is apart).0 in
      let typed = fed-types (fields_of t) ps cs ds fed ∙ complete.1 in
      let same = type-at k (fields_of t) ds h.index h.before typed names h.named h.child in
      let added = subst (λ u. SlotAdded (slot_of u j) h.before h.after) (sym same) h.added in
      let put = fed-put (fields_of t) ps cs ds h.index k (slot_of (type_named k (fields_of t)) j) (length bits) h.before h.after names complete.0 fed h.named h.child h.rows added in
      (subst (λ b. MembersAddedTo (fields_of t) (ps ++ (k, slot_of (type_named k (fields_of t)) j) ∷ []) cs (struct_children b)) (sym h.set) put, h.set ∙ ap (λ b. struct t bits (struct_children b)) (sym h.set))

  -- no reason was in it
  pub error-step : (k : Letters) (j : Json) (ms : Members) (new : BuilderTree) → MemberAdded k j (length bits) (struct t bits ds) new
      → members_error (fields_of t) (map (λ p. p.0) ps) (member k j ms) ≡ members_error (fields_of t) (map (λ p. p.0) (ps ++ (k, slot_of (type_named k (fields_of t)) j) ∷ [])) ms
  error-step k j ms new h =
      let names = (struct-apart t is apart).0 in
      let typed = fed-types (fields_of t) ps cs ds fed ∙ complete.1 in
      let found = named-at k (fields_of t) ds h.index typed names h.named ∙ h.child in
      members-error (fields_of t) ps cs ds k j ms (length bits) complete.1 complete.0 fed
      ∙ ap (λ e. first_error e (members_error (fields_of t) (map (λ p. p.0) ps ++ k ∷ []) ms)) (child-valid (child_named k (fields_of t) ds) h.before (length bits) j found h.rows h.valid)
      ∙ ap (λ ns. members_error (fields_of t) ns ms) (sym (map_push (λ p. p.0) ps (k, slot_of (type_named k (fields_of t)) j)))

  -- a reason was
  pub error-stop : (k : Letters) (j : Json) (ms : Members) (e : PushError) → IsPushError e (child_error (child_named k (fields_of t) ds) (length bits) j) → IsPushError e (members_error (fields_of t) (map (λ p. p.0) ps) (member k j ms))
  error-stop k j ms e h =
      subst (IsPushError e) (sym (members-error (fields_of t) ps cs ds k j ms (length bits) complete.1 complete.0 fed)) (refuses-first e (child_error (child_named k (fields_of t) ds) (length bits) j) (members_error (fields_of t) (map (λ p. p.0) ps ++ k ∷ []) ms) h)

  -- ---- the record

  pub completed-whole : (es : BuilderTrees) → NullsAdded (length bits) ds es → HasCompleteChildren (struct t bits es)
  completed-whole es h = filled-whole (fields_of t) ps cs es (filled (fields_of t) ps cs ds es (length bits) fed complete.0 h)

  pub completed-added : (es : BuilderTrees) (new : BuilderTree) → NullsAdded (length bits) ds es → RowAdded true (struct t bits es) new → SlotAdded (slots.record_of (field_slots (fields_of t) ps)) (struct t bits cs) new
  completed-added es new h k = record-added t bits (fields_of t) ps cs es new (filled (fields_of t) ps cs ds es (length bits) fed complete.0 h) complete.0 k

pub completed-over : (n : ℕ) (ds es : BuilderTrees) → NullsAdded n ds es → written_over ds es ≡ es
completed-over n no_builders no_builders h = refl
completed-over n no_builders (more_builders e es) h = absurd h
completed-over n (more_builders d ds) no_builders h = absurd h
completed-over n (more_builders d ds) (more_builders e es) h = ap (more_builders e) (completed-over n ds es h.1)
