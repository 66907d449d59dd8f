use Rattle.std.specs.Prelude.{OnOk, IfErr, Some, None}
use Rattle.std.proofs.Common.{◌≡◌, ◌+◌, ◌<◌, [], ◌∷◌, ◌++◌, length, map, drop, refl, sym, ap, ◌∙◌, subst, arith}
use Rattle.std.proofs.lemmas.List.{append_assoc, drop_more}
use Rattle.json.specs.Tree.{json_tokens}
use Rattle.json.specs.Value.{items_view, members_view, value_view}
use Rattle.json.proofs.Trees.{item_smaller, member_smaller, view-Array, view-Object}
use Rattle.nest_any.specs.Lent.{builder_at}
use Rattle.nest_any.specs.Trees.{tree_of, trees_of}
use Rattle.nest_any.specs.Words.{AreEachComplete, IsComplete, builder_len, builder_type, count_builders, list_child, struct_children}
use Rattle.json_read.specs.DistinctNames.{HasDistinctFieldNames}
use Rattle.json_read.specs.StructMembers.{NullsAdded, child_error, child_named, field_name_at_index}
use Rattle.json_read.specs.FlatValues.{first_error}
use Rattle.json_read.specs.JsonSlots.{value_error, field_slots, items_error, member_slots, members_error, list_length_error, slot_of, type_named}
use Rattle.json_read.specs.SlotAdded.{IsPushError, SlotAdded, SlotsAdded}
use Rattle.json_read.proofs.Feeding.{fed-none, named-at, named-none}
use Rattle.json_read.proofs.Stepping.{refuses-first}
use Rattle.json_read.proofs.AddedLists.{list-added}
use Rattle.json_read.proofs.TypeParts.{child-apart, child-parts, struct-apart, struct-members}
use Rattle.json_read.proofs.Pushed.{on-ok, value-list, error-list, size-wrong, size-right, first-later, trees-count, types-count, tree-at, whole-child, child-repeated, child-reason, some-len, error-object, Coming, children-whole, records-typed, over-same, coming-children, coming-ready, coming-next, coming-stop, coming-with_row}
use Rattle.nest_memory.specs.TypeTree.{Letters, count_fields, fields_of, fixed_size}
use Rattle.nest_model.specs.Slot as slots
use Rattle.nest_model.specs.Slot.{Slot, seal}
use Rattle.json_write.specs.JsonText.{items_type}
use Rattle.json_write.specs.TypedSlots.{LacksField}
use Rattle.json_read.proofs.push.+push.Goals as goal
use Rattle.json_read.proofs.push.+push.Goals.{push_list-in-Some+else-size-items, push_list-in_default-size}

-- ---- lists

pub push_items-push_value-requires : goal.push_items-push_value-requires
push_items-push_value-requires t c =
    let l = c.loop-item in
    let here = ap (λ v. length (json_tokens (value_view v))) c.item-item.is in
    (omega (arith, here, item_smaller c.args.items.now l.item-index c.item-item.result c.loop-item-test.true), (l.invariant.complete, subst HasDistinctFieldNames (sym l.invariant.same_type) c.requires.distinct))

pub push_list-push_items-requires : goal.push_list-push_items-requires
push_list-push_items-requires t c =
    let p = child-parts c.args.lists.now c.known.ensures.kind c.requires.complete c.requires.distinct in
    let v = c.child.ensures.value in
    (omega arith, (subst IsComplete (sym v) p.2, subst (λ b. HasDistinctFieldNames (builder_type b)) (sym v) p.1))

pub push_list-returns-in-Err-clause-error : goal.push_list-returns-in-Err-clause-error
push_list-returns-in-Err-clause-error t c =
    let p = child-parts c.args.lists.now c.known.ensures.kind c.requires.complete c.requires.distinct in
    let typed = ap builder_type c.child.ensures.value ∙ sym p.0 in
    refuses-first c.in-Err.error (items_error (items_type (builder_type c.args.lists.now)) (items_view c.args.items.now)) (list_length_error c.args.size (length c.args.items.now))
    (subst (λ u. IsPushError c.in-Err.error (items_error u (items_view c.args.items.now))) typed c.in-Err.ensures.error)

pub push_list-returns-then-size-items-clause-error : goal.push_list-returns-then-size-items-clause-error
push_list-returns-then-size-items-clause-error t c =
    let p = child-parts c.args.lists.now c.known.ensures.kind c.requires.complete c.requires.distinct in
    let typed = ap builder_type c.child.ensures.value ∙ sym p.0 in
    first-later _ _ (subst (λ u. items_error u (items_view c.args.items.now) ≡ None) typed c.in_default.ensures.valid)
    ∙ size-wrong c.args.size c.in-Some.size (length c.args.items.now) c.in-Some.is c.if-size-items.true

pub push_list-returns-clause-added : goal.push_list-returns-clause-added
push_list-returns-clause-added t c =
    let b = c.args.lists.now in
    let d = tree_of c.push_items.new.child in
    let p = child-parts b c.known.ensures.kind c.requires.complete c.requires.distinct in
    let items = c.args.items.now in
    let one = subst (λ x. SlotsAdded (map (λ v. slot_of (builder_type x) (value_view v)) items) x d) c.child.ensures.value c.in_default.ensures.added in
    let added = subst (λ u. SlotsAdded (map (λ v. slot_of u (value_view v)) items) (list_child b) d) (sym p.0) one in
    on-ok c.push_list_slot.result _ _ (λ with_row. list-added (map (λ v. slot_of (items_type (builder_type b)) (value_view v)) items) b d c.push_list_slot.new.lists c.known.ensures.kind c.requires.complete added with_row) c.push_list_slot.ensures.added

pub push_list-returns-clause-valid : goal.push_list-returns-clause-valid
push_list-returns-clause-valid t c =
    let p = child-parts c.args.lists.now c.known.ensures.kind c.requires.complete c.requires.distinct in
    let typed = ap builder_type c.child.ensures.value ∙ sym p.0 in
    let none = subst (λ u. items_error u (items_view c.args.items.now) ≡ None) typed c.in_default.ensures.valid in
    let size : list_length_error c.args.size (length c.args.items.now) ≡ None = elim c.match-size.branch [
      | push_list-in-Some+else-size-items w ↦ size-right c.args.size w.in-Some.size (length c.args.items.now) w.in-Some.is w.if-size-items.false
      | push_list-in_default-size w ↦ ap (λ o. list_length_error o (length c.args.items.now)) w.in_default-size.is
    ] in
    on-ok c.push_list_slot.result _ _ (λ with_row. first-later _ _ none ∙ size) c.push_list_slot.ensures.added

pub push_value-returns-in-List-clause-added : goal.push_value-returns-in-List-clause-added
push_value-returns-in-List-clause-added t c =
    let b = c.in-List.lists in
    let seen = ap value_view c.in-Array.is ∙ view-Array c.in-Array.items in
    let tree = ap tree_of c.in-List.is in
    let items = c.in-Array.items.items in
    subst (λ x. OnOk c.push_list.result (SlotAdded (slot_of (builder_type x) (value_view c.args.value.now)) x c.push_list.new.lists)) (sym tree)
    (subst (λ j. OnOk c.push_list.result (SlotAdded (slot_of (builder_type b) j) b c.push_list.new.lists)) (sym seen)
    (subst (λ s. OnOk c.push_list.result (SlotAdded s b c.push_list.new.lists)) (sym (value-list (builder_type b) items c.push_list.ensures.lists))
    (subst (λ vs. OnOk c.push_list.result (SlotAdded (slots.list (seal (map (λ v. slot_of (items_type (builder_type b)) (value_view v)) vs))) b c.push_list.new.lists)) c.deref.ensures.value c.push_list.ensures.added)))

pub push_value-returns-in-List-clause-valid : goal.push_value-returns-in-List-clause-valid
push_value-returns-in-List-clause-valid t c =
    let b = c.in-List.lists in
    let seen = ap value_view c.in-Array.is ∙ view-Array c.in-Array.items in
    let tree = ap tree_of c.in-List.is in
    let items = c.in-Array.items.items in
    let size = c.size-size.ensures.size ∙ ap fixed_size (c.data_type.ensures ∙ ap builder_type tree) in
    let all = ap (λ x. value_error (builder_type x) (value_view c.args.value.now)) tree ∙ ap (value_error (builder_type b)) seen ∙ error-list (builder_type b) items c.push_list.ensures.lists in
    subst (λ f. OnOk c.push_list.result (f ≡ None)) (sym all)
    (subst (λ o. OnOk c.push_list.result (first_error (items_error (items_type (builder_type b)) (items_view items)) (list_length_error o (length items)) ≡ None)) size
    (subst (λ vs. OnOk c.push_list.result (first_error (items_error (items_type (builder_type b)) (items_view vs)) (list_length_error c.size-size.result (length vs)) ≡ None)) c.deref.ensures.value c.push_list.ensures.valid))

pub push_value-returns-in-List-clause-error : goal.push_value-returns-in-List-clause-error
push_value-returns-in-List-clause-error t c =
    let b = c.in-List.lists in
    let seen = ap value_view c.in-Array.is ∙ view-Array c.in-Array.items in
    let tree = ap tree_of c.in-List.is in
    let items = c.in-Array.items.items in
    let size = c.size-size.ensures.size ∙ ap fixed_size (c.data_type.ensures ∙ ap builder_type tree) in
    let all = ap (λ x. value_error (builder_type x) (value_view c.args.value.now)) tree ∙ ap (value_error (builder_type b)) seen ∙ error-list (builder_type b) items c.push_list.ensures.lists in
    subst (λ f. IfErr c.push_list.result (λ e. IsPushError e f)) (sym all)
    (subst (λ o. IfErr c.push_list.result (λ e. IsPushError e (first_error (items_error (items_type (builder_type b)) (items_view items)) (list_length_error o (length items))))) size
    (subst (λ vs. IfErr c.push_list.result (λ e. IsPushError e (first_error (items_error (items_type (builder_type b)) (items_view vs)) (list_length_error c.size-size.result (length vs))))) c.deref.ensures.value c.push_list.ensures.error))

-- ---- records

pub push_member-returns-in_default-clause-error : goal.push_member-returns-in_default-clause-error
push_member-returns-in_default-clause-error t c =
    let b = c.args.records.now in
    let fields = c.fields.ensures.fields ∙ ap fields_of c.data_type.ensures in
    ap (λ x. child_error x c.args.len (value_view c.args.value.now)) (named-none c.args.name.now (fields_of (builder_type b)) (struct_children b) (subst (LacksField c.args.name.now) fields c.in_default.ensures))

pub push_member-bounds-values-i : goal.push_member-bounds-values-i
push_member-bounds-values-i t c =
    let b = c.args.records.now in
    let count = types-count (struct_children b) (fields_of (builder_type b)) c.requires.1.1.1.0 in
    omega (arith, c.in-Some.ensures.0, c.fields.ensures.count, ap (λ u. count_fields (fields_of u)) c.data_type.ensures, count, trees-count c.values.result.now, ap count_builders c.values.ensures)

pub push_member-value-requires : goal.push_member-value-requires
push_member-value-requires t c =
    let b = c.args.records.now in
    let count = types-count (struct_children b) (fields_of (builder_type b)) c.requires.1.1.1.0 in
    omega (arith, c.in-Some.ensures.0, c.fields.ensures.count, ap (λ u. count_fields (fields_of u)) c.data_type.ensures, count)

pub push_member-returns-then-len-clause-error : goal.push_member-returns-then-len-clause-error
push_member-returns-then-len-clause-error t c =
    let b = c.args.records.now in
    let fs = fields_of (builder_type b) in
    let fields = c.fields.ensures.fields ∙ ap fields_of c.data_type.ensures in
    let names = (struct-apart (builder_type b) c.known.ensures.records c.requires.1.1.1.1).0 in
    let named = subst (λ x. field_name_at_index x c.in-Some.i ≡ Some c.args.name.now) fields c.in-Some.ensures.1 in
    let found = named-at c.args.name.now fs (struct_children b) c.in-Some.i c.requires.1.1.1.0 names named in
    let count = types-count (struct_children b) fs c.requires.1.1.1.0 in
    let bound : c.in-Some.i < length c.values.result.now = omega (arith, c.in-Some.ensures.0, c.fields.ensures.count, ap (λ u. count_fields (fields_of u)) c.data_type.ensures, count, trees-count c.values.result.now, ap count_builders c.values.ensures) in
    let there = ap (λ cs. builder_at cs c.in-Some.i) (sym c.values.ensures) ∙ tree-at c.values.result.now c.in-Some.i c.index-values-i.result bound in
    child-repeated (child_named c.args.name.now fs (struct_children b)) _ c.args.len (value_view c.args.value.now) (found ∙ there) (λ h. c.if-len.true (c.len.ensures ∙ ap (λ y. builder_len (tree_of y)) c.index-values-i.is ∙ h))

pub push_member-push_value-requires : goal.push_member-push_value-requires
push_member-push_value-requires t c =
    let b = c.args.records.now in
    let names = struct-apart (builder_type b) c.known.ensures.records c.requires.1.1.1.1 in
    let complete = whole-child (struct_children b) c.in-Some.i (tree_of c.value.result.now) (children-whole b c.known.ensures.kind c.requires.1.1.0) c.value.ensures.value in
    let distinct = child-apart (fields_of (builder_type b)) (struct_children b) c.in-Some.i (tree_of c.value.result.now) c.requires.1.1.1.0 names.1 (sym c.value.ensures.value) in
    (omega arith, (complete, distinct))

pub push_member-returns-in-Ok-clause-added : goal.push_member-returns-in-Ok-clause-added
push_member-returns-in-Ok-clause-added t c =
    let b = c.args.records.now in
    let fields = c.fields.ensures.fields ∙ ap fields_of c.data_type.ensures in
    let fs = fields_of (builder_type b) in
    let count = types-count (struct_children b) fs c.requires.1.1.1.0 in
    let bound : c.in-Some.i < length c.values.result.now = omega (arith, c.in-Some.ensures.0, c.fields.ensures.count, ap (λ u. count_fields (fields_of u)) c.data_type.ensures, count, trees-count c.values.result.now, ap count_builders c.values.ensures) in
    let there = ap (λ cs. builder_at cs c.in-Some.i) (sym c.values.ensures) ∙ tree-at c.values.result.now c.in-Some.i c.index-values-i.result bound in
    record {
      index = c.in-Some.i;
      before = tree_of c.value.result.now;
      after = tree_of c.push_value.new.builder;
      named = subst (λ x. field_name_at_index x c.in-Some.i ≡ Some c.args.name.now) fields c.in-Some.ensures.1;
      child = sym c.value.ensures.value;
      rows = some-len (tree_of c.value.result.now) _ (c.value.ensures.value ∙ there) ∙ sym (c.len.ensures ∙ ap (λ y. builder_len (tree_of y)) c.index-values-i.is) ∙ c.if-len.false;
      valid = c.in-Ok.ensures.valid;
      added = c.in-Ok.ensures.added;
      set = refl;
    }

pub push_member-returns-in-Err-clause-error : goal.push_member-returns-in-Err-clause-error
push_member-returns-in-Err-clause-error t c =
    let b = c.args.records.now in
    let fs = fields_of (builder_type b) in
    let fields = c.fields.ensures.fields ∙ ap fields_of c.data_type.ensures in
    let names = (struct-apart (builder_type b) c.known.ensures.records c.requires.1.1.1.1).0 in
    let named = subst (λ x. field_name_at_index x c.in-Some.i ≡ Some c.args.name.now) fields c.in-Some.ensures.1 in
    let found = named-at c.args.name.now fs (struct_children b) c.in-Some.i c.requires.1.1.1.0 names named in
    let count = types-count (struct_children b) fs c.requires.1.1.1.0 in
    let bound : c.in-Some.i < length c.values.result.now = omega (arith, c.in-Some.ensures.0, c.fields.ensures.count, ap (λ u. count_fields (fields_of u)) c.data_type.ensures, count, trees-count c.values.result.now, ap count_builders c.values.ensures) in
    let there = ap (λ cs. builder_at cs c.in-Some.i) (sym c.values.ensures) ∙ tree-at c.values.result.now c.in-Some.i c.index-values-i.result bound in
    let len = some-len (tree_of c.value.result.now) _ (c.value.ensures.value ∙ there) ∙ sym (c.len.ensures ∙ ap (λ y. builder_len (tree_of y)) c.index-values-i.is) ∙ c.if-len.false in
    let same = child-reason (child_named c.args.name.now fs (struct_children b)) (tree_of c.value.result.now) c.args.len (value_view c.args.value.now) (found ∙ sym c.value.ensures.value) len in
    subst (IsPushError c.in-Err.error) (sym same) c.in-Err.ensures.error

pub push_members-loop-member-init : goal.push_members-loop-member-init
push_members-loop-member-init t c =
    let b = c.args.records.now in (
      [],
      record {
        slots = refl;
        fed = fed-none (fields_of (builder_type b)) (struct_children b) (records-typed b c.known.ensures.kind c.requires.complete);
        set = over-same b c.known.ensures.kind;
        faults = refl;
      },
    )

pub push_members-push_member-requires : goal.push_members-push_member-requires
push_members-push_member-requires t c =
    let l = c.loop-member in
    let i = l.invariant in
    let here = ap (λ m. length (json_tokens (value_view m.1))) c.member-item.is in
    let coming : Coming c.args.records.now l.records i.0 = record { kind = c.known.ensures.kind; records = c.known.ensures.records; distinct = c.requires.distinct; complete = c.requires.complete; fed = i.1.fed; set = i.1.set } in
    let ready = coming-ready c.args.records.now l.records i.0 coming in
    (omega (arith, here, member_smaller c.args.members.now l.member-index c.member-item.result c.loop-member-test.true), (ready.0, (ready.1, ready.2)))

pub push_members-returns-in-Err-clause-error : goal.push_members-returns-in-Err-clause-error
push_members-returns-in-Err-clause-error t c =
    let l = c.loop-member in
    let i = l.invariant in
    let b = c.args.records.now in
    let xs = c.args.members.now in
    let x = c.member-item.result in
    let coming : Coming b l.records i.0 = record { kind = c.known.ensures.kind; records = c.known.ensures.records; distinct = c.requires.distinct; complete = c.requires.complete; fed = i.1.fed; set = i.1.set } in
    let here : drop l.member-index xs ≡ x ∷ drop (l.member-index + 1) xs = drop_more xs l.member-index x c.loop-member-test.true ∙ ap (λ y. y ∷ drop (l.member-index + 1) xs) (sym c.member-item.is) in
    let rest = members_view (drop (l.member-index + 1) xs) in
    let stop = coming-stop b l.records i.0 x.0.now (value_view x.1) rest c.args.len c.in-Err.error coming c.requires.len c.in-Err.ensures.error in
    subst (IsPushError c.in-Err.error) (sym (i.1.faults ∙ ap (λ ys. members_error (fields_of (builder_type b)) (map (λ p. p.0) i.0) (members_view ys)) here)) stop

pub push_members-loop-member-preserved : goal.push_members-loop-member-preserved
push_members-loop-member-preserved t c =
    let l = c.loop-member in
    let i = l.invariant in
    let b = c.args.records.now in
    let fs = fields_of (builder_type b) in
    let xs = c.args.members.now in
    let x = c.member-item.result in
    let coming : Coming b l.records i.0 = record { kind = c.known.ensures.kind; records = c.known.ensures.records; distinct = c.requires.distinct; complete = c.requires.complete; fed = i.1.fed; set = i.1.set } in
    let here : drop l.member-index xs ≡ x ∷ drop (l.member-index + 1) xs = drop_more xs l.member-index x c.loop-member-test.true ∙ ap (λ y. y ∷ drop (l.member-index + 1) xs) (sym c.member-item.is) in
    let rest = members_view (drop (l.member-index + 1) xs) in
    let one : Letters × Slot = (x.0.now, slot_of (type_named x.0.now fs) (value_view x.1)) in
    let next = coming-next b l.records c.push_member.new.records i.0 x.0.now (value_view x.1) rest c.args.len coming c.requires.len c.in-Ok.ensures.added in (
      i.0 ++ one ∷ [],
      record {
        slots = append_assoc i.0 (one ∷ []) (member_slots fs rest) ∙ ap (λ ys. i.0 ++ member_slots fs (members_view ys)) (sym here) ∙ i.1.slots;
        fed = next.fed;
        set = next.set;
        faults = i.1.faults ∙ ap (λ ys. members_error fs (map (λ p. p.0) i.0) (members_view ys)) here ∙ next.faults;
      },
    )

pub push_struct-push_missing_nulls-requires : goal.push_struct-push_missing_nulls-requires
push_struct-push_missing_nulls-requires t c =
    let b = c.args.records.now in
    let fed = c.in_ok-push_members.ensures.added in
    let ms = member_slots (fields_of (builder_type b)) (members_view c.args.members.now) in
    let coming : Coming b c.push_members.new.records ms = record { kind = c.known.ensures.kind; records = c.known.ensures.records; distinct = c.requires.distinct; complete = c.requires.complete; fed = fed.added; set = fed.set } in
    let ready = coming-ready b c.push_members.new.records ms coming in
    subst AreEachComplete (sym c.mut_values.ensures.value) (coming-children b c.push_members.new.records ms coming)

pub push_struct-push_struct_slot-requires : goal.push_struct-push_struct_slot-requires
push_struct-push_struct_slot-requires t c =
    let b = c.args.records.now in
    let fed = c.in_ok-push_members.ensures.added in
    let ms = member_slots (fields_of (builder_type b)) (members_view c.args.members.now) in
    let coming : Coming b c.push_members.new.records ms = record { kind = c.known.ensures.kind; records = c.known.ensures.records; distinct = c.requires.distinct; complete = c.requires.complete; fed = fed.added; set = fed.set } in
    let done = subst (λ cs. NullsAdded c.len-len.result cs (trees_of c.push_missing_nulls.new.children)) c.mut_values.ensures.value c.in_ok-push_missing_nulls.ensures.completed in
    (coming-with_row b c.push_members.new.records ms (trees_of c.push_missing_nulls.new.children) c.len-len.result coming c.len-len.ensures done).0

pub push_struct-returns-clause-added : goal.push_struct-returns-clause-added
push_struct-returns-clause-added t c =
    let b = c.args.records.now in
    let fed = c.in_ok-push_members.ensures.added in
    let ms = member_slots (fields_of (builder_type b)) (members_view c.args.members.now) in
    let coming : Coming b c.push_members.new.records ms = record { kind = c.known.ensures.kind; records = c.known.ensures.records; distinct = c.requires.distinct; complete = c.requires.complete; fed = fed.added; set = fed.set } in
    let done = subst (λ cs. NullsAdded c.len-len.result cs (trees_of c.push_missing_nulls.new.children)) c.mut_values.ensures.value c.in_ok-push_missing_nulls.ensures.completed in
    let with_row = coming-with_row b c.push_members.new.records ms (trees_of c.push_missing_nulls.new.children) c.len-len.result coming c.len-len.ensures done in
    on-ok c.push_struct_slot.result _ _ (with_row.1 c.push_struct_slot.new.records) c.push_struct_slot.ensures.added

pub push_value-returns-in-Struct-clause-added : goal.push_value-returns-in-Struct-clause-added
push_value-returns-in-Struct-clause-added t c =
    let b = c.in-Struct.records in
    let seen = ap value_view c.in-Object.is ∙ view-Object c.in-Object.members in
    let tree = ap tree_of c.in-Struct.is in
    let ms = c.in-Object.members.items in
    let same = struct-members (builder_type b) c.push_struct.ensures.records in
    subst (λ x. OnOk c.push_struct.result (SlotAdded (slot_of (builder_type x) (value_view c.args.value.now)) x c.push_struct.new.records)) (sym tree)
    (subst (λ j. OnOk c.push_struct.result (SlotAdded (slot_of (builder_type b) j) b c.push_struct.new.records)) (sym seen)
    (subst (λ fs. OnOk c.push_struct.result (SlotAdded (slots.record_of (field_slots fs (member_slots fs (members_view ms)))) b c.push_struct.new.records)) (sym same)
    (subst (λ vs. OnOk c.push_struct.result (SlotAdded (slots.record_of (field_slots (fields_of (builder_type b)) (member_slots (fields_of (builder_type b)) (members_view vs)))) b c.push_struct.new.records)) c.deref-in-Struct.ensures.value c.push_struct.ensures.added)))

pub push_value-returns-in-Struct-clause-valid : goal.push_value-returns-in-Struct-clause-valid
push_value-returns-in-Struct-clause-valid t c =
    let b = c.in-Struct.records in
    let seen = ap value_view c.in-Object.is ∙ view-Object c.in-Object.members in
    let tree = ap tree_of c.in-Struct.is in
    let ms = c.in-Object.members.items in
    let all = ap (λ x. value_error (builder_type x) (value_view c.args.value.now)) tree ∙ ap (value_error (builder_type b)) seen ∙ error-object (builder_type b) (members_view ms) c.push_struct.ensures.records in
    subst (λ f. OnOk c.push_struct.result (f ≡ None)) (sym all)
    (subst (λ vs. OnOk c.push_struct.result (members_error (fields_of (builder_type b)) [] (members_view vs) ≡ None)) c.deref-in-Struct.ensures.value c.push_struct.ensures.valid)

pub push_value-returns-in-Struct-clause-error : goal.push_value-returns-in-Struct-clause-error
push_value-returns-in-Struct-clause-error t c =
    let b = c.in-Struct.records in
    let seen = ap value_view c.in-Object.is ∙ view-Object c.in-Object.members in
    let tree = ap tree_of c.in-Struct.is in
    let ms = c.in-Object.members.items in
    let all = ap (λ x. value_error (builder_type x) (value_view c.args.value.now)) tree ∙ ap (value_error (builder_type b)) seen ∙ error-object (builder_type b) (members_view ms) c.push_struct.ensures.records in
    subst (λ f. IfErr c.push_struct.result (λ e. IsPushError e f)) (sym all)
    (subst (λ vs. IfErr c.push_struct.result (λ e. IsPushError e (members_error (fields_of (builder_type b)) [] (members_view vs)))) c.deref-in-Struct.ensures.value c.push_struct.ensures.error)
