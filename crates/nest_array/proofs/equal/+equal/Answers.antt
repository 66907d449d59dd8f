use Rattle.std.proofs.Common.{◌+◌, refl, sym, ap, ◌∙◌, subst, arith}
use Rattle.nest_memory.specs.TypeTree.{logical_type}
use Rattle.nest_model.specs.Accessors.{child_of, child_at, children_of}
use Rattle.nest_model.specs.Layout.{layout_type, weight, weight_all}
use Rattle.nest_model.specs.Meaning.{run, slot, len}
use Rattle.nest_model.specs.Slot.{node_count, node_counts}
use Rattle.nest_flat.specs.BareSlots.{same-along}
use Rattle.nest_flat.specs.SameRuns.{runs-differ}
use Rattle.nest_array.specs.RowSlots.{Alike, IsWithin, row_slot, bound_of}
use Rattle.nest_array.specs.Seen.{layout_of, layouts_of}
use Rattle.nest_array.specs.SeenLists.{lists_layout}
use Rattle.nest_array.proofs.Counts.{same-more, comparisons-more, comparisons-stops, null-shown, tells-after, tells-more, tells-exact, tells-stopped, nodes-least}
use Rattle.nest_array.proofs.Joined.{lists-bounds, lists-joined, lists-nodes, rows-within, items-along}
use Rattle.nest_array.proofs.Keyed.{keyed-place, keyed-alike, alike-along}
use Rattle.nest_array.proofs.LogicalTypes.{same-items}
use Rattle.nest_array.proofs.Picks.{field-types, picks-field, picks-same, pick-nodes}
use Rattle.nest_array.proofs.SameRows.{row-nodes, lists-same, lists-differ, struct-known, children-typed, children-cover, record-shown, records-shown, records-same, record-same, record-nodes, records-nodes}
use Rattle.nest_array.proofs.equal.+equal.Goals as goal

pub picks::same_picks-returns-then-not-is_same_pick-clause-same : goal.picks::same_picks-returns-then-not-is_same_pick-clause-same
picks::same_picks-returns-then-not-is_same_pick-clause-same t c =
    runs-differ (slot c.args.x.now) (slot c.args.y.now) c.args.o c.args.p c.args.n c.loop-k.k _ c.is_same_pick.ensures.same c.if-not-is_same_pick.true c.loop-k-test.true

pub picks::same_picks-returns-then-not-is_same_pick-clause-comparisons : goal.picks::same_picks-returns-then-not-is_same_pick-clause-comparisons
picks::same_picks-returns-then-not-is_same_pick-clause-comparisons t c =
    comparisons-stops (slot c.args.x.now) c.args.o c.loop-k.k c.args.n _ _ _ _ _ c.if-not-is_same_pick.true c.loop-k-test.true c.loop-k.invariant.comparisons c.is_same_pick.ensures.comparisons refl

pub picks::same_picks-loop-k-preserved : goal.picks::same_picks-loop-k-preserved
picks::same_picks-loop-k-preserved t c =
    record {
      same = same-more (slot c.args.x.now) (slot c.args.y.now) c.args.o c.args.p c.loop-k.k c.loop-k.invariant.same (c.is_same_pick.ensures.same.0 c.if-not-is_same_pick.false);
      comparisons = comparisons-more (slot c.args.x.now) c.args.o c.loop-k.k _ _ _ _ _ c.if-not-is_same_pick.false c.loop-k.invariant.comparisons c.is_same_pick.ensures.comparisons refl;
    }

pub picks::is_same_pick-same_run-requires : goal.picks::is_same_pick-same_run-requires
picks::is_same_pick-same_run-requires t c =
    let a = c.args.x.now in
    let b = c.args.y.now in
    let x = c.field_at.ensures.shown in
    let y = c.field_at-2.ensures.shown in
    let w = c.field_at.ensures.lighter in
    let u = ap len x in
    let v = ap len y in
    let same = field-types a b _ c.known.ensures.fits c.known.ensures.kind c.known-2.ensures.fits c.known-2.ensures.kind c.requires.alike c.index-field.ensures.field_there in (
      omega (arith, w),
      (
        ap logical_type (ap layout_type x ∙ same ∙ ap (λ f. layout_type (child_at (children_of b) f)) c.if-field-other_field.false ∙ sym (ap layout_type y)),
        (
          omega (arith, u, c.index-field.ensures.slot_there),
          omega (arith, v, c.index-other_field.ensures.slot_there),
        ),
      ),
    )

pub picks::is_same_pick-returns-clause-same : goal.picks::is_same_pick-returns-clause-same
picks::is_same_pick-returns-clause-same t c =
    let a = c.args.x.now in
    let b = c.args.y.now in
    let p = picks-field a c.args.i _ c.known.ensures.fits c.known.ensures.kind c.requires.within c.index-field.ensures.field in
    let q = picks-field b c.args.j _ c.known-2.ensures.fits c.known-2.ensures.kind c.requires.other_within c.index-other_field.ensures.field in
    let same = field-types a b _ c.known.ensures.fits c.known.ensures.kind c.known-2.ensures.fits c.known-2.ensures.kind c.requires.alike c.index-field.ensures.field_there in
    picks-same a b c.args.i c.args.j _ _ _ _ _ _ _ p q c.if-field-other_field.false (same ∙ ap (λ f. layout_type (child_at (children_of b) f)) c.if-field-other_field.false)
    (sym c.field_at.ensures.shown) (sym c.field_at-2.ensures.shown) c.index-field.ensures.place c.index-other_field.ensures.place c.same_run.ensures.same

pub picks::is_same_pick-returns-clause-comparisons : goal.picks::is_same_pick-returns-clause-comparisons
picks::is_same_pick-returns-clause-comparisons t c =
    let a = c.args.x.now in
    let p = picks-field a c.args.i _ c.known.ensures.fits c.known.ensures.kind c.requires.within c.index-field.ensures.field in
    tells-after _ _ _ _ _ _ c.add.ensures c.same_run.ensures.comparisons (pick-nodes a c.args.i _ _ _ p (sym c.field_at.ensures.shown) c.index-field.ensures.place)

pub each_same_row-same_row-requires : goal.each_same_row-same_row-requires
each_same_row-same_row-requires t c =
    let w = ap weight c.items-items.ensures.shown in (
      omega arith,
      (
        same-items (layout_type (lists_layout c.args.xs.now)) (layout_type (lists_layout c.args.ys.now)) (layout_type (layout_of c.items-items.result.now)) (layout_type (layout_of c.items-other_items.result.now)) c.requires.alike c.items-items.ensures.typed c.items-other_items.ensures.typed,
        (
          subst (λ d. IsWithin c.row.result (len d)) (sym c.items-items.ensures.shown) c.row.ensures.within,
          subst (λ d. IsWithin c.row-in-loop-k.result (len d)) (sym c.items-other_items.ensures.shown) c.row-in-loop-k.ensures.within,
        ),
      ),
    )

pub each_same_row-returns-then-not-same_row-clause-same : goal.each_same_row-returns-then-not-same_row-clause-same
each_same_row-returns-then-not-same_row-clause-same t c =
    runs-differ (slot (lists_layout c.args.xs.now)) (slot (lists_layout c.args.ys.now)) c.args.o c.args.p c.args.n c.loop-k.k _
    (same-along _ _ _ _ _ (ap (λ d. row_slot d c.row.result) c.items-items.ensures.shown ∙ c.row.ensures.slot)
    (ap (λ d. row_slot d c.row-in-loop-k.result) c.items-other_items.ensures.shown ∙ c.row-in-loop-k.ensures.slot) c.same_row.ensures.same)
    c.if-not-same_row.true c.loop-k-test.true

pub each_same_row-returns-then-not-same_row-clause-comparisons : goal.each_same_row-returns-then-not-same_row-clause-comparisons
each_same_row-returns-then-not-same_row-clause-comparisons t c =
    comparisons-stops (slot (lists_layout c.args.xs.now)) c.args.o c.loop-k.k c.args.n _ _ _ _ _ c.if-not-same_row.true c.loop-k-test.true c.loop-k.invariant.comparisons c.same_row.ensures.comparisons
    (ap node_count (ap (λ d. row_slot d c.row.result) c.items-items.ensures.shown ∙ c.row.ensures.slot))

pub each_same_row-loop-k-preserved : goal.each_same_row-loop-k-preserved
each_same_row-loop-k-preserved t c =
    let x = ap (λ d. row_slot d c.row.result) c.items-items.ensures.shown ∙ c.row.ensures.slot in
    let y = ap (λ d. row_slot d c.row-in-loop-k.result) c.items-other_items.ensures.shown ∙ c.row-in-loop-k.ensures.slot in
    record {
      same = same-more (slot (lists_layout c.args.xs.now)) (slot (lists_layout c.args.ys.now)) c.args.o c.args.p c.loop-k.k c.loop-k.invariant.same (sym x ∙ c.same_row.ensures.same.0 c.if-not-same_row.false ∙ y);
      comparisons = comparisons-more (slot (lists_layout c.args.xs.now)) c.args.o c.loop-k.k _ _ _ _ _ c.if-not-same_row.false c.loop-k.invariant.comparisons c.same_row.ensures.comparisons (ap node_count x);
    }

pub records::each_same_record-returns-then-not-is_same_record-clause-same : goal.records::each_same_record-returns-then-not-is_same_record-clause-same
records::each_same_record-returns-then-not-is_same_record-clause-same t c =
    runs-differ (slot c.args.x.now) (slot c.args.y.now) c.args.o c.args.p c.args.n c.loop-k.k _ c.is_same_record.ensures.same c.if-not-is_same_record.true c.loop-k-test.true

pub records::each_same_record-returns-then-not-is_same_record-clause-comparisons : goal.records::each_same_record-returns-then-not-is_same_record-clause-comparisons
records::each_same_record-returns-then-not-is_same_record-clause-comparisons t c =
    comparisons-stops (slot c.args.x.now) c.args.o c.loop-k.k c.args.n _ _ _ _ _ c.if-not-is_same_record.true c.loop-k-test.true c.loop-k.invariant.comparisons c.is_same_record.ensures.comparisons refl

pub records::each_same_record-loop-k-preserved : goal.records::each_same_record-loop-k-preserved
records::each_same_record-loop-k-preserved t c =
    record {
      same = same-more (slot c.args.x.now) (slot c.args.y.now) c.args.o c.args.p c.loop-k.k c.loop-k.invariant.same (c.is_same_record.ensures.same.0 c.if-not-is_same_record.false);
      comparisons = comparisons-more (slot c.args.x.now) c.args.o c.loop-k.k _ _ _ _ _ c.if-not-is_same_record.false c.loop-k.invariant.comparisons c.is_same_record.ensures.comparisons refl;
    }

pub records::is_same_record-returns-then-is_null-clause-comparisons : goal.records::is_same_record-returns-then-is_null-clause-comparisons
records::is_same_record-returns-then-is_null-clause-comparisons t c = null-shown _ _ _ _ c.add.ensures c.is_null-null.ensures.slot

pub records::is_same_record-same_children-requires : goal.records::is_same_record-same_children-requires
records::is_same_record-same_children-requires t c =
    let x = struct-known c.args.x.now (layouts_of c.values.result.now) c.known.ensures.fits c.known.ensures.kind c.values.ensures in
    let y = struct-known c.args.y.now (layouts_of c.values-2.result.now) c.known-2.ensures.fits c.known-2.ensures.kind c.values-2.ensures in
    let w = ap weight c.known.ensures.kind in
    let v = ap weight_all c.values.ensures in (
      omega arith,
      (
        children-typed (layout_type c.args.x.now) (layout_type c.args.y.now) _ _ _ _ x y c.requires.alike,
        (
          children-cover c.args.x.now _ (c.args.i + 1) x c.known.ensures.kind c.values.ensures (omega arith),
          children-cover c.args.y.now _ (c.args.j + 1) y c.known-2.ensures.kind c.values-2.ensures (omega arith),
        ),
      ),
    )

pub records::is_same_record-returns-clause-same : goal.records::is_same_record-returns-clause-same
records::is_same_record-returns-clause-same t c =
    let x = struct-known c.args.x.now (layouts_of c.values.result.now) c.known.ensures.fits c.known.ensures.kind c.values.ensures in
    let y = struct-known c.args.y.now (layouts_of c.values-2.result.now) c.known-2.ensures.fits c.known-2.ensures.kind c.values-2.ensures in
    record-same _ _ _ _ c.args.i c.args.j _ (record-shown c.args.x.now _ c.args.i _ c.known.ensures.kind c.values.ensures c.is_null-null.ensures.place c.if-null.false)
    (record-shown c.args.y.now _ c.args.j _ c.known-2.ensures.kind c.values-2.ensures c.is_null.ensures.place c.if-is_null.false)
    (children-typed (layout_type c.args.x.now) (layout_type c.args.y.now) _ _ _ _ x y c.requires.alike) c.same_children.ensures.same

pub records::is_same_record-returns-clause-comparisons : goal.records::is_same_record-returns-clause-comparisons
records::is_same_record-returns-clause-comparisons t c =
    tells-after _ _ _ _ _ _ c.add.ensures c.same_children.ensures.comparisons
    (record-nodes _ _ c.args.i (record-shown c.args.x.now _ c.args.i _ c.known.ensures.kind c.values.ensures c.is_null-null.ensures.place c.if-null.false))

pub records::same_records-same_children-requires : goal.records::same_records-same_children-requires
records::same_records-same_children-requires t c =
    let x = struct-known c.args.x.now (layouts_of c.values.result.now) c.known.ensures.fits c.known.ensures.kind c.values.ensures in
    let y = struct-known c.args.y.now (layouts_of c.values-then-is_full-2.result.now) c.known-then-is_full-2.ensures.fits c.known-then-is_full-2.ensures.kind c.values-then-is_full-2.ensures in
    let w = ap weight c.known.ensures.kind in
    let v = ap weight_all c.values.ensures in (
      omega arith,
      (
        children-typed (layout_type c.args.x.now) (layout_type c.args.y.now) _ _ _ _ x y c.requires.alike,
        (
          children-cover c.args.x.now _ (c.args.o + c.args.n) x c.known.ensures.kind c.values.ensures c.requires.within,
          children-cover c.args.y.now _ (c.args.p + c.args.n) y c.known-then-is_full-2.ensures.kind c.values-then-is_full-2.ensures c.requires.other_within,
        ),
      ),
    )

pub records::same_records-returns-then-is_full-2-clause-same : goal.records::same_records-returns-then-is_full-2-clause-same
records::same_records-returns-then-is_full-2-clause-same t c =
    let x = struct-known c.args.x.now (layouts_of c.values.result.now) c.known.ensures.fits c.known.ensures.kind c.values.ensures in
    let y = struct-known c.args.y.now (layouts_of c.values-then-is_full-2.result.now) c.known-then-is_full-2.ensures.fits c.known-then-is_full-2.ensures.kind c.values-then-is_full-2.ensures in
    records-same _ _ _ _ c.args.o c.args.p c.args.n _ (λ i h. records-shown c.args.x.now _ c.args.o c.args.n i c.known.ensures.kind c.values.ensures (c.is_full.ensures.0 c.if-is_full.true) h)
    (λ i h. records-shown c.args.y.now _ c.args.p c.args.n i c.known-then-is_full-2.ensures.kind c.values-then-is_full-2.ensures (c.is_full-then-is_full.ensures.0 c.if-is_full-2.true) h)
    (children-typed (layout_type c.args.x.now) (layout_type c.args.y.now) _ _ _ _ x y c.requires.alike) c.same_children.ensures.same

pub records::same_records-returns-then-is_full-2-clause-comparisons : goal.records::same_records-returns-then-is_full-2-clause-comparisons
records::same_records-returns-then-is_full-2-clause-comparisons t c =
    tells-more _ _ _ _ c.args.n _ _ (tells-exact _ _ _ c.args.n c.add.ensures) c.same_children.ensures.comparisons
    (sym (records-nodes (slot c.args.x.now) (layouts_of c.values.result.now) c.args.o c.args.n c.args.n (λ i h. records-shown c.args.x.now _ c.args.o c.args.n i c.known.ensures.kind c.values.ensures (c.is_full.ensures.0 c.if-is_full.true) h) (omega arith)))

pub same_row-returns-then-count-other_count-clause-same : goal.same_row-returns-then-count-other_count-clause-same
same_row-returns-then-count-other_count-clause-same t c =
    rw (c.in-Some.is, c.in-Some-other_row.is) (lists-differ (slot (layout_of c.args.items.now)) (slot (layout_of c.args.other_items.now)) _ _ _ _ c.if-count-other_count.true)

pub same_row-returns-clause-same : goal.same_row-returns-clause-same
same_row-returns-clause-same t c =
    rw (c.in-Some.is, c.in-Some-other_row.is)
    (lists-same _ _ _ (same-along _ _ _ _ _ refl (ap (run (slot (layout_of c.args.other_items.now)) c.in-Some-other_row.other_start) c.if-count-other_count.false) c.same_run.ensures.same))

pub same_row-returns-clause-comparisons : goal.same_row-returns-clause-comparisons
same_row-returns-clause-comparisons t c =
    tells-after _ _ _ _ _ _ c.add.ensures c.same_run.ensures.comparisons
    (ap (λ r. node_count (row_slot (layout_of c.args.items.now) r)) c.in-Some.is ∙ row-nodes (layout_of c.args.items.now) c.in-Some.start c.in-Some.count)

pub same_rows-returns-in_default-clause-same : goal.same_rows-returns-in_default-clause-same
same_rows-returns-in_default-clause-same t c = (
  λ u. cc,
  λ e. absurd (c.in_default.ensures.same (lists-bounds (lists_layout c.args.xs.now) (lists_layout c.args.ys.now) c.args.o c.args.p c.args.n c.known_rows.ensures c.known_rows-2.ensures c.requires.within c.requires.other_within (c.are_full.ensures.0 c.if-not-are_full.false) (c.are_full-else-not-are_full.ensures.0 c.if-not-are_full-2.false) e)),
)

pub same_rows-returns-in_default-clause-comparisons : goal.same_rows-returns-in_default-clause-comparisons
same_rows-returns-in_default-clause-comparisons t c = tells-stopped _ _ c.args.n _ c.in_default.ensures.comparisons (nodes-least (slot (lists_layout c.args.xs.now)) c.args.o c.args.n)

pub same_rows-same_run-requires : goal.same_rows-same_run-requires
same_rows-same_run-requires t c =
    let a = lists_layout c.args.xs.now in
    let b = lists_layout c.args.ys.now in
    let w = ap weight c.items-items.ensures.shown in
    let x = rows-within a (c.args.o + c.args.n) c.known_rows.ensures c.requires.within in
    let y = rows-within b (c.args.p + c.args.n) c.known_rows-2.ensures c.requires.other_within in
    let u = ap len c.items-items.ensures.shown in
    let v = ap len c.items-other_items.ensures.shown in
    let s = c.in-Some.ensures.same.0 c.args.n (omega arith) in
    let m = c.in-Some.ensures.same.1 in (
      omega arith,
      (
        same-items (layout_type (lists_layout c.args.xs.now)) (layout_type (lists_layout c.args.ys.now)) (layout_type (layout_of c.items-items.result.now)) (layout_type (layout_of c.items-other_items.result.now)) c.requires.alike c.items-items.ensures.typed c.items-other_items.ensures.typed,
        (
          omega (arith, x, u, m, c.span-start.ensures.start),
          omega (arith, y, v, m, s, c.span-other_start.ensures.start),
        ),
      ),
    )

pub same_rows-returns-clause-same : goal.same_rows-returns-clause-same
same_rows-returns-clause-same t c =
    let a = lists_layout c.args.xs.now in
    let b = lists_layout c.args.ys.now in
    lists-joined a b c.args.o c.args.p c.args.n c.in-Some.total c.same_run.result c.known_rows.ensures c.known_rows-2.ensures c.requires.within c.requires.other_within (c.are_full.ensures.0 c.if-not-are_full.false) (c.are_full-else-not-are_full.ensures.0 c.if-not-are_full-2.false)
    c.in-Some.ensures.same.0 c.in-Some.ensures.same.1
    (same-along _ _ _ _ _ (items-along (layout_of c.items-items.result.now) (child_of a) c.span-start.result.0 (bound_of a c.args.o) c.in-Some.total c.items-items.ensures.shown c.span-start.ensures.start)
    (items-along (layout_of c.items-other_items.result.now) (child_of b) c.span-other_start.result.0 (bound_of b c.args.p) c.in-Some.total c.items-other_items.ensures.shown c.span-other_start.ensures.start) c.same_run.ensures.same)

pub same_rows-returns-clause-comparisons : goal.same_rows-returns-clause-comparisons
same_rows-returns-clause-comparisons t c =
    let a = lists_layout c.args.xs.now in
    tells-more _ _ _ _ c.args.n _ _ (tells-exact _ _ _ c.args.n c.in-Some.ensures.comparisons) c.same_run.ensures.comparisons
    (ap (λ ss. c.args.n + node_counts ss) (items-along (layout_of c.items-items.result.now) (child_of a) c.span-start.result.0 (bound_of a c.args.o) c.in-Some.total c.items-items.ensures.shown c.span-start.ensures.start)
    ∙ sym (lists-nodes a c.args.o c.args.n c.in-Some.total c.known_rows.ensures c.requires.within (c.are_full.ensures.0 c.if-not-are_full.false) c.in-Some.ensures.same.1))

pub keyed::same_keyed-returns-then-not-is_same_keyed-clause-same : goal.keyed::same_keyed-returns-then-not-is_same_keyed-clause-same
keyed::same_keyed-returns-then-not-is_same_keyed-clause-same t c =
    runs-differ (slot c.args.x.now) (slot c.args.y.now) c.args.o c.args.p c.args.n c.loop-k.k _ c.is_same_keyed.ensures.same c.if-not-is_same_keyed.true c.loop-k-test.true

pub keyed::same_keyed-returns-then-not-is_same_keyed-clause-comparisons : goal.keyed::same_keyed-returns-then-not-is_same_keyed-clause-comparisons
keyed::same_keyed-returns-then-not-is_same_keyed-clause-comparisons t c =
    comparisons-stops (slot c.args.x.now) c.args.o c.loop-k.k c.args.n _ _ _ _ _ c.if-not-is_same_keyed.true c.loop-k-test.true c.loop-k.invariant.comparisons c.is_same_keyed.ensures.comparisons refl

pub keyed::same_keyed-loop-k-preserved : goal.keyed::same_keyed-loop-k-preserved
keyed::same_keyed-loop-k-preserved t c =
    record {
      same = same-more (slot c.args.x.now) (slot c.args.y.now) c.args.o c.args.p c.loop-k.k c.loop-k.invariant.same (c.is_same_keyed.ensures.same.0 c.if-not-is_same_keyed.false);
      comparisons = comparisons-more (slot c.args.x.now) c.args.o c.loop-k.k _ _ _ _ _ c.if-not-is_same_keyed.false c.loop-k.invariant.comparisons c.is_same_keyed.ensures.comparisons refl;
    }

pub keyed::is_same_keyed-same_run-requires : goal.keyed::is_same_keyed-same_run-requires
keyed::is_same_keyed-same_run-requires t c =
    let a = c.args.x.now in
    let b = c.args.y.now in
    let w = ap weight c.values-values.ensures in
    let e = ap weight c.known.ensures.kind in
    let u = ap len c.values-values.ensures in
    let v = ap len c.values-other_values.ensures in
    let x = keyed-place a c.args.i c.known.ensures.fits c.known.ensures.kind c.requires.within (sym c.is_null.ensures.place ∙ c.if-is_null.false) in
    let y = keyed-place b c.args.j c.known-2.ensures.fits c.known-2.ensures.kind c.requires.other_within (sym c.is_null-else-is_null.ensures.place ∙ c.if-is_null-2.false) in
    let d : Alike (child_of a) (child_of b) = keyed-alike a b c.known.ensures.fits c.known.ensures.kind c.known-2.ensures.fits c.known-2.ensures.kind c.requires.alike in (
      omega arith,
      (
        alike-along _ _ (child_of a) (child_of b) c.values-values.ensures c.values-other_values.ensures d,
        (
          omega (arith, u, x, c.place.ensures),
          omega (arith, v, y, c.place-2.ensures),
        ),
      ),
    )

pub keyed::is_same_keyed-returns-else-is_null_value-clause-comparisons : goal.keyed::is_same_keyed-returns-else-is_null_value-clause-comparisons
keyed::is_same_keyed-returns-else-is_null_value-clause-comparisons t c =
    null-shown _ _ _ _ c.add.ensures c.is_null_value.ensures
