use Rattle.std.specs.List.{All}
use Rattle.std.proofs.Common.{◌≤◌, length, sym, subst, arith}
use Rattle.nest_memory.specs.TypeOf.{type_of}
use Rattle.nest_memory.specs.TypeTree.{ids_of}
use Rattle.nest_model.specs.Fits.{EachMeansField, IdsCount, MeansField}
use Rattle.nest_model.specs.Layout.{count_layouts}
use Rattle.nest_array.specs.Positions.{SlotsMeant, meant}
use Rattle.nest_array.specs.Seen.{layouts_of}
use Rattle.nest_array.proofs.Children.{layouts-count}
use Rattle.nest_array.proofs.Tables.{types-mean, slots-meant}
use Rattle.nest_array.proofs.UnionChecks.{refute}
use Rattle.nest_array.proofs.union.checks.error_by_ids.Goals as goal

pub returns-then-not-has_each_id : goal.returns-then-not-has_each_id
returns-then-not-has_each_id c =
    λ p. refute _ _ c.if-not-has_each_id.true c.has_each_id.ensures.1 (subst (IdsCount (ids_of (type_of c.args.data_type.now))) (layouts-count c.args.fields.now) p)

pub returns-then-not-has_ids_in_range : goal.returns-then-not-has_ids_in_range
returns-then-not-has_ids_in_range c = (
  subst (IdsCount (ids_of (type_of c.args.data_type.now))) (sym (layouts-count c.args.fields.now)) (c.has_each_id.ensures.0 c.if-not-has_each_id.false),
  refute _ _ c.if-not-has_ids_in_range.true c.has_ids_in_range.ensures.1,
)

pub returns-then-not-mean_fields : goal.returns-then-not-mean_fields
returns-then-not-mean_fields c =
    let ids = ids_of (type_of c.args.data_type.now) in
    let n = layouts-count c.args.fields.now in
    let r = c.has_ids_in_range.ensures.0 c.if-not-has_ids_in_range.false in
    let s = types-mean c.positions-table.result ids (length c.args.fields.now) c.args.types.now c.positions-table.ensures r c.requires.few in (
      subst (IdsCount ids) (sym n) (c.has_each_id.ensures.0 c.if-not-has_each_id.false),
      (
        r,
        λ m. refute _ _ c.if-not-mean_fields.true c.mean_fields.ensures.1
            (subst (All (λ k. MeansField (meant c.positions-table.result k) (length c.args.fields.now))) (sym c.as_slice.ensures) (s.1 (subst (EachMeansField ids c.args.types.now) n m))),
      ),
    )

pub returns-then-not-has_slots : goal.returns-then-not-has_slots
returns-then-not-has_slots c =
    let ids = ids_of (type_of c.args.data_type.now) in
    let table = c.positions-table.result in
    let cs = layouts_of c.args.fields.now in
    let n = layouts-count c.args.fields.now in
    let r = c.has_ids_in_range.ensures.0 c.if-not-has_ids_in_range.false in
    let s = types-mean table ids (length c.args.fields.now) c.args.types.now c.positions-table.ensures r c.requires.few in
    let a = subst (All (λ k. MeansField (meant table k) (length c.args.fields.now))) c.as_slice.ensures (c.mean_fields.ensures.0 c.if-not-mean_fields.false) in
    let m = subst (EachMeansField ids c.args.types.now) (sym n) (s.0 a) in
    let few : count_layouts cs ≤ 127 = omega (arith, n, c.requires.few) in
    let w = slots-meant table ids c.args.types.now cs c.args.offsets.now c.positions-table.ensures r few m in (
      subst (IdsCount ids) (sym n) (c.has_each_id.ensures.0 c.if-not-has_each_id.false),
      (
        r,
        (
          m,
          λ p. refute _ _ c.if-not-has_slots.true c.has_slots.ensures.1 (subst (λ ks. SlotsMeant table ks cs c.args.offsets.now) (sym c.as_slice-2.ensures) (w.1 p)),
        ),
      ),
    )

pub returns : goal.returns
returns c =
    let ids = ids_of (type_of c.args.data_type.now) in
    let table = c.positions-table.result in
    let cs = layouts_of c.args.fields.now in
    let n = layouts-count c.args.fields.now in
    let r = c.has_ids_in_range.ensures.0 c.if-not-has_ids_in_range.false in
    let s = types-mean table ids (length c.args.fields.now) c.args.types.now c.positions-table.ensures r c.requires.few in
    let a = subst (All (λ k. MeansField (meant table k) (length c.args.fields.now))) c.as_slice.ensures (c.mean_fields.ensures.0 c.if-not-mean_fields.false) in
    let m = subst (EachMeansField ids c.args.types.now) (sym n) (s.0 a) in
    let few : count_layouts cs ≤ 127 = omega (arith, n, c.requires.few) in
    let w = slots-meant table ids c.args.types.now cs c.args.offsets.now c.positions-table.ensures r few m in
    let there = w.0 (subst (λ ks. SlotsMeant table ks cs c.args.offsets.now) c.as_slice-2.ensures (c.has_slots.ensures.0 c.if-not-has_slots.false)) in
    (subst (IdsCount ids) (sym n) (c.has_each_id.ensures.0 c.if-not-has_each_id.false), (r, (m, (there, tt))))
