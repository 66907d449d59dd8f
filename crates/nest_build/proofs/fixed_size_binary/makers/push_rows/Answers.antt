use Rattle.std.specs.Prelude.{is_some, not, ◌||◌}
use Rattle.std.proofs.Common.{[], ◌∷◌, ◌++◌, map, take, ap, sym, ◌∙◌}
use Rattle.nest_flat.specs.FlatParts.{optional}
use Rattle.nest_model.specs.Slot as slots
use Rattle.nest_flat.specs.Slices.{has_null}
use Rattle.nest_array.specs.MadeBytes.{taken-more, map-push, has_null-push}
use Rattle.nest_build.proofs.fixed_size_binary.makers.push_rows.Goals as goal

pub loop-item-preserved : goal.loop-item-preserved
loop-item-preserved g c =
    let xs = c.args.items.now in
    let i = c.loop-item.item-index in
    let x = c.item-item.result in
    let t = taken-more xs i x c.loop-item-test.true c.item-item.is in
    record {
      slots = c.in_ok-push_row.ensures.slots ∙ ap (λ ss. ss ++ optional slots.bytes x ∷ []) c.loop-item.invariant.slots ∙ sym (ap (map (optional slots.bytes)) t ∙ map-push (optional slots.bytes) (take i xs) x);
      masked = c.in_ok-push_row.ensures.masked ∙ ap (λ b. b || not (is_some x)) c.loop-item.invariant.masked ∙ sym (ap has_null t ∙ has_null-push (take i xs) x);
      same_type = c.in_ok-push_row.ensures.same_type ∙ c.loop-item.invariant.same_type;
    }
