use Rattle.std.proofs.Common.{refl}
use Rattle.nest_model.specs.Accessors.{child_of}
use Rattle.nest_model.specs.Layout.{layout_type}
use Rattle.nest_array.specs.Seen.{layout_of}
use Rattle.nest_array.specs.SeenLists.{lists_layout}
use Rattle.nest_array.proofs.Scalars.{items-spell, items-typed}
use Rattle.nest_array.proofs.scalar.new.list_at.Goals as goal

pub returns-clause-ok : goal.returns-clause-ok
returns-clause-ok c =
    record {
      spells = items-spell (child_of (lists_layout c.args.lists.now)) (layout_of c.items.result.now) (layout_of c.in_ok-items.items) c.in-Some.row.0 c.in-Some.row.1 _ c.items.ensures.shown c.in_ok-items.ensures.ok.slots c.in-Some.ensures.within c.in-Some.ensures.slot;
      fits = items-typed (layout_type (lists_layout c.args.lists.now)) (layout_of c.items.result.now) (layout_of c.items.result.now) (layout_of c.in_ok-items.items) c.items.ensures.typed refl c.in_ok-items.ensures.ok.same_type;
    }
