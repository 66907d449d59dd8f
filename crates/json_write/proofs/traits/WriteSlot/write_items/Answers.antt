use Rattle.std.proofs.Common.{rules}
use Rattle.std.proofs.Output.{has_written_append, has_written_of_eq}
use Rattle.nest_model.specs.Layout.{layout_type}
use Rattle.nest_model.specs.Meaning.{slot}
use Rattle.json_write.proofs.Nesting.{items-next}
use Rattle.json_write.proofs.traits.WriteSlot.write_items.Goals as goal

pub loop-k-preserved : goal.loop-k-preserved
loop-k-preserved g c plain =
    let a = g.Self.ArrayParts.parts c.args.self.now in
    let done = c.loop-k.invariant plain in
    let one = c.write_comma.ensures done.plain (search rules) in
    let two = c.write_slot.ensures one.plain (search rules) in
    has_written_of_eq _ _ _ _ _ (items-next (layout_type a) (slot a) c.args.start c.loop-k.k)
    (has_written_append _ _ _ _ _ _ (has_written_append _ _ _ _ _ _ done one) two)
