use Rattle.std.proofs.Common.{false}
use Rattle.std.specs.Fmt.{HasWritten, IsPlainFormatter}
use Rattle.nest_model.specs.Layout.{layout_type}
use Rattle.nest_model.specs.Meaning.{run, slot}
use Rattle.nest_model.specs.Slot.{seal}
use Rattle.json_write.specs.JsonText.{json_items}
use Rattle.json_write.proofs.traits.WriteSlot.write_items.Given as goal

abbrev pub invariant-loop-k : goal.invariant-loop-k
invariant-loop-k g l =
    let a = g.Self.ArrayParts.parts l.self in
    IsPlainFormatter l.initial.f → HasWritten g.W.Write.write_str_gives l.initial.f (json_items (layout_type a) false (seal (run (slot a) l.start l.k))) l.f
