use Rattle.std.proofs.Common.{sym, ap, ◌∙◌, subst}
use Rattle.nest_array.specs.WindowParts.{window_slots}
use Rattle.nest_model.specs.Layout.{layout_type}
use Rattle.nest_model.specs.Slot.{seal}
use Rattle.json_write.specs.JsonText.{json_list}
use Rattle.json_write.specs.TypedSlots.{AreItems, LackNan}
use Rattle.json_write.proofs.Injective.{one-text-one-list}
use Rattle.json_write.proofs.Typed.{window-typed}
use Rattle.json_write.proofs.laws.equal_texts_have_equal_windows.Goals as goal

pub returns : goal.returns
returns c i j typed named h l m n e =
    let v = c.args.window.now in
    let w = c.args.other.now in
    one-text-one-list (layout_type v.array) (window_slots v) (window_slots w) named (window-typed v i) (subst (λ t. AreItems t (seal (window_slots w))) (sym typed) (window-typed w j)) h l m (subst (λ t. LackNan t (seal (window_slots w))) (sym typed) n)
    (e ∙ ap (λ t. json_list t (window_slots w)) (sym typed))
