use Rattle.std.proofs.Common.{◌≡◌, sym, ◌∙◌, subst, arith}
use Rattle.nest_model.specs.Selected.{mask_indices}
use Rattle.nest_model.specs.SelectedLaws.{mask_indices-true}
use Rattle.nest_model.specs.Meaning.{len, slots_of}
use Rattle.nest_model.specs.Reads.{slots-length}
use Rattle.nest_array.specs.Seen.{layout_of}
use Rattle.nest_take.specs.Indices.{AreBelow}
use Rattle.nest_take.proofs.mask.filter.Goals as goal

pub take-requires : goal.take-requires
take-requires c =
    let ss = slots_of c.args.mask.now in
    let n = len (layout_of c.args.array.now) in
    let l = slots-length c.args.mask.now in
    let e : mask_indices ss ≡ c.deref.result.now = sym (c.deref.ensures.value ∙ c.in_ok-indices.ensures.ok) in
    let b : AreBelow (mask_indices ss) n = λ j d h. let t = mask_indices-true ss j d h in omega (arith, t.0, l, c.requires) in
    subst (λ z. AreBelow z n) e b
