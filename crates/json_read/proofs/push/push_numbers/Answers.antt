use Rattle.std.specs.Prelude.{OnOk, IfErr, None}
use Rattle.std.proofs.Common.{◌≡◌, ◌∙◌, ap, subst}
use Rattle.json.specs.Value.{value_view}
use Rattle.nest_any.specs.Trees.{tree_of}
use Rattle.nest_any.specs.Words.{builder_type}
use Rattle.json_read.specs.JsonSlots.{values_physical_type}
use Rattle.json_read.specs.SlotAdded.{IsPushError}
use Rattle.json_read.proofs.Pushed.{numbers-error}
use Rattle.json_read.proofs.push.push_numbers.Goals as goal

pub returns-in_default : goal.returns-in_default
returns-in_default c =
    let t = builder_type (tree_of c.args.builder.now) in
    let j = value_view c.args.value.now in
    let e = c.physical_type_of_values.ensures ∙ ap values_physical_type c.data_type.ensures in
    let same = numbers-error t j c.requires.list (λ h. c.in_default.not-List (e ∙ h)) (λ h. c.in_default.not-LargeList (e ∙ h)) (λ h. c.in_default.not-FixedSizeList (e ∙ h)) in
    record {
      added = c.push_leaf.ensures.added;
      valid = subst (λ x. OnOk c.push_leaf.result (x ≡ None)) same c.push_leaf.ensures.valid;
      error = subst (λ x. IfErr c.push_leaf.result (λ e. IsPushError e x)) same c.push_leaf.ensures.error;
    }
