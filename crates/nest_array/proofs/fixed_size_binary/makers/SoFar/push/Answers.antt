use Rattle.std.specs.Option.{option_copied}
use Rattle.std.specs.Prelude.{is_some}
use Rattle.std.proofs.Common.{◌≡◌, rules, refl, ap, sym, subst, ◌∙◌}
use Rattle.nest_memory.specs.TypeTree as types
use Rattle.nest_flat.specs.Growth.{pushed_validity}
use Rattle.nest_model.specs.Array.{TopFits}
use Rattle.nest_model.specs.Meaning.{slots_of}
use Rattle.nest_array.specs.FixedBytesLaws.{added-parts, added-fits, added-slots, copied-some}
use Rattle.nest_array.proofs.fixed_size_binary.makers.SoFar.push.Goals as goal

pub invariant_of-self-in_default : goal.invariant_of-self-in_default
invariant_of-self-in_default c =
    let t = types.fixed_size_binary c.self.inside.size in
    let some : c.is_some.result ≡ is_some c.args.item = search rules in
    let bit = ap (pushed_validity c.self.inside.validity c.len-count.result) (some ∙ sym (copied-some c.args.item)) in
    let parts = added-parts t c.self.inside.values.items _ c.self.inside.validity _ _ _ _ (option_copied c.args.item) c.self.view_is refl c.in_ok-push_bytes.ensures.ok (c.in_default.ensures.ok ∙ bit) c.len-count.ensures in
    subst TopFits (sym parts) (added-fits t _ _ _ (option_copied c.args.item) c.self.view_is c.self.invariant c.requires)

pub returns-clause-slots : goal.returns-clause-slots
returns-clause-slots c =
    let t = types.fixed_size_binary c.self.inside.size in
    let some : c.is_some.result ≡ is_some c.args.item = search rules in
    let bit = ap (pushed_validity c.self.inside.validity c.len-count.result) (some ∙ sym (copied-some c.args.item)) in
    let parts = added-parts t c.self.inside.values.items _ c.self.inside.validity _ _ _ _ (option_copied c.args.item) c.self.view_is refl c.in_ok-push_bytes.ensures.ok (c.in_default.ensures.ok ∙ bit) c.len-count.ensures in
    ap slots_of parts ∙ added-slots t _ _ _ (option_copied c.args.item) c.self.view_is c.self.invariant c.requires
