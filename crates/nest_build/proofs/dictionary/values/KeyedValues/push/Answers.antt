use Rattle.std.proofs.Common.{◌∷◌, [], ◌++◌, ◌∙◌, ap, subst, sym}
use Rattle.nest_flat.specs.Plain.{plain_value}
use Rattle.nest_build.specs.Keyed.{AreKeyed}
use Rattle.nest_build.proofs.Keyed.{keyed_push, plain_taken}
use Rattle.nest_build.proofs.dictionary.values.KeyedValues.push.Goals as goal

pub invariant_of-self-in-Ok : goal.invariant_of-self-in-Ok
invariant_of-self-in-Ok g c =
    let old = c.args.self.now in
    let before = g.M.MutableArray.model old.values in
    let after = g.M.MutableArray.model c.try_push_plain.new.self in
    let v = plain_value c.args.value in
    let hashes = c.in-Ok.ensures.ok ∙ ap (λ h. old.table ++ h ∷ []) c.requires.hash in
    record {
      keyed = subst (λ hs. AreKeyed hs after) (sym hashes) (keyed_push old.table before after v old.keyed (plain_taken v before c.in_default.ensures.unrefused) c.in_default.ensures.accepted c.requires.unknown);
    }
