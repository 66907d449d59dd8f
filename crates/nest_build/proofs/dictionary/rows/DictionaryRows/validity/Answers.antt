use Rattle.std.specs.Prelude.{map, is_some}
use Rattle.std.proofs.Common.{sym, subst}
use Rattle.nest_model.specs.Accessors.{validity_of}
use Rattle.nest_model.specs.BuilderFreeze.{EncodesBits}
use Rattle.nest_build.proofs.Keys.{bare_none, bits_kept}
use Rattle.nest_build.proofs.Rows.{none_shown}
use Rattle.nest_build.proofs.dictionary.rows.DictionaryRows.validity.Goals as goal

pub returns-clause-bits : goal.returns-clause-bits
returns-clause-bits g c =
    let a = c.self.inside.keys in
    subst (λ v. EncodesBits v (map is_some c.args.self.now)) (sym c.validity.ensures)
    (subst (λ keys. EncodesBits (validity_of a) (map is_some keys)) c.self.view_is (bits_kept a _ _ _ _ c.known.ensures.kind c.known.ensures.fits))

pub returns-clause-none : goal.returns-clause-none
returns-clause-none g c = λ z. none_shown (λ b. b.now) c.validity.result _ c.validity.ensures (bare_none c.self.inside.keys _ c.self.view_is c.self.invariant.bare z)
