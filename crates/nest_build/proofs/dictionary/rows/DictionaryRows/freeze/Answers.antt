use Rattle.nest_array.specs.SeenKeys.{keys_layout}
use Rattle.nest_build.proofs.Keys.{frozen_keys, frozen_range, if_ok_so}
use Rattle.nest_build.proofs.dictionary.rows.DictionaryRows.freeze.Goals as goal

pub returns-clause-ok : goal.returns-clause-ok
returns-clause-ok g c =
    if_ok_so c.wrapped.result (λ b h. frozen_keys c.self.inside.keys c.in_ok-keys.keys (keys_layout b) c.args.self.now _ _ c.known.ensures.kind c.in_ok-keys.ensures.ok h c.self.view_is) c.wrapped.ensures.ok

pub returns-clause-in_range : goal.returns-clause-in_range
returns-clause-in_range g c =
    if_ok_so c.wrapped.result (λ b h. frozen_range c.self.inside.keys c.in_ok-keys.keys (keys_layout b) c.args.self.now _ _ c.known.ensures.kind c.in_ok-keys.ensures.ok h c.self.view_is c.self.invariant.raw) c.wrapped.ensures.ok
