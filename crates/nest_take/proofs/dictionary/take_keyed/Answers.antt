use Rattle.std.proofs.Common.{◌∙◌, subst}
use Rattle.nest_array.specs.SeenKeys.{keys_layout}
use Rattle.nest_take.specs.TakenKeys.{AreKeysAt}
use Rattle.nest_take.proofs.Looked.{keyed-taken}
use Rattle.nest_take.proofs.Made.{ok-taken}
use Rattle.nest_take.proofs.dictionary.take_keyed.Goals as goal

pub array_of-requires : goal.array_of-requires
array_of-requires c =
    let a = c.args.array.now in
    let is = c.args.indices.now in
    let g = subst (λ z. AreKeysAt z is (keys_layout c.in_ok-keys.keys)) c.keys.ensures c.in_ok-keys.ensures.ok in
    (keyed-taken a _ _ _ _ _ is c.known.ensures.fits c.known.ensures.kind c.requires c.data_type.ensures (c.in-Ok.ensures.ok ∙ c.values.ensures) g).0

pub returns-in-Ok-clause-ok : goal.returns-in-Ok-clause-ok
returns-in-Ok-clause-ok c =
    let a = c.args.array.now in
    let is = c.args.indices.now in
    let g = subst (λ z. AreKeysAt z is (keys_layout c.in_ok-keys.keys)) c.keys.ensures c.in_ok-keys.ensures.ok in
    ok-taken c.array_of.result _ a is c.array_of.ensures.ok
    (keyed-taken a _ _ _ _ _ is c.known.ensures.fits c.known.ensures.kind c.requires c.data_type.ensures (c.in-Ok.ensures.ok ∙ c.values.ensures) g).1
