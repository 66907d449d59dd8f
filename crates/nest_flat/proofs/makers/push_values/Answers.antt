use Rattle.std.specs.Prelude.{Some}
use Rattle.std.proofs.Common.{◌++◌, ◌∙◌, ap, rules, tests}
use Rattle.std.proofs.lemmas.Iterator.{YieldsList-from_slice, YieldsList-from_map}
use Rattle.std.proofs.lemmas.Iterator.Consumers.{YieldsList-at, YieldsList-from_copied}
use Rattle.std.proofs.lemmas.Result.{on_ok_weaker}
use Rattle.nest_model.specs.Meaning.{slots_of}
use Rattle.nest_flat.proofs.Slices.{extended-at, map-values, refused-at}
use Rattle.nest_flat.proofs.makers.push_values.Goals as goal

pub returns-clause-ok : goal.returns-clause-ok
returns-clause-ok g c =
    extended-at _ _ _ _ _ c.extend_by_push.result _ c.extend_by_push.ensures.ok
    (YieldsList-from_map _ Some
    (YieldsList-at c.map.ensures.source (YieldsList-from_copied (YieldsList-at c.copied.ensures.source (YieldsList-from_slice c.args.values.now c.iter.ensures.rest))))
    c.map.ensures.closure (λ x r q k. search (rules, tests)))

pub returns-clause-cause : goal.returns-clause-cause
returns-clause-cause g c =
    refused-at _ _ _ c.extend_by_push.result _ c.extend_by_push.ensures.cause
    (YieldsList-from_map _ Some
    (YieldsList-at c.map.ensures.source (YieldsList-from_copied (YieldsList-at c.copied.ensures.source (YieldsList-from_slice c.args.values.now c.iter.ensures.rest))))
    c.map.ensures.closure (λ x r q k. search (rules, tests)))

pub returns-clause-slots : goal.returns-clause-slots
returns-clause-slots g c =
    on_ok_weaker c.extend_by_push.result
    (λ x. x.slots ∙ ap (λ ss. slots_of (g.B.Grow.layout c.args.builder.now) ++ ss) (map-values g.B.Grow.slot_of_item c.args.values.now))
    (returns-clause-ok g c)
