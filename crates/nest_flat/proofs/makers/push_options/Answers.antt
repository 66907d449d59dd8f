use Rattle.std.proofs.lemmas.Iterator.{YieldsList-from_slice}
use Rattle.std.proofs.lemmas.Iterator.Consumers.{YieldsList-at, YieldsList-from_copied}
use Rattle.nest_flat.proofs.Slices.{extended-all, refused-all}
use Rattle.nest_flat.proofs.makers.push_options.Goals as goal

pub returns-clause-ok : goal.returns-clause-ok
returns-clause-ok g c =
    extended-all _ _ _ _ _ c.extend_by_push.result c.args.items.now c.extend_by_push.ensures.ok
    (λ it e. YieldsList-at e (YieldsList-from_copied (YieldsList-at c.copied.ensures.source (YieldsList-from_slice c.args.items.now c.iter.ensures.rest))))

pub returns-clause-cause : goal.returns-clause-cause
returns-clause-cause g c =
    refused-all _ _ _ c.extend_by_push.result c.args.items.now c.extend_by_push.ensures.cause
    (λ it e. YieldsList-at e (YieldsList-from_copied (YieldsList-at c.copied.ensures.source (YieldsList-from_slice c.args.items.now c.iter.ensures.rest))))
