use Rattle.json_read.proofs.Feeds.{no-feed, feed-line, feed-ends, last-line}
use Rattle.json_read.proofs.line_split.line_ends.Goals as goal

pub returns-in-Some-clause-line : goal.returns-in-Some-clause-line
returns-in-Some-clause-line c =
    let text = c.args.text.now in
    let at = c.in-Some.ensures in
    feed-line text c.in-Some.i at.0.high (no-feed text _ at.0.before) at.1

pub returns-in-Some-clause-ends : goal.returns-in-Some-clause-ends
returns-in-Some-clause-ends c long =
    let text = c.args.text.now in
    let at = c.in-Some.ensures in
    feed-ends text c.in-Some.i at.0.high (no-feed text _ at.0.before) at.1

pub returns-in-None-clause-line : goal.returns-in-None-clause-line
returns-in-None-clause-line c = last-line c.args.text.now c.requires (no-feed c.args.text.now _ c.in-None.ensures)
