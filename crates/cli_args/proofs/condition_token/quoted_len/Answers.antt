use Rattle.std.proofs.Common.{arith}
use Rattle.cli_args.specs.ConditionTokens.{quoted_length}
use Rattle.cli_args.proofs.Quotes.{at-last, none-left, past-double, past-other}
use Rattle.cli_args.proofs.condition_token.quoted_len.Goals.{else-i-text-via-then-i-text+else-text-i-2, else-i-text-via-else-i-text}
use Rattle.cli_args.proofs.condition_token.quoted_len.Goals as goal

pub loop-i-preserved-then-text-i : goal.loop-i-preserved-then-text-i
loop-i-preserved-then-text-i c = (omega arith, past-other c.args.quote c.args.text.now c.loop-i.i (quoted_length c.args.quote c.args.text.now) c.loop-i-test.true c.if-text-i.true c.loop-i.invariant.1)

pub loop-i-preserved : goal.loop-i-preserved
loop-i-preserved c = (omega arith, past-double c.args.quote c.args.text.now c.loop-i.i (quoted_length c.args.quote c.args.text.now) c.if-i-text.true c.if-text-i.false c.if-text-i-2.true c.loop-i.invariant.1)

pub returns-else-i-text : goal.returns-else-i-text
returns-else-i-text c =
    let total = quoted_length c.args.quote c.args.text.now in
    elim c.else-i-text.branch [
      | else-i-text-via-then-i-text+else-text-i-2 w ↦ at-last c.args.quote c.args.text.now c.loop-i.i total c.loop-i-test.true c.if-text-i.false (λ lt. w.if-text-i-2.false) c.loop-i.invariant.1
      | else-i-text-via-else-i-text w ↦ at-last c.args.quote c.args.text.now c.loop-i.i total c.loop-i-test.true c.if-text-i.false (λ lt e. absurd (omega (arith, w.if-i-text.false))) c.loop-i.invariant.1
    ]

pub returns : goal.returns
returns c = none-left c.args.quote c.args.text.now c.loop-i.i (quoted_length c.args.quote c.args.text.now) c.loop-i-test.false c.loop-i.invariant.1
