use Rattle.std.proofs.Common.{map, arith}
use Rattle.std.proofs.lemmas.Result.{err_from_is_err_and}
use Rattle.ipc.specs.Streams.{record_batch_of}
use Rattle.guide.proofs.Streaming.{last_turn, next_batch, next_end, next_error, no_turn}
use Rattle.guide.proofs.files.streaming.read_first_batches.Goals as goal

pub loop-init : goal.loop-init
loop-init g c = no_turn g.R.Read.remaining c.args.most c.args.input c.new-batches.result.items c.in_ok-reader.reader c.new-batches.ensures.items c.in_ok-reader.ensures

pub returns-in_err-next_batch : goal.returns-in_err-next_batch
returns-in_err-next_batch g c =
    let remaining = g.R.Read.remaining in
    let p = err_from_is_err_and c.from_residual-in_err-next_batch.result c.from_residual-in_err-next_batch.ensures.1 in
    rw (p.1, p.2) (next_error remaining c.args.most c.loop.counter (map record_batch_of c.loop.batches.items) (remaining c.args.input) c.loop.reader c.next_batch.new.self c.in_err-next_batch.field-0.0 c.loop-test.true c.in_err-next_batch.ensures.next c.loop.invariant)

pub returns-in-None : goal.returns-in-None
returns-in-None g c =
    let remaining = g.R.Read.remaining in
    let goes = rw c.in-None.is at c.in_ok-next_batch.ensures.next in
    next_end remaining c.args.most c.loop.counter c.loop.batches (remaining c.args.input) c.loop.reader c.next_batch.new.self c.loop-test.true goes c.loop.invariant

pub loop-preserved : goal.loop-preserved
loop-preserved g c =
    let remaining = g.R.Read.remaining in
    let goes = rw c.in-Some.is at c.in_ok-next_batch.ensures.next in
    next_batch remaining c.args.most c.loop.counter c.loop.batches.items c.push.new.self.items c.in-Some.batch (remaining c.args.input) c.loop.reader c.next_batch.new.self c.loop-test.true c.in_ok-push-in-Some.ensures.items goes c.loop.invariant

pub returns : goal.returns
returns g c = last_turn g.R.Read.remaining c.args.most c.loop.counter c.loop.batches (g.R.Read.remaining c.args.input) c.loop.reader (omega (arith, c.loop-test.false)) c.loop.invariant
