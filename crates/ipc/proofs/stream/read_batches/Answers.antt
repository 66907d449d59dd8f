use Rattle.std.proofs.Common.{map, ◌∙◌}
use Rattle.std.proofs.lemmas.Result.{err_from_is_err_and}
use Rattle.ipc.specs.Streams.{record_batch_of, batches_in, state_of}
use Rattle.ipc.proofs.Loops.{batches_go_on, batches_fail, batches_end, batches_shrink}
use Rattle.ipc.proofs.stream.read_batches.Goals as goal

pub returns-in_err-next-clause-read : goal.returns-in_err-next-clause-read
returns-in_err-next-clause-read c =
    let p = err_from_is_err_and c.from_residual.result c.from_residual.ensures.1 in
    rw (p.1, p.2) (batches_fail c.in_err-next.field-0.0 (map record_batch_of c.batches.batches.items) (state_of c.batches.state) c.batches.rest.now (batches_in (state_of c.args.state.now) c.args.bytes.now) c.in_err-next.ensures.read c.batches.invariant.left)

pub returns-in-None-clause-read : goal.returns-in-None-clause-read
returns-in-None-clause-read c =
    let h = rw c.in-None.is at c.in_ok-next.ensures.read in
    batches_end (map record_batch_of c.batches.batches.items) (state_of c.batches.state) (state_of c.next_batch.new.state) c.batches.rest.now c.in_ok-next.behind.now (batches_in (state_of c.args.state.now) c.args.bytes.now) h c.batches.invariant.left

pub batches-smaller : goal.batches-smaller
batches-smaller c =
    let h = rw c.in-Some.is at c.in_ok-next.ensures.read in
    batches_shrink (state_of c.batches.state) (state_of c.next_batch.new.state) c.batches.rest.now c.in_ok-next.behind.now (record_batch_of c.in-Some.batch) h

pub batches-preserved : goal.batches-preserved
batches-preserved c =
    let h = rw c.in-Some.is at c.in_ok-next.ensures.read in
    record {
      picked = c.next_batch.ensures.picked ∙ c.batches.invariant.picked;
      left = batches_go_on record_batch_of c.batches.batches.items c.push.new.self.items c.in-Some.batch (state_of c.batches.state) (state_of c.next_batch.new.state) c.batches.rest.now c.in_ok-next.behind.now (batches_in (state_of c.args.state.now) c.args.bytes.now) c.in_ok-push-in-Some.ensures.items h c.batches.invariant.left;
    }
