use Rattle.std.proofs.Common.{sym, ◌∙◌}
use Rattle.std.proofs.lemmas.Result.{err_from_is_err_and}
use Rattle.ipc_flatbuf.specs.Messages.{model_of}
use Rattle.ipc.specs.Streams.{record_batch_of, state_of}
use Rattle.ipc.proofs.Loops.{messages_go_on, messages_found, messages_end, messages_fail, message_fails, messages_shrink}
use Rattle.ipc.proofs.reading.next_batch.Goals as goal

pub returns-in_err-next-clause-read : goal.returns-in_err-next-clause-read
returns-in_err-next-clause-read c =
    let p = err_from_is_err_and c.from_residual.result c.from_residual.ensures.1 in
    let s = state_of c.messages.state in
    rw (p.1, p.2) (λ known. sym c.messages.invariant.left ∙ messages_fail s c.messages.rest.now c.in_err-next.field-0.0 c.in_err-next.ensures.parts)

pub returns-in-None-clause-read : goal.returns-in-None-clause-read
returns-in-None-clause-read c =
    let s = state_of c.messages.state in
    let h = rw c.in-None.is at c.in_ok-next.ensures.parts in
    sym c.messages.invariant.left ∙ messages_end s c.messages.rest.now c.in_ok-next.behind.now h

pub returns-in_err-found-in-Some-clause-read : goal.returns-in_err-found-in-Some-clause-read
returns-in_err-found-in-Some-clause-read c =
    let p = err_from_is_err_and c.from_residual-in_err-found-in-Some.result c.from_residual-in_err-found-in-Some.ensures.1 in
    let s = state_of c.messages.state in
    let h = rw c.in-Some.is at c.in_ok-next.ensures.parts in
    rw (p.1, p.2) (λ known. sym c.messages.invariant.left ∙ message_fails s (model_of c.in-Some.message) c.messages.rest.now c.in_ok-next.behind.now c.in_err-found-in-Some.field-0.0 h c.in_err-found-in-Some.ensures.read known)

pub returns-in-Some-found-clause-read : goal.returns-in-Some-found-clause-read
returns-in-Some-found-clause-read c =
    let s = state_of c.messages.state in
    let h = rw c.in-Some.is at c.in_ok-next.ensures.parts in
    let e = rw c.in-Some-found.is at c.in_ok-found-in-Some.ensures.read in
    sym c.messages.invariant.left ∙ messages_found s (state_of c.read_message.new.state) (model_of c.in-Some.message) (record_batch_of c.in-Some-found.batch) c.messages.rest.now c.in_ok-next.behind.now h e

pub messages-preserved : goal.messages-preserved
messages-preserved c =
    let s = state_of c.messages.state in
    let h = rw c.in-Some.is at c.in_ok-next.ensures.parts in
    let e = rw c.in-None-found.is at c.in_ok-found-in-Some.ensures.read in
    record {
      picked = c.read_message.ensures.picked ∙ c.messages.invariant.picked;
      left = sym (messages_go_on s (state_of c.read_message.new.state) (model_of c.in-Some.message) c.messages.rest.now c.in_ok-next.behind.now h e) ∙ c.messages.invariant.left;
    }

pub messages-smaller : goal.messages-smaller
messages-smaller c =
    let h = rw c.in-Some.is at c.in_ok-next.ensures.parts in
    messages_shrink (model_of c.in-Some.message) c.messages.rest.now c.in_ok-next.behind.now h
