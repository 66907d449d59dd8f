use Rattle.std.proofs.lemmas.Result.{err_from_is_err_and}
use Rattle.ipc_flatbuf.specs.Messages.{model_of}
use Rattle.ipc.proofs.MessageLoops.{next_says, rest_shrinks, message_fails, message_done, all_appended, all_accepted, never_fails}
use Rattle.ipc.proofs.compressed.messages.compress_messages.Goals as goal

pub unreachable-requires : goal.unreachable-requires
unreachable-requires c = never_fails c.requires.0 c.args.out.now.items c.messages.out.items c.messages.rest.now c.in-Err.field-0 c.in-Err.ensures.parts (c.messages.invariant c.requires.0 c.requires.1)

pub returns-in-Ok-None-default-clause-ok : goal.returns-in-Ok-None-default-clause-ok
returns-in-Ok-None-default-clause-ok c = λ ms are.
    let found = rw c.in-Ok-None-default.field-0-0-is at c.in-Ok-None-default.ensures.parts in
    all_appended ms c.args.out.now.items c.messages.out.items c.messages.rest.now c.in-Ok-None-default.field-0-1.now found (c.messages.invariant ms are)

pub returns-in-Ok-None-default-clause-form : goal.returns-in-Ok-None-default-clause-form
returns-in-Ok-None-default-clause-form c = λ ms are.
    let found = rw c.in-Ok-None-default.field-0-0-is at c.in-Ok-None-default.ensures.parts in
    all_accepted ms c.args.out.now.items c.messages.out.items c.messages.rest.now c.in-Ok-None-default.field-0-1.now found (c.messages.invariant ms are)

pub compress_message-requires-clause-says : goal.compress_message-requires-clause-says
compress_message-requires-clause-says c =
    let found = rw c.in-Ok-Some-default.field-0-0-is at c.in-Ok-Some-default.ensures.parts in
    next_says c.requires.0 c.args.out.now.items c.messages.out.items c.messages.rest.now c.in-Ok-Some-default.behind.now (model_of c.in-Ok-Some-default.message) found (c.messages.invariant c.requires.0 c.requires.1)

pub returns-in_err-compress_message-in-Ok-Some-default-clause-err : goal.returns-in_err-compress_message-in-Ok-Some-default-clause-err
returns-in_err-compress_message-in-Ok-Some-default-clause-err c = λ ms are.
    let found = rw c.in-Ok-Some-default.field-0-0-is at c.in-Ok-Some-default.ensures.parts in
    let p = err_from_is_err_and c.from_residual.result c.from_residual.ensures.1 in
    rw (p.1, p.2) (message_fails ms c.args.out.now.items c.messages.out.items c.messages.rest.now c.in-Ok-Some-default.behind.now (model_of c.in-Ok-Some-default.message) _ found (c.messages.invariant ms are) (λ m says. c.in_err-compress_message-in-Ok-Some-default.ensures.err m says))

pub messages-smaller : goal.messages-smaller
messages-smaller c =
    let found = rw c.in-Ok-Some-default.field-0-0-is at c.in-Ok-Some-default.ensures.parts in
    rest_shrinks c.requires.0 c.args.out.now.items c.messages.out.items c.messages.rest.now c.in-Ok-Some-default.behind.now (model_of c.in-Ok-Some-default.message) found (c.messages.invariant c.requires.0 c.requires.1)

pub messages-preserved : goal.messages-preserved
messages-preserved c = λ ms are.
    let found = rw c.in-Ok-Some-default.field-0-0-is at c.in-Ok-Some-default.ensures.parts in
    message_done ms c.args.out.now.items c.messages.out.items c.messages.rest.now c.in-Ok-Some-default.behind.now c.compress_message.new.out.items (model_of c.in-Ok-Some-default.message) found (c.messages.invariant ms are)
    (λ m says. c.in_ok-compress_message-in-Ok-Some-default.ensures.ok m says) (λ m says. c.in_ok-compress_message-in-Ok-Some-default.ensures.form m says)
