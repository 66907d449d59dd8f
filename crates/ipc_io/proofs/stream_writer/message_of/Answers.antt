use Rattle.ipc_io.proofs.stream_writer.message_of.Goals as goal

pub returns-clause-again : goal.returns-clause-again
returns-clause-again c = rw c.in_ok-message.ensures.bytes at c.in_ok-message.ensures.columns
