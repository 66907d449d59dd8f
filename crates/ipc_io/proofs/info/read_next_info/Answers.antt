use Rattle.std.proofs.Common.{Ok, Option, subst}
use Rattle.ipc_flatbuf.specs.Messages.{message_at, model_of}
use Rattle.ipc_io.specs.Fetched.{Fetches, optional_fetched}
use Rattle.ipc_io.specs.declared.fetching.FetchedMessage.{FetchedMessage}
use Rattle.ipc_io.proofs.StreamInfos.{info_fails, info_is}
use Rattle.ipc_io.proofs.info.read_next_info.Goals as goal

pub returns-in-Err : goal.returns-in-Err
returns-in-Err g c =
    let remaining = g.R.Read.remaining in
    let fetched = subst (λ (next : Option FetchedMessage). Fetches message_at optional_fetched (remaining c.args.reader.now) (remaining c.fetch_message.new.reader) (Ok next)) c.in-Some.is c.in_ok-fetch_message.ensures.read in
    info_fails (remaining c.args.reader.now) (remaining c.fetch_message.new.reader) c.in-Some.next (model_of c.message.result) c.in-Err.error fetched c.message.ensures.model c.in-Err.ensures

pub returns : goal.returns
returns g c =
    let remaining = g.R.Read.remaining in
    let fetched = subst (λ (next : Option FetchedMessage). Fetches message_at optional_fetched (remaining c.args.reader.now) (remaining c.fetch_message.new.reader) (Ok next)) c.in-Some.is c.in_ok-fetch_message.ensures.read in
    info_is (remaining c.args.reader.now) (remaining c.fetch_message.new.reader) c.in-Some.next (model_of c.message.result) c.in-Ok.info fetched c.message.ensures.model c.in-Ok.ensures
