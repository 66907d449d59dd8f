-- The batches of a stream, message by message.
use Rattle.std.proofs.Common.{◌≡◌, ◌∙◌, ℕ, zero, suc, ◌<◌, List, [], Option, Some, None, Result, Ok, Err, length, refl, sym, ap, subst, arith}
use Rattle.std.specs.Prelude.{IfOk, ⊤}
use Rattle.std.specs.Option.{option_map}
use Rattle.ipc_flatbuf.specs.ReadResults.{◌>>=◌, FailsOrRunsOut}
use Rattle.ipc_flatbuf.specs.declared.error.IpcReadError as read_errors
use Rattle.ipc_flatbuf.specs.Messages.{MessageModel, message_at}
use Rattle.ipc_schema.specs.ProjectedSchemas.{ProjectedSchemaModel, projected_schema_of, stream_projected_schema_at}
use Rattle.ipc_schema.specs.declared.projected.ProjectedSchema.{ProjectedSchema}
use Rattle.ipc.specs.StreamLaws.{Goes, message_goes}
use Rattle.ipc_io.specs.BatchInfos.{message_info}
use Rattle.ipc_io.specs.Fetched.{Fetches, fetched_message, optional_fetched}
use Rattle.ipc_io.specs.Infos.{InfoList, InfoTree, ReadsInfo, ReadsInfos, ReturnsInfo, infos_by, infos_in, infos_within, no_column, preceded, prefixed, stream_info_in}
use Rattle.ipc_io.specs.StreamReaders.{FirstIn}
use Rattle.ipc_io.specs.declared.batch_info.BatchInfo.{BatchInfo}
use Rattle.ipc_io.specs.declared.error.ReadError.{ReadError}
use Rattle.ipc_io.specs.declared.error.ReadError.TheVariants.{Ipc, Io}
use Rattle.ipc_io.specs.declared.fetching.FetchedMessage.{FetchedMessage}
use Rattle.ipc_io.specs.declared.info.InfoError.{InfoError}
use Rattle.ipc_io.specs.declared.info.IpcInfo.{IpcInfo}
use Rattle.ipc_io.proofs.InfoLists.{Returned, returned}

abbrev Bytes : Type 0
Bytes = Option (List ℕ)

abbrev Error : Type 0
Error = read_errors.IpcReadError

-- ---- as many messages as there are bytes

by-same : (f g : List ℕ → InfoList) (n : ℕ) (read : Result (Option MessageModel × List ℕ) Error) → IfOk read (Goes n) → ((behind : List ℕ) → length behind < n → f behind ≡ g behind) → infos_by f read ≡ infos_by g read
by-same f g n (Err error) h same = refl
by-same f g n (Ok (None, behind)) h same = refl
by-same f g n (Ok (Some m, behind)) h same = ap (preceded (message_info m)) (same behind h.1)

within-same : (n m : ℕ) (bytes : List ℕ) → length bytes < n → length bytes < m → infos_within n bytes ≡ infos_within m bytes
unfolding infos_within
within-same zero m bytes lt lt' = absurd (omega arith)
within-same (suc n) zero bytes lt lt' = absurd (omega arith)
within-same (suc n) (suc m) bytes lt lt' =
    by-same (infos_within n) (infos_within m) (length bytes) (message_at bytes) (message_goes bytes) (λ behind lt''. within-same n m behind (omega arith) (omega arith))

infos-by-message : (bytes : List ℕ) → infos_in bytes ≡ infos_by infos_in (message_at bytes)
unfolding infos_within
infos-by-message bytes =
    by-same (infos_within (length bytes)) infos_in (length bytes) (message_at bytes) (message_goes bytes) (λ behind lt. within-same (length bytes) (suc (length behind)) behind lt (omega arith))

-- ---- messages

as-model : (xs ys : List ℕ) (m : FetchedMessage) (model : MessageModel) → message_at xs ≡ Ok (Some (fetched_message m), ys) → model ≡ fetched_message m → message_at xs ≡ Ok (Some model, ys)
as-model xs ys m model fetched is = fetched ∙ ap (λ (x : MessageModel). Ok (Some x, ys)) (sym is)

by-info : (xs ys : List ℕ) (m : FetchedMessage) (model : MessageModel) (info : Result BatchInfo Error) → message_at xs ≡ Ok (Some (fetched_message m), ys) → model ≡ fetched_message m → message_info model ≡ info → infos_in xs ≡ preceded info (infos_in ys)
by-info xs ys m model info fetched is read =
    infos-by-message xs ∙ ap (infos_by infos_in) (as-model xs ys m model fetched is) ∙ ap (λ (r : Result BatchInfo Error). preceded r (infos_in ys)) read

pub unfetched_info : (old new : Bytes) (e : ReadError) → Fetches message_at optional_fetched old new (Err e) → ReadsInfo (option_map infos_in old) (option_map infos_in new) (Err e)
unfetched_info None new e fetched = tt
unfetched_info (Some xs) new (Ipc error) fetched = λ known. infos-by-message xs ∙ ap (infos_by infos_in) (fetched known)
unfetched_info (Some xs) new (Io e) fetched = tt

pub info_is_missing : (old new : Bytes) → Fetches message_at optional_fetched old new (Ok None) → ReadsInfo (option_map infos_in old) (option_map infos_in new) (Ok None)
info_is_missing None new fetched = tt
info_is_missing (Some xs) None fetched = absurd fetched
info_is_missing (Some xs) (Some ys) fetched = infos-by-message xs ∙ ap (infos_by infos_in) fetched

pub info_is : (old new : Bytes) (m : FetchedMessage) (model : MessageModel) (info : BatchInfo) → Fetches message_at optional_fetched old new (Ok (Some m)) → model ≡ fetched_message m → message_info model ≡ Ok info
    → ReadsInfo (option_map infos_in old) (option_map infos_in new) (Ok (Some info))
info_is None new m model info fetched is read = tt
info_is (Some xs) None m model info fetched is read = absurd fetched
info_is (Some xs) (Some ys) m model info fetched is read = by-info xs ys m model (Ok info) fetched is read

pub info_fails : (old new : Bytes) (m : FetchedMessage) (model : MessageModel) (error : Error) → Fetches message_at optional_fetched old new (Ok (Some m)) → model ≡ fetched_message m → FailsOrRunsOut error (message_info model)
    → ReadsInfo (option_map infos_in old) (option_map infos_in new) (Err (Ipc error))
info_fails None new m model error fetched is read = tt
info_fails (Some xs) None m model error fetched is read = absurd fetched
info_fails (Some xs) (Some ys) m model error fetched is read = λ known. by-info xs ys m model (Err error) fetched is (read known)

-- ---- the schema

abbrev with_batches : Result (ProjectedSchemaModel × List ℕ) Error → Result InfoTree Error
with_batches first = first >>= λ x. Ok (record { columns = length x.0.steps; batches = infos_in x.1 })

pub schema_fails : (old new : Bytes) (e : ReadError) → FirstIn no_column old new (Err e) → ReturnsInfo stream_info_in old (Err (record { batch = None; error = e }))
schema_fails None new e first = tt
schema_fails (Some xs) new (Ipc error) first = λ known. ap with_batches (first known)
schema_fails (Some xs) new (Io e) first = tt

pub stream_returned : (old new : Bytes) (picked : ProjectedSchema) (columns : ℕ) (start infos : List BatchInfo) (read : Result ⊤ ReadError) (result : Result IpcInfo InfoError) → FirstIn no_column old new (Ok picked) → columns ≡ length picked.steps.items → start ≡ []
    → ReadsInfos (option_map (λ xs. prefixed start (infos_in xs)) new) infos read → Returned columns infos read result → ReturnsInfo stream_info_in old result
stream_returned None new picked columns start infos read result first count none reads r = tt
stream_returned (Some xs) None picked columns start infos read result first count none reads r = absurd first
stream_returned (Some xs) (Some ys) picked columns start infos read result first count none reads r =
    let is : stream_info_in xs ≡ Ok (record { columns = columns; batches = infos_in ys }) = ap with_batches first ∙ ap (λ (n : ℕ). Ok (record { columns = n; batches = infos_in ys })) (sym count) in
    let all : ReadsInfos (Some (infos_in ys)) infos read = subst (λ (before : List BatchInfo). ReadsInfos (Some (prefixed before (infos_in ys))) infos read) none reads in
    returned (stream_info_in xs) columns (infos_in ys) infos is read result all r
