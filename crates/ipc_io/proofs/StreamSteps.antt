-- The message that was read is that of all bytes of the reader.
use Rattle.std.proofs.Common.{◌≡◌, ℕ, List, [], ◌++◌, Option, Some, None, Result, Ok, Err, refl, sym, ap, ◌∙◌, subst, append-nil}
use Rattle.ipc_flatbuf.specs.declared.error.IpcReadError as read_errors
use Rattle.ipc_flatbuf.specs.declared.error.IpcReadError.TheVariants.{MissingSchema}
use Rattle.ipc_flatbuf.specs.ReadResults.{◌>>=◌, FailsOrRunsOut}
use Rattle.ipc_flatbuf.specs.Messages.{MessageModel, message_at}
use Rattle.ipc_schema.specs.declared.projected.ProjectedSchema.{ProjectedSchema}
use Rattle.ipc_schema.specs.SchemaBytes.{schema_message}
use Rattle.ipc_schema.specs.ProjectionLaws.{all_written}
use Rattle.ipc_schema.specs.ProjectedSchemas.{ProjectedSchemaModel, projected_schema_of, spec_projected_schema_in_message, stream_projected_schema_at}
use Rattle.ipc_schema.specs.Projections.{ProjectionModel, all}
use Rattle.ipc_schema.specs.Schemas.{SchemaModel}
use Rattle.ipc.specs.SliceStreamReaders.{state_in}
use Rattle.ipc.specs.declared.batch.Batch.{Batch}
use Rattle.ipc.specs.Streams.{StateTree, start, record_batch_of, message_in, next_in}
use Rattle.ipc.specs.StreamLaws.{by_message}
use Rattle.ipc_io.specs.declared.fetching.FetchedMessage.{FetchedMessage}
use Rattle.ipc_io.specs.declared.error.ReadError.{ReadError}
use Rattle.ipc_io.specs.declared.error.ReadError.TheVariants.{Ipc, Io}
use Rattle.ipc_io.specs.Fetched.{Fetches, fetched_message, optional_fetched}
use Rattle.ipc_io.specs.StreamReaders.{FirstIn, GoesOn, NextIn}
use Rattle.ipc_io.specs.Writers.{SchemaRoundTrips}

-- ---- messages

as_model : (xs ys : List ℕ) (m : FetchedMessage) (model : MessageModel) → message_at xs ≡ Ok (Some (fetched_message m), ys) → model ≡ fetched_message m → message_at xs ≡ Ok (Some model, ys)
as_model xs ys m model fetched is = fetched ∙ ap (λ (x : MessageModel). Ok (Some x, ys)) (sym is)

-- the next record batch of a reader is that of its first message, or the next one after it
pub found_end : (s : StateTree) (old new : Option (List ℕ)) → Fetches message_at optional_fetched old new (Ok None) → NextIn s old s new (Ok None)
found_end s None new fetched = tt
found_end s (Some xs) None fetched = absurd fetched
found_end s (Some xs) (Some ys) fetched = by_message s xs ∙ rw fetched refl

pub found_dictionary : (s t : StateTree) (old new : Option (List ℕ)) (m : FetchedMessage) (model : MessageModel) → Fetches message_at optional_fetched old new (Ok (Some m)) → model ≡ fetched_message m → message_in s model ≡ Ok (None, t) → GoesOn s old t new
found_dictionary s t None new m model fetched is read = tt
found_dictionary s t (Some xs) None m model fetched is read = absurd fetched
found_dictionary s t (Some xs) (Some ys) m model fetched is read = by_message s xs ∙ rw (as_model xs ys m model fetched is, read) refl

pub found_batch : (s t : StateTree) (old new : Option (List ℕ)) (m : FetchedMessage) (model : MessageModel) (batch : Batch) → Fetches message_at optional_fetched old new (Ok (Some m)) → model ≡ fetched_message m → message_in s model ≡ Ok (Some (record_batch_of batch), t) → NextIn s old t new (Ok (Some batch))
found_batch s t None new m model batch fetched is read = tt
found_batch s t (Some xs) None m model batch fetched is read = absurd fetched
found_batch s t (Some xs) (Some ys) m model batch fetched is read = by_message s xs ∙ rw (as_model xs ys m model fetched is, read) refl

pub found_fails : (s t : StateTree) (old new : Option (List ℕ)) (m : FetchedMessage) (model : MessageModel) (error : read_errors.IpcReadError) → Fetches message_at optional_fetched old new (Ok (Some m)) → model ≡ fetched_message m → FailsOrRunsOut error (message_in s model) → NextIn s old t new (Err (Ipc error))
found_fails s t None new m model error fetched is read = tt
found_fails s t (Some xs) None m model error fetched is read = absurd fetched
found_fails s t (Some xs) (Some ys) m model error fetched is read = λ known. by_message s xs ∙ rw (as_model xs ys m model fetched is, read known) refl

pub unfetched_next : (s t : StateTree) (old new : Option (List ℕ)) (e : ReadError) → Fetches message_at optional_fetched old new (Err e) → NextIn s old t new (Err e)
unfetched_next s t None new e fetched = tt
unfetched_next s t (Some xs) new (Ipc error) fetched = λ known. by_message s xs ∙ rw (fetched known) refl
unfetched_next s t (Some xs) new (Io e) fetched = tt

-- ---- schemas

first_by : (picks : ProjectionModel) (xs : List ℕ) → stream_projected_schema_at picks xs ≡ (message_at xs >>= λ first. spec_projected_schema_in_message picks first.0 >>= λ picked. Ok (picked, first.1))
unfolding stream_projected_schema_at
first_by picks xs = refl

no_schema : (picks : ProjectionModel) (ys : List ℕ) → ◌>>=◌ {B = ProjectedSchemaModel × List ℕ} (spec_projected_schema_in_message picks None) (λ picked. Ok (picked, ys)) ≡ Err MissingSchema
unfolding spec_projected_schema_in_message
no_schema picks ys = refl

pub first_is : (picks : ProjectionModel) (old new : Option (List ℕ)) (m : FetchedMessage) (model : MessageModel) (picked : ProjectedSchema) → Fetches message_at optional_fetched old new (Ok (Some m)) → model ≡ fetched_message m → spec_projected_schema_in_message picks (Some model) ≡ Ok (projected_schema_of picked) → FirstIn picks old new (Ok picked)
first_is picks None new m model picked fetched is read = tt
first_is picks (Some xs) None m model picked fetched is read = absurd fetched
first_is picks (Some xs) (Some ys) m model picked fetched is read = first_by picks xs ∙ rw (as_model xs ys m model fetched is, read) refl

pub first_fails : (picks : ProjectionModel) (old new : Option (List ℕ)) (m : FetchedMessage) (model : MessageModel) (error : read_errors.IpcReadError) → Fetches message_at optional_fetched old new (Ok (Some m)) → model ≡ fetched_message m → FailsOrRunsOut error (spec_projected_schema_in_message picks (Some model)) → FirstIn picks old new (Err (Ipc error))
first_fails picks None new m model error fetched is read = tt
first_fails picks (Some xs) None m model error fetched is read = absurd fetched
first_fails picks (Some xs) (Some ys) m model error fetched is read = λ known. first_by picks xs ∙ rw (as_model xs ys m model fetched is, read known) refl

pub first_is_missing : (picks : ProjectionModel) (old new : Option (List ℕ)) → Fetches message_at optional_fetched old new (Ok None) → FirstIn picks old new (Err (Ipc MissingSchema))
first_is_missing picks None new fetched = tt
first_is_missing picks (Some xs) None fetched = absurd fetched
first_is_missing picks (Some xs) (Some ys) fetched = λ known. first_by picks xs ∙ rw fetched (no_schema picks ys)

pub unfetched_first : (picks : ProjectionModel) (old new : Option (List ℕ)) (e : ReadError) → Fetches message_at optional_fetched old new (Err e) → FirstIn picks old new (Err e)
unfetched_first picks None new e fetched = tt
unfetched_first picks (Some xs) new (Ipc error) fetched = λ known. first_by picks xs ∙ rw (fetched known) refl
unfetched_first picks (Some xs) new (Io e) fetched = tt

-- ---- a written schema

-- the state after its message
pub known_first : (t : StateTree) (s : SchemaModel) (bytes : List ℕ) → bytes ≡ schema_message s → SchemaRoundTrips s → state_in bytes ≡ Ok t → t ≡ start (all_written s)
known_first t s bytes is again read =
    let whole : stream_projected_schema_at all (schema_message s ++ []) ≡ Ok (all_written s, []) = again [] in
    let picked : stream_projected_schema_at all bytes ≡ Ok (all_written s, []) = subst (λ (x : List ℕ). stream_projected_schema_at all x ≡ Ok (all_written s, [])) (append-nil (schema_message s) ∙ sym is) whole in
    let here : state_in bytes ≡ Ok (start (all_written s)) = rw picked refl in
    cc
