use Rattle.std.proofs.Common.{◌≡◌, ◌<◌, ◌^◌, List, ℕ, length, refl, subst, arith}
use Rattle.std.proofs.lemmas.Result.{err_from_is_err_and}
use Rattle.ipc_flatbuf.specs.MessageBytes.{message_bytes, metadata_size}
use Rattle.ipc_flatbuf.specs.declared.message.types.MessageKind.TheVariants as kinds
use Rattle.ipc_schema.specs.Schemas.{SchemaModel, schema_of}
use Rattle.ipc_schema.specs.WriteChecks.{check_fields, schema_error_of_whole, size_error_of_schema}
use Rattle.ipc_schema.specs.SchemaBytes.{schema_message}
use Rattle.ipc_schema.specs.SchemaLaws.{part_of, message_long, stream_round_trips}
use Rattle.ipc_schema.specs.ProjectionLaws.{projected_stream_round_trips}
use Rattle.ipc_schema.proofs.writing.write_schema_with_dictionaries.Goals as goal

pub returns-in_err-part-clause-err : goal.returns-in_err-part-clause-err
returns-in_err-part-clause-err c =
    let p = err_from_is_err_and c.from_residual.result c.from_residual.ensures.1 in
    let s : SchemaModel = schema_of c.args.schema.now in
    rw (p.1, p.2) (schema_error_of_whole (check_fields s.fields) (length (part_of s)) (metadata_size (schema_message s)) _ (omega (arith, message_long s)) c.in_err-part.ensures.err)

pub returns-in_err-message-clause-err : goal.returns-in_err-message-clause-err
unfolding schema_message
returns-in_err-message-clause-err c =
    let p = err_from_is_err_and c.from_residual-in_err-message.result c.from_residual-in_err-message.ensures.1 in
    let s : SchemaModel = schema_of c.args.schema.now in
    let part : c.deref.result.now ≡ part_of s = rw (c.deref.ensures.value, c.in_ok-part.ensures.bytes) refl in
    rw (p.1, p.2) (size_error_of_schema (check_fields s.fields) (metadata_size (message_bytes kinds.Schema 0 16 (part_of s))) _ c.in_ok-part.ensures.fits.form (rw part at c.in_err-message.ensures.size))

pub returns-clause-bytes : goal.returns-clause-bytes
unfolding schema_message
returns-clause-bytes c = rw (c.in_ok-message.ensures.bytes, c.deref.ensures.value, c.in_ok-part.ensures.bytes) refl

pub returns-clause-small : goal.returns-clause-small
unfolding schema_message
returns-clause-small c =
    let s : SchemaModel = schema_of c.args.schema.now in
    let part : c.deref.result.now ≡ part_of s = rw (c.deref.ensures.value, c.in_ok-part.ensures.bytes) refl in
    subst (λ (l : List ℕ). metadata_size (message_bytes kinds.Schema 0 16 l) < 2 ^ 31) part c.in_ok-message.ensures.small

pub returns-clause-columns : goal.returns-clause-columns
unfolding schema_message
returns-clause-columns c = λ rest.
    let s : SchemaModel = schema_of c.args.schema.now in
    let part : c.deref.result.now ≡ part_of s = rw (c.deref.ensures.value, c.in_ok-part.ensures.bytes) refl in
    let small : metadata_size (schema_message s) < 2 ^ 31 = subst (λ (l : List ℕ). metadata_size (message_bytes kinds.Schema 0 16 l) < 2 ^ 31) part c.in_ok-message.ensures.small in
    let bytes : c.in_ok-message.message.items ≡ schema_message s = rw (c.in_ok-message.ensures.bytes, c.deref.ensures.value, c.in_ok-part.ensures.bytes) refl in
    rw bytes (projected_stream_round_trips s rest c.in_ok-part.ensures.fits small)

pub returns-clause-again : goal.returns-clause-again
unfolding schema_message
returns-clause-again c = λ rest.
    let s : SchemaModel = schema_of c.args.schema.now in
    let part : c.deref.result.now ≡ part_of s = rw (c.deref.ensures.value, c.in_ok-part.ensures.bytes) refl in
    let small : metadata_size (schema_message s) < 2 ^ 31 = subst (λ (l : List ℕ). metadata_size (message_bytes kinds.Schema 0 16 l) < 2 ^ 31) part c.in_ok-message.ensures.small in
    let bytes : c.in_ok-message.message.items ≡ schema_message s = rw (c.in_ok-message.ensures.bytes, c.deref.ensures.value, c.in_ok-part.ensures.bytes) refl in
    rw bytes (stream_round_trips s rest c.in_ok-part.ensures.fits small)
