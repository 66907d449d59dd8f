use Rattle.std.proofs.Common.{◌≡◌, ◌∙◌, [], ℕ, List, Option, Some, Ok, Err, arith, ap, map, refl, subst, sym}
use Rattle.std.specs.Io.KnownBytes.{Keeps}
use Rattle.std.specs.Option.{option_map}
use Rattle.ipc_schema.specs.Schemas.{SchemaModel}
use Rattle.ipc.specs.Streams.{record_batch_of}
use Rattle.ipc.specs.declared.batch.Batch.{Batch}
use Rattle.cli_args.specs.RequestTrees.{request_tree}
use Rattle.cli_rows.specs.declared.error.CliError.TheVariants.{Input}
use Rattle.cli_read.specs.Printed.{FailsWith, Prints, WritesText}
use Rattle.cli_read.specs.Readers.{reader_schema, remaining_batches}
use Rattle.cli_read.specs.Remaining.{ReturnsNext, with_schema}
use Rattle.cli_read.specs.RemainingRequests.{batch_table, remaining_request, table_row_count}
use Rattle.cli_read.specs.RowBuffers.{table_of_batches}
use Rattle.cli_read.proofs.PrintSteps.{at-end, batch-fails, batch-printed, batch-unread, complete, not-begun, state-begun, uncounted}
use Rattle.cli_read.proofs.Readers.{fresh}
use Rattle.cli_read.proofs.printer.print_resolved.Goals as goal

pub returns-in-Err : goal.returns-in-Err
returns-in-Err g c =
    let q = request_tree c.args.request in
    let old = g.W.Write.contents c.args.out.now in
    let new = g.W.Write.contents c.write_text.new.out in
    let s = reader_schema c.args.reader in
    let bs = c.new.result.items in
    not-begun q s (remaining_batches g.R.Read.remaining g.R.Seek.stream_position g.R.Seek.stream_bytes c.args.reader) old new c.in-Err.error (fresh g.R.Read.remaining g.R.Seek.stream_position g.R.Seek.stream_bytes c.args.reader)
    (subst (λ (l : List Batch). FailsWith c.in-Err.error q (Ok (table_of_batches s (map record_batch_of l))) (Keeps old new) old new) c.new.ensures.items
    (subst (λ (z : SchemaModel). FailsWith c.in-Err.error q (Ok (table_of_batches z (map record_batch_of bs))) (Keeps old new) old new) c.schema.ensures c.in-Err.ensures.error))

pub loop-k-init : goal.loop-k-init
loop-k-init g c =
    let q = request_tree c.args.request in
    let old = g.W.Write.contents c.args.out.now in
    let new = g.W.Write.contents c.write_text.new.out in
    let s = reader_schema c.args.reader in
    let bs = c.new.result.items in
    record {
      schema = refl;
      on = state-begun q s (remaining_batches g.R.Read.remaining g.R.Seek.stream_position g.R.Seek.stream_bytes c.args.reader) old new c.requires (fresh g.R.Read.remaining g.R.Seek.stream_position g.R.Seek.stream_bytes c.args.reader)
          (subst (λ (l : List Batch). WritesText q (Ok (table_of_batches s (map record_batch_of l))) old new) c.new.ensures.items
          (subst (λ (z : SchemaModel). WritesText q (Ok (table_of_batches z (map record_batch_of bs))) old new) c.schema.ensures c.in-Ok.ensures.ok));
    }

pub returns-then-is_request_complete : goal.returns-then-is_request_complete
returns-then-is_request_complete g c =
    let left = remaining_batches g.R.Read.remaining g.R.Seek.stream_position g.R.Seek.stream_bytes in
    complete (request_tree c.args.request) (request_tree c.loop-k.left) (reader_schema c.args.reader) c.loop-k.k (left c.args.reader) (left c.loop-k.reader) _ _ c.loop-k.invariant.on (sym c.is_request_complete.ensures ∙ c.if-is_request_complete.true)

pub returns-in-Ok-None : goal.returns-in-Ok-None
returns-in-Ok-None g c =
    let left = remaining_batches g.R.Read.remaining g.R.Seek.stream_position g.R.Seek.stream_bytes in
    at-end (request_tree c.args.request) (request_tree c.loop-k.left) (reader_schema c.args.reader) c.loop-k.k (left c.args.reader) (left c.loop-k.reader) (left c.next_batch.new.self) _ _ c.loop-k.invariant.on
    (subst (λ (n : Option Batch). ReturnsNext (left c.loop-k.reader) (left c.next_batch.new.self) (option_map record_batch_of n)) c.in-Ok-None.field-0-is c.in-Ok-None.ensures.next)

pub returns-in-Err-next_batch : goal.returns-in-Err-next_batch
returns-in-Err-next_batch g c =
    let left = remaining_batches g.R.Read.remaining g.R.Seek.stream_position g.R.Seek.stream_bytes in
    batch-unread (request_tree c.args.request) (request_tree c.loop-k.left) (reader_schema c.args.reader) c.loop-k.k (left c.args.reader) (left c.loop-k.reader) _ _ c.in-Err-next_batch.error c.loop-k.invariant.on
    (sym c.is_request_complete.ensures ∙ c.if-is_request_complete.false) c.in-Err-next_batch.ensures.error

pub returns-in-Err-write_batch : goal.returns-in-Err-write_batch
returns-in-Err-write_batch g c =
    let left = remaining_batches g.R.Read.remaining g.R.Seek.stream_position g.R.Seek.stream_bytes in
    let request = request_tree c.loop-k.left in
    let b = record_batch_of c.in-Ok-Some.batch in
    let mid = g.W.Write.contents c.loop-k.out in
    let new = g.W.Write.contents c.write_batch.new.out in
    let same = c.schema-in-loop-k.ensures ∙ c.in-Ok-Some.ensures.schema ∙ c.loop-k.invariant.schema in
    batch-fails (request_tree c.args.request) request (reader_schema c.args.reader) c.loop-k.k (left c.args.reader) (left c.loop-k.reader) (left c.next_batch.new.self) _ mid new b c.in-Err-write_batch.error c.loop-k.invariant.on
    (sym c.is_request_complete.ensures ∙ c.if-is_request_complete.false)
    (subst (λ (n : Option Batch). ReturnsNext (left c.loop-k.reader) (left c.next_batch.new.self) (option_map record_batch_of n)) c.in-Ok-Some.field-0-is c.in-Ok-Some.ensures.next)
    (subst (λ (s : SchemaModel). FailsWith c.in-Err-write_batch.error request (Ok (batch_table s (Some b))) (Keeps mid new) mid new) same c.in-Err-write_batch.ensures.error)

pub loop-k-preserved : goal.loop-k-preserved
loop-k-preserved g c =
    let left = remaining_batches g.R.Read.remaining g.R.Seek.stream_position g.R.Seek.stream_bytes in
    let request = request_tree c.loop-k.left in
    let b = record_batch_of c.in-Ok-Some.batch in
    let mid = g.W.Write.contents c.loop-k.out in
    let new = g.W.Write.contents c.write_batch.new.out in
    let kept = c.in-Ok-Some.ensures.schema ∙ c.loop-k.invariant.schema in
    let same = c.schema-in-loop-k.ensures ∙ kept in
    record {
      schema = kept;
      on = batch-printed (request_tree c.args.request) request (request_tree c.write_batch.new.left) (reader_schema c.args.reader) c.loop-k.k (left c.args.reader) (left c.loop-k.reader) (left c.next_batch.new.self) _ mid new b c.loop-k.invariant.on
          (sym c.is_request_complete.ensures ∙ c.if-is_request_complete.false)
          (subst (λ (n : Option Batch). ReturnsNext (left c.loop-k.reader) (left c.next_batch.new.self) (option_map record_batch_of n)) c.in-Ok-Some.field-0-is c.in-Ok-Some.ensures.next)
          (subst (λ (s : SchemaModel). WritesText request (Ok (batch_table s (Some b))) mid new) same c.in-Ok-write_batch.ensures.ok)
          (c.in-Ok-write_batch.ensures.left ∙ ap (λ (s : SchemaModel). remaining_request request (table_row_count (batch_table s (Some b)))) same);
    }

pub returns-then-is_request_complete-2 : goal.returns-then-is_request_complete-2
returns-then-is_request_complete-2 g c =
    let left = remaining_batches g.R.Read.remaining g.R.Seek.stream_position g.R.Seek.stream_bytes in
    complete (request_tree c.args.request) (request_tree c.loop-k.left) (reader_schema c.args.reader) c.loop-k.k (left c.args.reader) (left c.loop-k.reader) _ _ c.loop-k.invariant.on (sym c.is_request_complete-2.ensures ∙ c.if-is_request_complete-2.true)

pub returns : goal.returns
returns g c =
    let left = remaining_batches g.R.Read.remaining g.R.Seek.stream_position g.R.Seek.stream_bytes in
    let q = request_tree c.args.request in
    let s = reader_schema c.args.reader in
    let t = left c.args.reader in
    let old = g.W.Write.contents c.args.out.now in
    let new = g.W.Write.contents c.loop-k.out in
    let last : c.loop-k.k ≡ 18446744073709551615 = omega (arith, c.loop-k-test.false, c.loop-k.auto.k-end) in
    subst (λ (k : ℕ). Prints q (option_map (with_schema s) t) (Err (record { batch = Some k; error = Input })) old new) last
    (uncounted q (request_tree c.loop-k.left) s c.loop-k.k t (left c.loop-k.reader) old new c.loop-k.invariant.on (sym c.is_request_complete-2.ensures ∙ c.if-is_request_complete-2.false))
