-- The numbers of rows in what metadata says are those that are counted.
use Rattle.std.proofs.Common.{◌≡◌, ◌∙◌, ℕ, ◌∷◌, [], Bool, true, false, List, Option, None, Some, Result, Ok, Err, refl, ap}
use Rattle.ipc_flatbuf.specs.ReadResults.{◌>>=◌, check}
use Rattle.ipc_flatbuf.specs.declared.error.IpcReadError as read_errors
use Rattle.ipc_flatbuf.specs.declared.error.IpcReadError.TheVariants.{Block as BlockError, HeaderType}
use Rattle.ipc_flatbuf.specs.Batches.{BatchModel, batch_at}
use Rattle.ipc_flatbuf.specs.MessageBytes.{header_tag}
use Rattle.ipc_flatbuf.specs.Messages.{root_at}
use Rattle.ipc_flatbuf.specs.declared.message.types.MessageKind.{MessageKind}
use Rattle.ipc_flatbuf.specs.declared.message.types.MessageKind.TheVariants.{Schema, DictionaryBatch, RecordBatch}
use Rattle.ipc_flatbuf.specs.declared.message.types.MessageRoot.{MessageRoot}
use Rattle.ipc_schema.specs.declared.footer.types.Block.{Block}
use Rattle.std.specs.Prelude.{◌&&◌, ◌==◌, length, unsigned_abs}
use Rattle.ipc_io.specs.BatchInfos.{info_of, record_batch_by, record_batch_info}
use Rattle.ipc_io.specs.FileMetadata.{block_front, block_rows_in, metadata_at, row_counts_at, rows_in_metadata}
use Rattle.ipc_io.specs.InfoLaws.{rows_or_error, rows_unless}
use Rattle.ipc_io.specs.Infos.{block_info_in, block_infos_in, info_in_metadata, preceded}
use Rattle.ipc_io.specs.declared.batch_info.BatchInfo.{BatchInfo}
use Rattle.ipc_io.specs.declared.batch_info.BatchKind.TheVariants.{Records}

abbrev Error : Type 0
Error = read_errors.IpcReadError

abbrev rows_only : Result BatchInfo Error → Result ℕ Error
rows_only read = read >>= λ info. Ok info.rows

abbrev batch_rows : Result BatchModel Error → Result ℕ Error
batch_rows read = read >>= λ batch. Ok batch.rows

of-batch : (root : MessageRoot) (metadata : List ℕ) → batch_rows (batch_at metadata root.header root.left root.body_length) ≡ rows_only (record_batch_info root metadata)
unfolding record_batch_info
of-batch root metadata = by (batch_at metadata root.header root.left root.body_length)
  where
    by : (read : Result BatchModel Error) → batch_rows read ≡ rows_only (read >>= λ batch. Ok (info_of root Records batch))
    by (Ok batch) = refl
    by (Err error) = refl

of-kind : (kind : MessageKind) (root : MessageRoot) (metadata : List ℕ) → (check (header_tag kind == header_tag RecordBatch) HeaderType >>= λ same. batch_rows (batch_at metadata root.header root.left root.body_length)) ≡ rows_only (record_batch_by kind root metadata)
of-kind Schema root metadata = refl
of-kind DictionaryBatch root metadata = refl
of-kind RecordBatch root metadata = of-batch root metadata

of-metadata : (b : Block) (metadata behind : List ℕ) → rows_in_metadata b metadata behind ≡ rows_only (info_in_metadata RecordBatch b metadata behind)
unfolding rows_in_metadata info_in_metadata
of-metadata b metadata behind = by (root_at metadata)
  where
    filled : (fills : Result (Unit {0}) Error) (root : MessageRoot) → (fills >>= λ one. check (header_tag root.kind == header_tag RecordBatch) HeaderType >>= λ same. batch_rows (batch_at metadata root.header root.left root.body_length)) ≡ rows_only (fills >>= λ one. record_batch_by root.kind root metadata)
    filled (Ok one) root = of-kind root.kind root metadata
    filled (Err error) root = refl

    by : (read : Result MessageRoot Error) → (read >>= λ root. check (length behind == 0 && root.body_length == unsigned_abs b.body_length) BlockError >>= λ one. check (header_tag root.kind == header_tag RecordBatch) HeaderType >>= λ same. batch_rows (batch_at metadata root.header root.left root.body_length))
        ≡ rows_only (read >>= λ root. check (length behind == 0 && root.body_length == unsigned_abs b.body_length) BlockError >>= λ one. record_batch_by root.kind root metadata)
    by (Ok root) = filled (check (length behind == 0 && root.body_length == unsigned_abs b.body_length) BlockError) root
    by (Err error) = refl

of-block : (bytes : List ℕ) (b : Block) → block_rows_in bytes b ≡ rows_only (block_info_in RecordBatch bytes b)
of-block bytes b = by (metadata_at (block_front bytes b))
  where
    by : (read : Result (List ℕ × List ℕ) Error) → (read >>= λ x. rows_in_metadata b x.0 x.1) ≡ rows_only (read >>= λ x. info_in_metadata RecordBatch b x.0 x.1)
    by (Ok x) = of-metadata b x.0 x.1
    by (Err error) = refl

one-more : (info : Result BatchInfo Error) (infos : List BatchInfo) (error : Option Error) → (rows_only info >>= λ n. rows_unless infos error >>= λ others. Ok (n ∷ others)) ≡ rows_or_error (preceded info (record { read = infos; error = error }))
one-more (Ok info) infos None = refl
one-more (Ok info) infos (Some error) = refl
one-more (Err e) infos error = refl

pub rows_counted_alike : (bytes : List ℕ) (blocks : List Block) → row_counts_at bytes blocks ≡ rows_or_error (block_infos_in RecordBatch blocks bytes)
unfolding row_counts_at block_infos_in
rows_counted_alike bytes [] = refl
rows_counted_alike bytes (b ∷ bs) =
    ap (λ (rows : Result ℕ Error). rows >>= λ n. row_counts_at bytes bs >>= λ others. Ok (n ∷ others)) (of-block bytes b)
    ∙ ap (λ (rest : Result (List ℕ) Error). rows_only (block_info_in RecordBatch bytes b) >>= λ n. rest >>= λ others. Ok (n ∷ others)) (rows_counted_alike bytes bs)
    ∙ one-more (block_info_in RecordBatch bytes b) (block_infos_in RecordBatch bs bytes).read (block_infos_in RecordBatch bs bytes).error
