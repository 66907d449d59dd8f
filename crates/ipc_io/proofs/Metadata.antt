-- The metadata of a file's record batches, read without their bodies.
use Rattle.std.proofs.Common.{◌≡◌, ℕ, ◌<◌, List, length, get_or, Option, Some, None, Result, Ok, Err, refl, sym, ap, ◌∙◌, subst}
use Rattle.std.specs.Prelude.{IfSome}
use Rattle.std.proofs.lemmas.List.{get_or_default}
use Rattle.ipc_flatbuf.specs.ReadResults.{◌>>=◌, FailsOrRunsOut}
use Rattle.ipc_flatbuf.specs.Messages.{spec_first_bytes}
use Rattle.ipc_flatbuf.specs.declared.error.IpcReadError.{IpcReadError}
use Rattle.ipc_schema.specs.ProjectedFooters.{projected_footer_in}
use Rattle.ipc_schema.specs.Projections.{ProjectionModel}
use Rattle.ipc_schema.specs.Schemas.{SchemaModel}
use Rattle.ipc_schema.specs.declared.footer.types.Block.{Block}
use Rattle.ipc_io.specs.declared.error.ReadError.{ReadError}
use Rattle.ipc_io.specs.declared.error.ReadError.TheVariants.{Ipc, Io}
use Rattle.ipc_io.specs.Fetched.{Fetches, metadata_length_at}
use Rattle.ipc_io.specs.FileMetadata.{CountsRows, MetadataReaderTree, block_front, block_rows_in, file_metadata_in, metadata_at, metadata_of, rows_in_front, rows_in_metadata}
use Rattle.ipc_io.specs.FileReaders.{DecodesAs, as_footer, bytes_of}
use Rattle.ipc_io.proofs.FileSteps.{nth}
use Rattle.ipc_io.proofs.Messages.{fails_first, fetched_then}

abbrev Bytes : Type 0
Bytes = Option (List ℕ)

abbrev size_of : ℕ → ℕ
size_of size = size

abbrev rows_of : List ℕ → ℕ → ℕ
rows_of bytes rows = rows

-- ---- the metadata of a message

module _ {V : Type 0} (items : V → List ℕ) (old mid new : Bytes) where
  pub length_missing : (e : ReadError) → Fetches metadata_length_at size_of old new (Err e) → Fetches metadata_at items old new (Err e)
  unfolding metadata_at
  length_missing e first = fails_first metadata_length_at size_of spec_first_bytes items old new e first

  pub metadata_read : (size : ℕ) (result : Result V ReadError) → Fetches metadata_length_at size_of old mid (Ok size) → Fetches (spec_first_bytes size) items mid new result → Fetches metadata_at items old new result
  unfolding metadata_at
  metadata_read size result first second = fetched_then metadata_length_at size_of spec_first_bytes items old mid new size result first second

-- ---- the number of rows in it

module _ {V : Type 0} (items : V → List ℕ) (b : Block) (front : List ℕ) where
  pub rows_unread : (new : Bytes) (e : ReadError) → Fetches metadata_at items (Some front) new (Err e) → DecodesAs rows_of (rows_in_front b) (Some front) (Err e)
  rows_unread new (Ipc error) h = λ known. rw (h known) refl
  rows_unread new (Io e) h = tt

  pub rows_are : (behind part : List ℕ) (metadata : V) (rows : ℕ) → Fetches metadata_at items (Some front) (Some behind) (Ok metadata) → part ≡ items metadata → rows_in_metadata b part behind ≡ Ok rows → DecodesAs rows_of (rows_in_front b) (Some front) (Ok rows)
  rows_are behind part metadata rows first same read = rw first (ap (λ (x : List ℕ). rows_in_metadata b x behind) (sym same) ∙ read)

  pub rows_fail : (behind part : List ℕ) (metadata : V) (error : IpcReadError) → Fetches metadata_at items (Some front) (Some behind) (Ok metadata) → part ≡ items metadata → FailsOrRunsOut error (rows_in_metadata b part behind)
      → DecodesAs rows_of (rows_in_front b) (Some front) (Err (Ipc error))
  rows_fail behind part metadata error first same fails = λ known. rw first (ap (λ (x : List ℕ). rows_in_metadata b x behind) (sym same) ∙ fails known)

-- ---- readers

-- the footer was not read
pub metadata_fails : (R : Type 0) (o : Bytes) (picks : ProjectionModel) (e : ReadError) → DecodesAs as_footer (projected_footer_in picks) o (Err e) → DecodesAs (metadata_of {R = R}) (file_metadata_in picks) o (Err e)
metadata_fails R None picks e h = tt
metadata_fails R (Some xs) picks (Ipc error) h = λ known. rw (h known) refl
metadata_fails R (Some xs) picks (Io e) h = tt

module _ {R : Type 0} (position : R → Option ℕ) (bytes : R → Option (List ℕ)) where
  pub block_at : (old : MetadataReaderTree R) (reader : R) (s : SchemaModel) (blocks : List Block) (i : ℕ) (b : Block) → record { inner = reader; schema = s; blocks = blocks } ≡ old → i < length old.blocks → b ≡ get_or blocks i b → b ≡ nth blocks i
  block_at old reader s blocks i b e lt is =
      let within : i < length blocks = subst (λ (r : MetadataReaderTree R). i < length r.blocks) (sym e) lt in
      is ∙ get_or_default blocks i b _ within

  pub rows_counted : (old : MetadataReaderTree R) (reader : R) (s : SchemaModel) (blocks : List Block) (i : ℕ) (b : Block) (own part : List ℕ) (result : Result ℕ ReadError) → record { inner = reader; schema = s; blocks = blocks } ≡ old → b ≡ nth blocks i
      → IfSome (bytes_of position bytes reader) (λ xs. own ≡ block_front xs b) → part ≡ own → DecodesAs rows_of (rows_in_front b) (Some part) result → CountsRows position bytes i old result
  rows_counted old reader s blocks i b own part result e there is same read =
      subst (λ (r : MetadataReaderTree R). CountsRows position bytes i r result) e (given (bytes_of position bytes reader) result is read)
    where
      front_is : (xs : List ℕ) → own ≡ block_front xs b → block_rows_in xs (nth blocks i) ≡ rows_in_front b part
      front_is xs h = ap (block_rows_in xs) (sym there) ∙ ap (rows_in_front b) (sym h ∙ sym same)

      given : (o : Bytes) (found : Result ℕ ReadError) → IfSome o (λ xs. own ≡ block_front xs b) → DecodesAs rows_of (rows_in_front b) (Some part) found → DecodesAs rows_of (λ xs. block_rows_in xs (nth blocks i)) o found
      given None found h reads = tt
      given (Some xs) (Ok rows) h reads = front_is xs h ∙ reads
      given (Some xs) (Err (Ipc error)) h reads = λ known. front_is xs h ∙ reads known
      given (Some xs) (Err (Io e)) h reads = tt
