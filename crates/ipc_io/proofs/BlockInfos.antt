-- The batches of a file, block by block.
use Rattle.std.proofs.Common.{◌≡◌, ◌∙◌, ℕ, ◌+◌, ◌<◌, ◌≤◌, List, [], Option, Some, None, Result, Ok, Err, length, drop, refl, sym, ap, subst}
use Rattle.std.specs.Prelude.{IfSome, ⊤}
use Rattle.std.specs.Option.{option_map}
use Rattle.std.specs.Io.KnownBytes.{Keeps}
use Rattle.std.proofs.lemmas.List.{drop_all, drop_more}
use Rattle.ipc_flatbuf.specs.ReadResults.{◌>>=◌, FailsOrRunsOut}
use Rattle.ipc_flatbuf.specs.declared.error.IpcReadError as read_errors
use Rattle.ipc_flatbuf.specs.declared.message.types.MessageKind.{MessageKind}
use Rattle.ipc_schema.specs.ProjectedFooters.{ProjectedFooterModel, projected_footer_in}
use Rattle.ipc_schema.specs.declared.footer.types.Block.{Block}
use Rattle.ipc_schema.specs.declared.footer.types.ProjectedFooter.{ProjectedFooter}
use Rattle.ipc.specs.Files.{no_block}
use Rattle.ipc_io.specs.Fetched.{Fetches, IsReadFailure}
use Rattle.ipc_io.specs.FileMetadata.{block_front, metadata_at}
use Rattle.ipc_io.specs.FileReaders.{DecodesAs, as_footer}
use Rattle.ipc_io.specs.Infos.{InfoList, InfoTree, ReadsInfo, ReadsInfos, ReturnsInfo, block_info_in, block_infos_in, complete, file_info_in, file_infos_in, info_in_front, info_in_metadata, no_column, preceded, prefixed}
use Rattle.ipc_io.specs.declared.batch_info.BatchInfo.{BatchInfo}
use Rattle.ipc_io.specs.declared.error.ReadError.{ReadError}
use Rattle.ipc_io.specs.declared.error.ReadError.TheVariants.{Ipc, Io}
use Rattle.ipc_io.specs.declared.info.InfoError.{InfoError}
use Rattle.ipc_io.specs.declared.info.IpcInfo.{IpcInfo}
use Rattle.ipc_io.proofs.FileSteps.{nth, unread}
use Rattle.ipc_io.proofs.InfoLists.{Returned, returned}

abbrev Bytes : Type 0
Bytes = Option (List ℕ)

abbrev Error : Type 0
Error = read_errors.IpcReadError

abbrev value : List ℕ → BatchInfo → BatchInfo
value bytes info = info

-- ---- the metadata of a block

module _ {V : Type 0} (items : V → List ℕ) (wanted : MessageKind) (b : Block) (front : List ℕ) where
  pub info_unread : (new : Bytes) (e : ReadError) → Fetches metadata_at items (Some front) new (Err e) → DecodesAs value (info_in_front wanted b) (Some front) (Err e)
  info_unread new (Ipc error) h = λ known. rw (h known) refl
  info_unread new (Io e) h = tt

  pub info_is : (behind part : List ℕ) (metadata : V) (info : BatchInfo) → Fetches metadata_at items (Some front) (Some behind) (Ok metadata) → part ≡ items metadata → info_in_metadata wanted b part behind ≡ Ok info → DecodesAs value (info_in_front wanted b) (Some front) (Ok info)
  info_is behind part metadata info first same read = rw first (ap (λ (x : List ℕ). info_in_metadata wanted b x behind) (sym same) ∙ read)

  pub info_fails : (behind part : List ℕ) (metadata : V) (error : Error) → Fetches metadata_at items (Some front) (Some behind) (Ok metadata) → part ≡ items metadata → FailsOrRunsOut error (info_in_metadata wanted b part behind)
      → DecodesAs value (info_in_front wanted b) (Some front) (Err (Ipc error))
  info_fails behind part metadata error first same fails = λ known. rw first (ap (λ (x : List ℕ). info_in_metadata wanted b x behind) (sym same) ∙ fails known)

module _ (wanted : MessageKind) (b : Block) where
  pub block_unread : (o : Bytes) (e : ReadError) → IsReadFailure e → DecodesAs value (λ xs. block_info_in wanted xs b) o (Err e)
  block_unread o e h = unread value (λ xs. block_info_in wanted xs b) o e h

  pub block_info : (o : Bytes) (own part : List ℕ) (result : Result BatchInfo ReadError) → IfSome o (λ xs. own ≡ block_front xs b) → part ≡ own → DecodesAs value (info_in_front wanted b) (Some part) result → DecodesAs value (λ xs. block_info_in wanted xs b) o result
  block_info None own part result is same h = tt
  block_info (Some xs) own part (Ok info) is same h = ap (info_in_front wanted b) (sym is ∙ sym same) ∙ h
  block_info (Some xs) own part (Err (Ipc error)) is same h = λ known. ap (info_in_front wanted b) (sym is ∙ sym same) ∙ h known
  block_info (Some xs) own part (Err (Io e)) is same h = tt

-- ---- blocks

module _ (wanted : MessageKind) (blocks : List Block) (i : ℕ) where
  -- the batches of the blocks from an index on
  abbrev pub infos_from : Bytes → Option InfoList
  infos_from o = option_map (block_infos_in wanted (drop i blocks)) o

  one-more : (xs : List ℕ) → i < length blocks → block_infos_in wanted (drop i blocks) xs ≡ preceded (block_info_in wanted xs (nth blocks i)) (block_infos_in wanted (drop (i + 1) blocks) xs)
  unfolding block_infos_in
  one-more xs lt = rw (drop_more blocks i no_block lt) refl

  none-more : (xs : List ℕ) → length blocks ≤ i → block_infos_in wanted (drop i blocks) xs ≡ complete []
  unfolding block_infos_in
  none-more xs le = rw (drop_all i blocks le) refl

  by-block : (xs ys : List ℕ) (info : Result BatchInfo Error) → i < length blocks → ys ≡ xs → block_info_in wanted ys (nth blocks i) ≡ info → block_infos_in wanted (drop i blocks) xs ≡ preceded info (block_infos_in wanted (drop (i + 1) blocks) xs)
  by-block xs ys info lt kept is =
      let here : block_info_in wanted xs (nth blocks i) ≡ info = ap (λ (zs : List ℕ). block_info_in wanted zs (nth blocks i)) (sym kept) ∙ is in
      one-more xs lt ∙ ap (λ (r : Result BatchInfo Error). preceded r (block_infos_in wanted (drop (i + 1) blocks) xs)) here

  abbrev pub next_infos : Bytes → Option InfoList
  next_infos o = option_map (block_infos_in wanted (drop (i + 1) blocks)) o

  pub block_read : (a b : Bytes) (info : BatchInfo) → i < length blocks → Keeps a b → DecodesAs value (λ xs. block_info_in wanted xs (nth blocks i)) b (Ok info) → ReadsInfo (infos_from a) (next_infos a) (Ok (Some info))
  block_read None b info lt kept h = tt
  block_read (Some xs) None info lt kept h = absurd kept
  block_read (Some xs) (Some ys) info lt kept h = by-block xs ys (Ok info) lt kept h

  pub block_fails : (a b : Bytes) (e : ReadError) → i < length blocks → Keeps a b → DecodesAs value (λ xs. block_info_in wanted xs (nth blocks i)) b (Err e) → ReadsInfo (infos_from a) (next_infos a) (Err e)
  block_fails None b e lt kept h = tt
  block_fails (Some xs) None e lt kept h = absurd kept
  block_fails (Some xs) (Some ys) (Ipc error) lt kept h = λ known. by-block xs ys (Err error) lt kept (h known)
  block_fails (Some xs) (Some ys) (Io e) lt kept h = tt

  pub blocks_end : (a : Bytes) → length blocks ≤ i → ReadsInfo (infos_from a) (next_infos a) (Ok None)
  blocks_end None le = tt
  blocks_end (Some xs) le = none-more xs le

-- ---- the footer

abbrev with_batches : List ℕ → Result ProjectedFooterModel Error → Result InfoTree Error
with_batches bytes footer = footer >>= λ f. Ok (record { columns = length f.picked.steps; batches = file_infos_in f.dictionaries f.batches bytes })

pub footer_fails : (o : Bytes) (e : ReadError) → DecodesAs as_footer (projected_footer_in no_column) o (Err e) → ReturnsInfo file_info_in o (Err (record { batch = None; error = e }))
footer_fails None e h = tt
footer_fails (Some xs) (Ipc error) h = λ known. ap (with_batches xs) (h known)
footer_fails (Some xs) (Io e) h = tt

module _ (a b : Bytes) (footer : ProjectedFooter) (columns : ℕ) (start infos : List BatchInfo) (dictionaries batches : List Block) where
  pub file_returned : (read : Result ⊤ ReadError) (result : Result IpcInfo InfoError) → DecodesAs as_footer (projected_footer_in no_column) a (Ok footer) → Keeps a b → columns ≡ length footer.picked.steps.items → start ≡ []
      → dictionaries ≡ footer.dictionaries.items → batches ≡ footer.batches.items → ReadsInfos (option_map (λ xs. prefixed start (file_infos_in dictionaries batches xs)) b) infos read → Returned columns infos read result
      → ReturnsInfo file_info_in a result
  file_returned read result decoded kept count none first second reads r = given a b decoded kept reads
    where
      given : (o p : Bytes) → DecodesAs as_footer (projected_footer_in no_column) o (Ok footer) → Keeps o p → ReadsInfos (option_map (λ xs. prefixed start (file_infos_in dictionaries batches xs)) p) infos read → ReturnsInfo file_info_in o result
      given None p decoded kept reads = tt
      given (Some xs) None decoded kept reads = absurd kept
      given (Some xs) (Some ys) decoded kept reads =
          let is : file_info_in xs ≡ Ok (record { columns = columns; batches = file_infos_in dictionaries batches xs }) =
          ap (with_batches xs) decoded
          ∙ ap (λ (n : ℕ). Ok (record { columns = n; batches = file_infos_in footer.dictionaries.items footer.batches.items xs })) (sym count)
          ∙ ap (λ (ds : List Block). Ok (record { columns = columns; batches = file_infos_in ds footer.batches.items xs })) (sym first)
          ∙ ap (λ (bs : List Block). Ok (record { columns = columns; batches = file_infos_in dictionaries bs xs })) (sym second) in
          let here : ReadsInfos (Some (prefixed start (file_infos_in dictionaries batches xs))) infos read = subst (λ (zs : List ℕ). ReadsInfos (Some (prefixed start (file_infos_in dictionaries batches zs))) infos read) kept reads in
          let all : ReadsInfos (Some (file_infos_in dictionaries batches xs)) infos read = subst (λ (before : List BatchInfo). ReadsInfos (Some (prefixed before (file_infos_in dictionaries batches xs))) infos read) none here in
          returned (file_info_in xs) columns (file_infos_in dictionaries batches xs) infos is read result all r
