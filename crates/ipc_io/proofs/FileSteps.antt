-- The parts of a file that are read decode as its bytes do.
use Rattle.std.proofs.Common.{◌≡◌, ℕ, ◌+◌, ◌-◌, ◌<◌, ◌≤◌, Bool, true, false, leb, List, length, get_or, take, drop, Option, Some, None, Result, Ok, Err, refl, sym, ap, ◌∙◌, subst, arith}
use Rattle.std.specs.Prelude.{IfSome}
use Rattle.std.specs.Io.KnownBytes.{Keeps}
use Rattle.std.proofs.lemmas.Bool.{leb-true, leb-false}
use Rattle.std.proofs.lemmas.List.{get_or_default, length-drop, take_all, take-take, drop_more, drop_all}
use Rattle.ipc_flatbuf.specs.ReadResults.{◌>>=◌, FailsOrRunsOut}
use Rattle.ipc_flatbuf.specs.declared.error.IpcReadError as read_errors
use Rattle.ipc_schema.specs.ProjectedSchemas.{projected_schema_of}
use Rattle.ipc_schema.specs.Projections.{ProjectionModel}
use Rattle.ipc_schema.specs.declared.footer.types.Block.{Block}
use Rattle.ipc_schema.specs.Footers.{footer_position, spec_block_bytes}
use Rattle.ipc_schema.specs.ProjectedFooters.{ProjectedFooterModel, projected_footer_in, projected_footer_of}
use Rattle.ipc_schema.specs.declared.footer.types.ProjectedFooter.{ProjectedFooter}
use Rattle.ipc_schema.specs.FooterParts.{footer_length_by_ends, length_of_footer, footer_before, last_bytes_of, footer_bytes_in, footer_length_depends_on_ends, file_by_length}
use Rattle.ipc.specs.declared.batch.Batch.{Batch}
use Rattle.ipc.specs.Streams.{StateTree, start, record_batch_of}
use Rattle.ipc.specs.Files.{SliceFileReaderTree, dictionary_in_block, batch_in_block, dictionaries_at, batch_of_file, file_reader_in, no_block}
use Rattle.ipc_io.specs.declared.error.ReadError.{ReadError}
use Rattle.ipc_io.specs.declared.error.ReadError.TheVariants.{Ipc, Io}
use Rattle.ipc_io.specs.Fetched.{IsReadFailure}
use Rattle.ipc_io.specs.Seeks.{IsPart, IsSize}
use Rattle.ipc_io.specs.FileReaders.{DecodesAs, FileReaderTree, as_batch, as_footer, as_span, of_bytes, bytes_of, ReadsBatch, IsUnchanged, footer_span}

-- ---- known bytes

-- what holds of known bytes holds of them where they were kept
pub known_still : (P : List ℕ → Type 0) (a b : Option (List ℕ)) → Keeps a b → IfSome b P → IfSome a P
known_still P None b h p = tt
known_still P (Some xs) None h p = absurd h
known_still P (Some xs) (Some ys) h p = subst P h p

module _ {X Y : Type 0} (view : List ℕ → X → Y) (read : List ℕ → Result Y read_errors.IpcReadError) where
  pub answered : (o : Option (List ℕ)) (x : X) → IfSome o (λ bytes. read bytes ≡ Ok (view bytes x)) → DecodesAs view read o (Ok x)
  answered None x h = tt
  answered (Some bytes) x h = h

  pub faulty : (o : Option (List ℕ)) (error : read_errors.IpcReadError) → IfSome o (λ bytes. FailsOrRunsOut error (read bytes)) → DecodesAs view read o (Err (Ipc error))
  faulty None error h = tt
  faulty (Some bytes) error h = h

  pub unread : (o : Option (List ℕ)) (e : ReadError) → IsReadFailure e → DecodesAs view read o (Err e)
  unread None e h = tt
  unread (Some bytes) (Ipc error) h = λ known. absurd (known h)
  unread (Some bytes) (Io e) h = tt

-- ---- the footer

head_within : (bytes head : List ℕ) (long : Bool) → leb 6 (length bytes) ≡ long → head ≡ take (length bytes - (length bytes - 6)) (drop 0 bytes) → take 6 head ≡ take 6 bytes
head_within bytes head true e is =
    let six : length bytes - (length bytes - 6) ≡ 6 = omega (arith, leb-true 6 (length bytes) e) in
    ap (take 6) (is ∙ ap (λ (n : ℕ). take n bytes) six) ∙ take-take 6 6 bytes (omega arith)
head_within bytes head false e is =
    let all : take (length bytes - (length bytes - 6)) bytes ≡ bytes = take_all (length bytes - (length bytes - 6)) bytes (omega (arith, leb-false 6 (length bytes) e)) in
    ap (take 6) (is ∙ all)

tail_within : (bytes tail : List ℕ) → tail ≡ take (length bytes - (length bytes - 10)) (drop (length bytes - 10) bytes) → tail ≡ last_bytes_of bytes
tail_within bytes tail is = is ∙ take_all (length bytes - (length bytes - 10)) (last_bytes_of bytes) (omega (arith, length-drop (length bytes - 10) bytes))

span_tells : (bytes head tail : List ℕ) (size : ℕ) → size ≡ length bytes → head ≡ take (size - (size - 6)) (drop 0 bytes) → tail ≡ take (size - (size - 10)) (drop (size - 10) bytes)
    → length_of_footer bytes ≡ footer_length_by_ends size head tail
span_tells bytes head tail size is first last =
    let here : head ≡ take (length bytes - (length bytes - 6)) (drop 0 bytes) = first ∙ ap (λ (n : ℕ). take (n - (n - 6)) (drop 0 bytes)) is in
    let there : tail ≡ take (length bytes - (length bytes - 10)) (drop (length bytes - 10) bytes) = last ∙ ap (λ (n : ℕ). take (n - (n - 10)) (drop (n - 10) bytes)) is in
    footer_length_depends_on_ends bytes head (head_within bytes head (leb 6 (length bytes)) refl here)
    ∙ ap (footer_length_by_ends (length bytes) head) (sym (tail_within bytes tail there))
    ∙ ap (λ (n : ℕ). footer_length_by_ends n head tail) (sym is)

-- the length of the footer, by the parts of a reader
abbrev pub TellsSpan : Option (List ℕ) → ℕ → Result ℕ read_errors.IpcReadError → Type 0
TellsSpan o size told = IfSome o (λ bytes. (size ≡ length bytes) × (length_of_footer bytes ≡ told))

pub span_known : (a b c : Option (List ℕ)) (size first last : ℕ) (head tail front back : List ℕ) (told : Result ℕ read_errors.IpcReadError) → first ≡ size - 6 → last ≡ size - 10 → Keeps a b → Keeps b c → IsSize a size → IsPart b 0 (size - first) head → IsPart c last (size - last) tail
    → front ≡ head → back ≡ tail → told ≡ footer_length_by_ends size front back → TellsSpan a size told
span_known None b c size first last head tail front back told f l h k long one two is same tells = tt
span_known (Some xs) None c size first last head tail front back told f l h k long one two is same tells = absurd h
span_known (Some xs) (Some ys) None size first last head tail front back told f l h k long one two is same tells = absurd k
span_known (Some xs) (Some ys) (Some zs) size first last head tail front back told f l h k long one two is same tells =
    let here : front ≡ take (size - (size - 6)) (drop 0 xs) = is ∙ one ∙ (λ i. take (size - f i) (drop 0 (h i))) in
    let there : back ≡ take (size - (size - 10)) (drop (size - 10) xs) = same ∙ two ∙ (λ i. take (size - l i) (drop (l i) ((k ∙ h) i))) in
    (long, span_tells xs front back size long here there ∙ sym tells)

abbrev spanned : List ℕ → Result ℕ read_errors.IpcReadError → Result (ℕ × ℕ) read_errors.IpcReadError
spanned bytes read = read >>= λ long. Ok (footer_position long bytes, long)

pub span_found : (o : Option (List ℕ)) (size long : ℕ) → TellsSpan o size (Ok long) → DecodesAs as_span footer_span o (Ok (size - (10 + long), long))
span_found None size long h = tt
span_found (Some bytes) size long h = ap (spanned bytes) h.1 ∙ ap (λ (n : ℕ). Ok (n - (10 + long), long)) (sym h.0)

pub span_fails : (o : Option (List ℕ)) (size : ℕ) (error : read_errors.IpcReadError) → TellsSpan o size (Err error) → DecodesAs as_span footer_span o (Err (Ipc error))
span_fails None size error h = tt
span_fails (Some bytes) size error h = λ known. ap (spanned bytes) h.1

abbrev by_place : ProjectionModel → List ℕ → Result (ℕ × ℕ) read_errors.IpcReadError → Result ProjectedFooterModel read_errors.IpcReadError
by_place picks bytes span = span >>= λ p. footer_before picks (take p.1 (drop p.0 bytes)) p.0

by_span : (picks : ProjectionModel) (bytes : List ℕ) (read : Result ℕ read_errors.IpcReadError)
    → (read >>= λ long. footer_before picks (footer_bytes_in bytes long) (footer_position long bytes)) ≡ by_place picks bytes (spanned bytes read)
by_span picks bytes (Ok long) = refl
by_span picks bytes (Err error) = refl

file_by_span : (picks : ProjectionModel) (bytes : List ℕ) → projected_footer_in picks bytes ≡ by_place picks bytes (footer_span bytes)
file_by_span picks bytes = file_by_length picks bytes ∙ by_span picks bytes (length_of_footer bytes)

pub span_unread : (o : Option (List ℕ)) (e : ReadError) → IsReadFailure e → DecodesAs as_span footer_span o (Err e)
span_unread o e h = unread as_span footer_span o e h

-- the footer is decoded from its own bytes
pub footer_known : (a b : Option (List ℕ)) (picks : ProjectionModel) (position long : ℕ) (own : List ℕ) → Keeps a b → DecodesAs as_span footer_span a (Ok (position, long)) → IsPart b position long own → IfSome a (λ bytes. projected_footer_in picks bytes ≡ footer_before picks own position)
footer_known None b picks position long own h found part = tt
footer_known (Some xs) None picks position long own h found part = absurd h
footer_known (Some xs) (Some ys) picks position long own h found part =
    let is : own ≡ take long (drop position xs) = part ∙ ap (λ (x : List ℕ). take long (drop position x)) h in
    file_by_span picks xs ∙ ap (by_place picks xs) found ∙ ap (λ (x : List ℕ). footer_before picks x position) (sym is)

-- a footer that the code holds is seen by projected_footer_of
abbrev pub FooterIn : ProjectionModel → Option (List ℕ) → Result ProjectedFooter ReadError → Type 0
FooterIn picks o result = DecodesAs as_footer (projected_footer_in picks) o result

pub footer_is : (a b : Option (List ℕ)) (picks : ProjectionModel) (position long : ℕ) (own part : List ℕ) (f : ProjectedFooter) → Keeps a b → DecodesAs as_span footer_span a (Ok (position, long)) → IsPart b position long own → part ≡ own → footer_before picks part position ≡ Ok (projected_footer_of f)
    → FooterIn picks a (Ok f)
footer_is a b picks position long own part f kept found is same read =
    answered as_footer (projected_footer_in picks) a f (all a (footer_known a b picks position long own kept found is))
  where
    all : (o : Option (List ℕ)) → IfSome o (λ bytes. projected_footer_in picks bytes ≡ footer_before picks own position) → IfSome o (λ bytes. projected_footer_in picks bytes ≡ Ok (projected_footer_of f))
    all None h = tt
    all (Some bytes) h = h ∙ ap (λ (x : List ℕ). footer_before picks x position) (sym same) ∙ read

pub footer_faulty : (a b : Option (List ℕ)) (picks : ProjectionModel) (position long : ℕ) (own part : List ℕ) (error : read_errors.IpcReadError) → Keeps a b → DecodesAs as_span footer_span a (Ok (position, long)) → IsPart b position long own → part ≡ own → FailsOrRunsOut error (footer_before picks part position)
    → FooterIn picks a (Err (Ipc error))
footer_faulty a b picks position long own part error kept found is same fails =
    faulty as_footer (projected_footer_in picks) a error (all a (footer_known a b picks position long own kept found is))
  where
    all : (o : Option (List ℕ)) → IfSome o (λ bytes. projected_footer_in picks bytes ≡ footer_before picks own position) → IfSome o (λ bytes. FailsOrRunsOut error (projected_footer_in picks bytes))
    all None h = tt
    all (Some bytes) h = λ known. h ∙ ap (λ (x : List ℕ). footer_before picks x position) (sym same) ∙ fails known

pub footer_fails : (o : Option (List ℕ)) (picks : ProjectionModel) (e : ReadError) → DecodesAs as_span footer_span o (Err e) → FooterIn picks o (Err e)
footer_fails None picks e h = tt
footer_fails (Some xs) picks (Ipc error) h = λ known. file_by_span picks xs ∙ ap (by_place picks xs) (h known)
footer_fails (Some xs) picks (Io e) h = tt

pub footer_unread : (o : Option (List ℕ)) (picks : ProjectionModel) (e : ReadError) → IsReadFailure e → FooterIn picks o (Err e)
footer_unread o picks e h = unread as_footer (projected_footer_in picks) o e h

-- ---- dictionary batches

-- the state after blocks is that of the blocks left
abbrev pub IsUnderWay : Option (List ℕ) → StateTree → StateTree → List Block → ℕ → Type 0
IsUnderWay o first s blocks i = IfSome o (λ bytes. dictionaries_at s bytes (drop i blocks) ≡ dictionaries_at first bytes blocks)

abbrev pub nth : List Block → ℕ → Block
nth blocks i = get_or blocks i no_block

-- these are the bytes of the block at an index
abbrev pub AreOwn : Option (List ℕ) → List Block → ℕ → List ℕ → Type 0
AreOwn o blocks i own = IfSome o (λ bytes. own ≡ spec_block_bytes bytes (nth blocks i))

abbrev then_others : List ℕ → List Block → Result StateTree read_errors.IpcReadError → Result StateTree read_errors.IpcReadError
then_others bytes others read = read >>= λ known. dictionaries_at known bytes others

one_more : (s : StateTree) (bytes : List ℕ) (blocks : List Block) (i : ℕ) → i < length blocks → dictionaries_at s bytes (drop i blocks) ≡ then_others bytes (drop (i + 1) blocks) (dictionary_in_block s (spec_block_bytes bytes (nth blocks i)) (nth blocks i))
unfolding dictionaries_at
one_more s bytes blocks i lt = rw (drop_more blocks i no_block lt) refl

none_more : (s : StateTree) (bytes : List ℕ) (blocks : List Block) (i : ℕ) → length blocks ≤ i → dictionaries_at s bytes (drop i blocks) ≡ Ok s
unfolding dictionaries_at
none_more s bytes blocks i le = rw (drop_all i blocks le) refl

-- the dictionary batch of the block at an index, by its bytes
by_own : (first s : StateTree) (bytes : List ℕ) (blocks : List Block) (i : ℕ) (own : List ℕ) (read : Result StateTree read_errors.IpcReadError) → i < length blocks → own ≡ spec_block_bytes bytes (nth blocks i) → dictionary_in_block s own (nth blocks i) ≡ read
    → dictionaries_at s bytes (drop i blocks) ≡ dictionaries_at first bytes blocks → dictionaries_at first bytes blocks ≡ then_others bytes (drop (i + 1) blocks) read
by_own first s bytes blocks i own read lt is reads so_far =
    let here : dictionary_in_block s (spec_block_bytes bytes (nth blocks i)) (nth blocks i) ≡ read = ap (λ (x : List ℕ). dictionary_in_block s x (nth blocks i)) (sym is) ∙ reads in
    sym so_far ∙ one_more s bytes blocks i lt ∙ ap (then_others bytes (drop (i + 1) blocks)) here

fails_now : (o : Option (List ℕ)) (first s : StateTree) (blocks : List Block) (i : ℕ) (own : List ℕ) (error : read_errors.IpcReadError) → i < length blocks → AreOwn o blocks i own → FailsOrRunsOut error (dictionary_in_block s own (nth blocks i)) → IsUnderWay o first s blocks i
    → IfSome o (λ bytes. FailsOrRunsOut error (dictionaries_at first bytes blocks))
fails_now None first s blocks i own error lt is fails so_far = tt
fails_now (Some bytes) first s blocks i own error lt is fails so_far = λ known. by_own first s bytes blocks i own (Err error) lt is (fails known) so_far

goes_now : (o : Option (List ℕ)) (first s t : StateTree) (blocks : List Block) (i : ℕ) (own : List ℕ) → i < length blocks → AreOwn o blocks i own → dictionary_in_block s own (nth blocks i) ≡ Ok t → IsUnderWay o first s blocks i → IsUnderWay o first t blocks (i + 1)
goes_now None first s t blocks i own lt is reads so_far = tt
goes_now (Some bytes) first s t blocks i own lt is reads so_far = sym (by_own first s bytes blocks i own (Ok t) lt is reads so_far)

all_read : (o : Option (List ℕ)) (first s : StateTree) (blocks : List Block) (i : ℕ) → length blocks ≤ i → IsUnderWay o first s blocks i → IfSome o (λ bytes. dictionaries_at first bytes blocks ≡ Ok s)
all_read None first s blocks i le so_far = tt
all_read (Some bytes) first s blocks i le so_far = sym so_far ∙ none_more s bytes blocks i le

module _ (a b : Option (List ℕ)) (first s : StateTree) (blocks : List Block) (i : ℕ) where
  pub dictionary_fails : (own : List ℕ) (error : read_errors.IpcReadError) (t : StateTree) → i < length blocks → Keeps a b → AreOwn b blocks i own → FailsOrRunsOut error (dictionary_in_block s own (nth blocks i)) → IsUnderWay a first s blocks i
      → DecodesAs {X = Unit {0}} (λ bytes done. t) (λ bytes. dictionaries_at first bytes blocks) a (Err (Ipc error))
  dictionary_fails own error t lt kept is fails so_far =
      faulty {X = Unit {0}} (λ bytes done. t) (λ bytes. dictionaries_at first bytes blocks) a error (fails_now a first s blocks i own error lt (known_still (λ bytes. own ≡ spec_block_bytes bytes (nth blocks i)) a b kept is) fails so_far)

  pub dictionary_goes_on : (own : List ℕ) (t : StateTree) → i < length blocks → Keeps a b → AreOwn b blocks i own → dictionary_in_block s own (nth blocks i) ≡ Ok t → IsUnderWay a first s blocks i → IsUnderWay a first t blocks (i + 1)
  dictionary_goes_on own t lt kept is read so_far = goes_now a first s t blocks i own lt (known_still (λ bytes. own ≡ spec_block_bytes bytes (nth blocks i)) a b kept is) read so_far

pub dictionaries_end : (o : Option (List ℕ)) (first s : StateTree) (blocks : List Block) (i : ℕ) → length blocks ≤ i → IsUnderWay o first s blocks i → DecodesAs {X = Unit {0}} (λ bytes done. s) (λ bytes. dictionaries_at first bytes blocks) o (Ok tt)
dictionaries_end o first s blocks i le so_far = answered {X = Unit {0}} (λ bytes done. s) (λ bytes. dictionaries_at first bytes blocks) o tt (all_read o first s blocks i le so_far)

pub dictionaries_unread : (o : Option (List ℕ)) (first t : StateTree) (blocks : List Block) (e : ReadError) → IsReadFailure e → DecodesAs {X = Unit {0}} (λ bytes done. t) (λ bytes. dictionaries_at first bytes blocks) o (Err e)
dictionaries_unread o first t blocks e h = unread {X = Unit {0}} (λ bytes done. t) (λ bytes. dictionaries_at first bytes blocks) o e h

-- ---- the reader

-- the footer of known bytes
abbrev pub HasFooter : ProjectionModel → Option (List ℕ) → ProjectedFooterModel → Type 0
HasFooter picks o f = IfSome o (λ bytes. projected_footer_in picks bytes ≡ Ok f)

abbrev opened : StateTree → List Block → List ℕ → SliceFileReaderTree
opened s blocks bytes = record { state = s; bytes = bytes; blocks = blocks }

pub front_is : (a b : Option (List ℕ)) (picks : ProjectionModel) (f : ProjectedFooterModel) (s t : StateTree) → Keeps a b → HasFooter picks a f → s ≡ start f.picked → DecodesAs {X = Unit {0}} (λ bytes done. t) (λ bytes. dictionaries_at s bytes f.dictionaries) b (Ok tt)
    → IfSome a (λ bytes. file_reader_in picks bytes ≡ Ok (opened t f.batches bytes))
unfolding file_reader_in
front_is None b picks f s t kept footer is all = tt
front_is (Some xs) None picks f s t kept footer is all = absurd kept
front_is (Some xs) (Some ys) picks f s t kept footer is all =
    let known : dictionaries_at (start f.picked) xs f.dictionaries ≡ Ok t = ap (λ (x : StateTree). dictionaries_at x xs f.dictionaries) (sym is) ∙ ap (λ (x : List ℕ). dictionaries_at s x f.dictionaries) (sym kept) ∙ all in
    rw (footer, known) refl

pub front_fails : {X : Type 0} (view : List ℕ → X → SliceFileReaderTree) (a b : Option (List ℕ)) (picks : ProjectionModel) (f : ProjectedFooterModel) (s t : StateTree) (e : ReadError) → Keeps a b → HasFooter picks a f → s ≡ start f.picked
    → DecodesAs {X = Unit {0}} (λ bytes done. t) (λ bytes. dictionaries_at s bytes f.dictionaries) b (Err e) → DecodesAs view (file_reader_in picks) a (Err e)
unfolding file_reader_in
front_fails view None b picks f s t e kept footer is fails = tt
front_fails view (Some xs) None picks f s t e kept footer is fails = absurd kept
front_fails view (Some xs) (Some ys) picks f s t (Ipc error) kept footer is fails =
    λ real.
    let known : dictionaries_at (start f.picked) xs f.dictionaries ≡ Err error = ap (λ (x : StateTree). dictionaries_at x xs f.dictionaries) (sym is) ∙ ap (λ (x : List ℕ). dictionaries_at s x f.dictionaries) (sym kept) ∙ fails real in
    rw (footer, known) refl
front_fails view (Some xs) (Some ys) picks f s t (Io e) kept footer is fails = tt

pub no_footer : {X : Type 0} (next : List ℕ → X → SliceFileReaderTree) (o : Option (List ℕ)) (picks : ProjectionModel) (e : ReadError) → FooterIn picks o (Err e) → DecodesAs next (file_reader_in picks) o (Err e)
unfolding file_reader_in
no_footer next None picks e h = tt
no_footer next (Some xs) picks (Ipc error) h = λ known. rw (h known) refl
no_footer next (Some xs) picks (Io e) h = tt

has_footer : (o : Option (List ℕ)) (picks : ProjectionModel) (f : ProjectedFooter) → FooterIn picks o (Ok f) → HasFooter picks o (projected_footer_of f)
has_footer None picks f h = tt
has_footer (Some xs) picks f h = h

-- the same value, seen otherwise
pub seen : {X Z Y : Type 0} (view : List ℕ → X → Y) (other : List ℕ → Z → Y) (read : List ℕ → Result Y read_errors.IpcReadError) (o : Option (List ℕ)) (x : X) (z : Z) → DecodesAs view read o (Ok x) → ((bytes : List ℕ) → view bytes x ≡ other bytes z) → DecodesAs other read o (Ok z)
seen view other read None x z h same = tt
seen {Y = Y} view other read (Some bytes) x z h same = h ∙ ap (λ (y : Y). Ok y) (same bytes)

pub same_err : {X Z Y : Type 0} (view : List ℕ → X → Y) (other : List ℕ → Z → Y) (read : List ℕ → Result Y read_errors.IpcReadError) (o : Option (List ℕ)) (e : ReadError) → DecodesAs view read o (Err e) → DecodesAs other read o (Err e)
same_err view other read None e h = tt
same_err view other read (Some bytes) (Ipc error) h = h
same_err view other read (Some bytes) (Io e) h = tt

pub front_read : {X : Type 0} (view : List ℕ → X → SliceFileReaderTree) (x : X) (a b : Option (List ℕ)) (picks : ProjectionModel) (f : ProjectedFooter) (s t : StateTree) → Keeps a b → FooterIn picks a (Ok f) → s ≡ start (projected_schema_of f.picked)
    → DecodesAs {X = Unit {0}} (λ bytes done. t) (λ bytes. dictionaries_at s bytes f.dictionaries.items) b (Ok tt) → ((bytes : List ℕ) → opened t f.batches.items bytes ≡ view bytes x) → DecodesAs view (file_reader_in picks) a (Ok x)
front_read view x a b picks f s t kept footer is known same = all a (front_is a b picks (projected_footer_of f) s t kept (has_footer a picks f footer) is known)
  where
    all : (o : Option (List ℕ)) → IfSome o (λ bytes. file_reader_in picks bytes ≡ Ok (opened t f.batches.items bytes)) → DecodesAs view (file_reader_in picks) o (Ok x)
    all None h = tt
    all (Some bytes) h = h ∙ ap (λ (r : SliceFileReaderTree). Ok r) (same bytes)

pub front_faulty : {X : Type 0} (view : List ℕ → X → SliceFileReaderTree) (a b : Option (List ℕ)) (picks : ProjectionModel) (f : ProjectedFooter) (s t : StateTree) (e : ReadError) → Keeps a b → FooterIn picks a (Ok f) → s ≡ start (projected_schema_of f.picked)
    → DecodesAs {X = Unit {0}} (λ bytes done. t) (λ bytes. dictionaries_at s bytes f.dictionaries.items) b (Err e) → DecodesAs view (file_reader_in picks) a (Err e)
front_faulty view a b picks f s t e kept footer is fails = front_fails view a b picks (projected_footer_of f) s t e kept (has_footer a picks f footer) is fails

-- ---- record batches

module _ {R : Type 0} (position : R → Option ℕ) (bytes : R → Option (List ℕ)) where
  -- a reader is unchanged, except for the position of the inner reader
  pub was_kept : (old : FileReaderTree R) (reader new : R) (s : StateTree) (blocks : List Block) → record { inner = reader; state = s; blocks = blocks } ≡ old → Keeps (bytes_of position bytes reader) (bytes_of position bytes new)
      → IsUnchanged position bytes old (record { inner = new; state = s; blocks = blocks })
  was_kept old reader new s blocks e kept = subst (λ (r : FileReaderTree R). IsUnchanged position bytes r (record { inner = new; state = s; blocks = blocks })) e (refl, refl, kept)

  pub batch_unread : (r : FileReaderTree R) (i : ℕ) (e : ReadError) → IsReadFailure e → ReadsBatch position bytes i r (Err e)
  batch_unread r i e h = unread as_batch (λ xs. batch_of_file (of_bytes xs r) i) (bytes_of position bytes r.inner) e h

  -- the block at the index
  pub block_there : (old : FileReaderTree R) (reader : R) (s : StateTree) (blocks : List Block) (i : ℕ) (b : Block) → record { inner = reader; state = s; blocks = blocks } ≡ old → i < length old.blocks → b ≡ get_or blocks i b → b ≡ nth blocks i
  block_there old reader s blocks i b e lt is =
      let within : i < length blocks = subst (λ (r : FileReaderTree R). i < length r.blocks) (sym e) lt in
      is ∙ get_or_default blocks i b no_block within

  pub batch_is : (old : FileReaderTree R) (reader : R) (s : StateTree) (blocks : List Block) (i : ℕ) (b : Block) (own part : List ℕ) (batch : Batch) → record { inner = reader; state = s; blocks = blocks } ≡ old → b ≡ nth blocks i → IfSome (bytes_of position bytes reader) (λ xs. own ≡ spec_block_bytes xs b) → part ≡ own
      → batch_in_block s part b ≡ Ok (record_batch_of batch) → ReadsBatch position bytes i old (Ok batch)
  batch_is old reader s blocks i b own part batch e there is same read =
      subst (λ (r : FileReaderTree R). ReadsBatch position bytes i r (Ok batch)) e (given (bytes_of position bytes reader) is)
    where
      given : (o : Option (List ℕ)) → IfSome o (λ xs. own ≡ spec_block_bytes xs b) → DecodesAs as_batch (λ xs. batch_of_file (opened s blocks xs) i) o (Ok batch)
      given None h = tt
      given (Some xs) h = ap (λ (x : Block). batch_in_block s (spec_block_bytes xs x) x) (sym there) ∙ ap (λ (x : List ℕ). batch_in_block s x b) (sym h ∙ sym same) ∙ read

  pub batch_fails : (old : FileReaderTree R) (reader : R) (s : StateTree) (blocks : List Block) (i : ℕ) (b : Block) (own part : List ℕ) (error : read_errors.IpcReadError) → record { inner = reader; state = s; blocks = blocks } ≡ old → b ≡ nth blocks i → IfSome (bytes_of position bytes reader) (λ xs. own ≡ spec_block_bytes xs b) → part ≡ own
      → FailsOrRunsOut error (batch_in_block s part b) → ReadsBatch position bytes i old (Err (Ipc error))
  batch_fails old reader s blocks i b own part error e there is same fails =
      subst (λ (r : FileReaderTree R). ReadsBatch position bytes i r (Err (Ipc error))) e (given (bytes_of position bytes reader) is)
    where
      given : (o : Option (List ℕ)) → IfSome o (λ xs. own ≡ spec_block_bytes xs b) → DecodesAs as_batch (λ xs. batch_of_file (opened s blocks xs) i) o (Err (Ipc error))
      given None h = tt
      given (Some xs) h = λ known. ap (λ (x : Block). batch_in_block s (spec_block_bytes xs x) x) (sym there) ∙ ap (λ (x : List ℕ). batch_in_block s x b) (sym h ∙ sym same) ∙ fails known
