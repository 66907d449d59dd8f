-- Batches that are read one after another.
use Rattle.std.proofs.Common.{◌≡◌, ◌∙◌, ℕ, List, [], ◌∷◌, ◌++◌, Option, Some, None, Result, Ok, Err, refl, sym, ap, subst, append_assoc, append-nil}
use Rattle.std.specs.Prelude.{IfErr, IfOk, unwrap_or, ⊤}
use Rattle.std.specs.Option.{option_map}
use Rattle.std.specs.Io.KnownBytes.{Keeps}
use Rattle.ipc_flatbuf.specs.ReadResults.{FailsOrRunsOut}
use Rattle.ipc_flatbuf.specs.declared.error.IpcReadError as read_errors
use Rattle.ipc_io.specs.BatchInfos.{record_batches}
use Rattle.ipc_io.specs.Fetched.{IsReadFailure}
use Rattle.ipc_io.specs.Infos.{HasErrorAfter, InfoList, InfoTree, IsFirstError, ReadsInfo, ReadsInfos, ReturnsDecoded, broken, complete, info_tree, joined, joined_by, prefixed}
use Rattle.ipc_io.specs.declared.batch_info.BatchInfo.{BatchInfo}
use Rattle.ipc_io.specs.declared.error.ReadError.{ReadError}
use Rattle.ipc_io.specs.declared.error.ReadError.TheVariants.{Ipc, Io}
use Rattle.ipc_io.specs.declared.info.InfoError.{InfoError}
use Rattle.ipc_io.specs.declared.info.IpcInfo.{IpcInfo}

abbrev Bytes : Type 0
Bytes = Option (List ℕ)

abbrev Infos : Type 0
Infos = List BatchInfo

abbrev Error : Type 0
Error = read_errors.IpcReadError

abbrev with_error : Option Error → Infos → InfoList
with_error error infos = record { read = infos; error = error }

prefixed-none : (others : InfoList) → prefixed [] others ≡ others
prefixed-none others = refl

prefixed-more : (infos : Infos) (info : BatchInfo) (others : InfoList) → prefixed infos (prefixed (info ∷ []) others) ≡ prefixed (infos ++ info ∷ []) others
prefixed-more infos info others = ap (with_error others.error) (sym (append_assoc infos (info ∷ []) others.read))

prefixed-end : (infos : Infos) → prefixed infos (complete []) ≡ complete infos
prefixed-end infos = ap complete (append-nil infos)

prefixed-broken : (infos : Infos) (error : Error) → prefixed infos (broken [] error) ≡ broken infos error
prefixed-broken infos error = ap (with_error (Some error)) (append-nil infos)

-- ---- batch by batch

-- a list is the batches that were read, and the rest
abbrev pub Goes : Option InfoList → Infos → Option InfoList → Type 0
Goes None infos rest = Unit {0}
Goes (Some whole) infos None = ⊥
Goes (Some whole) infos (Some rest) = whole ≡ prefixed infos rest

pub goes_first : (old : Infos) (read : List ℕ → InfoList) (o : Bytes) → Goes (option_map (λ xs. prefixed old (read xs)) o) old (option_map read o)
goes_first old read None = tt
goes_first old read (Some xs) = refl

pub goes_on : (whole rest next : Option InfoList) (infos after : Infos) (info : BatchInfo) → Goes whole infos rest → ReadsInfo rest next (Ok (Some info)) → after ≡ infos ++ info ∷ [] → Goes whole after next
goes_on None rest next infos after info g r e = tt
goes_on (Some whole) None next infos after info g r e = absurd g
goes_on (Some whole) (Some rest) None infos after info g r e = absurd r
goes_on (Some whole) (Some rest) (Some next) infos after info g r e = g ∙ ap (prefixed infos) r ∙ prefixed-more infos info next ∙ ap (λ (is : Infos). prefixed is next) (sym e)

pub goes_to_end : (whole rest next : Option InfoList) (infos : Infos) → Goes whole infos rest → ReadsInfo rest next (Ok None) → ReadsInfos whole infos (Ok tt)
goes_to_end None rest next infos g r = tt
goes_to_end (Some whole) None next infos g r = absurd g
goes_to_end (Some whole) (Some rest) None infos g r = absurd r
goes_to_end (Some whole) (Some rest) (Some next) infos g r = g ∙ ap (prefixed infos) r ∙ prefixed-end infos

pub goes_wrong : (whole rest next : Option InfoList) (infos : Infos) (e : ReadError) → Goes whole infos rest → ReadsInfo rest next (Err e) → ReadsInfos whole infos (Err e)
goes_wrong None rest next infos e g r = tt
goes_wrong (Some whole) None next infos e g r = absurd g
goes_wrong (Some whole) (Some rest) next infos (Ipc error) g r = λ known. g ∙ ap (prefixed infos) (r known) ∙ prefixed-broken infos error
goes_wrong (Some whole) (Some rest) next infos (Io e) g r = tt

-- the reader failed, or an allocation did
pub infos_unread : (whole : Option InfoList) (infos : Infos) (e : ReadError) → IsReadFailure e → ReadsInfos whole infos (Err e)
infos_unread None infos e h = tt
infos_unread (Some whole) infos (Ipc error) h = λ known. absurd (known h)
infos_unread (Some whole) infos (Io e) h = tt

-- ---- a list after another

joined-more : (old infos : Infos) (first others : InfoList) → prefixed old first ≡ complete infos → prefixed old (joined first others) ≡ prefixed infos others
joined-more old infos first others h =
    let none : first.error ≡ None = ap (λ (l : InfoList). l.error) h in
    let all : old ++ first.read ≡ infos = ap (λ (l : InfoList). l.read) h in
    ap (λ (e : Option Error). prefixed old (joined_by first.read e others)) none
    ∙ ap (with_error others.error) (sym (append_assoc old first.read others.read))
    ∙ ap (λ (is : Infos). prefixed is others) all

joined-broken : (old infos : Infos) (first others : InfoList) (error : Error) → prefixed old first ≡ broken infos error → prefixed old (joined first others) ≡ broken infos error
joined-broken old infos first others error h =
    let some : first.error ≡ Some error = ap (λ (l : InfoList). l.error) h in
    let all : old ++ first.read ≡ infos = ap (λ (l : InfoList). l.read) h in
    ap (λ (e : Option Error). prefixed old (joined_by first.read e others)) some
    ∙ ap (with_error (Some error)) all

module _ (old mid : Infos) (first others : List ℕ → InfoList) where
  pub joined_goes : (a b : Bytes) (infos : Infos) (result : Result ⊤ ReadError) → ReadsInfos (option_map (λ xs. prefixed old (first xs)) a) mid (Ok tt) → Keeps a b → ReadsInfos (option_map (λ xs. prefixed mid (others xs)) b) infos result
      → ReadsInfos (option_map (λ xs. prefixed old (joined (first xs) (others xs))) a) infos result
  joined_goes None b infos result one kept two = tt
  joined_goes (Some xs) None infos result one kept two = absurd kept
  joined_goes (Some xs) (Some ys) infos result one kept two =
      let same : prefixed old (joined (first xs) (others xs)) ≡ prefixed mid (others ys) = joined-more old mid (first xs) (others xs) one ∙ ap (λ (zs : List ℕ). prefixed mid (others zs)) (sym kept) in
      subst (λ (whole : InfoList). ReadsInfos (Some whole) infos result) (sym same) two

  pub joined_fails : (a : Bytes) (e : ReadError) → ReadsInfos (option_map (λ xs. prefixed old (first xs)) a) mid (Err e) → ReadsInfos (option_map (λ xs. prefixed old (joined (first xs) (others xs))) a) mid (Err e)
  joined_fails None e one = tt
  joined_fails (Some xs) (Ipc error) one = λ known. joined-broken old mid (first xs) (others xs) error (one known)
  joined_fails (Some xs) (Io e) one = tt

-- ---- what is returned

-- what was read, or the first error and the record batch that has it
abbrev pub Returned : ℕ → Infos → Result ⊤ ReadError → Result IpcInfo InfoError → Type 0
Returned columns infos read result =
    IfOk result (λ info. (read ≡ Ok tt) × (info.columns ≡ columns) × (info.batches.items ≡ infos))
    × IfErr result (λ stop. (read ≡ Err stop.error) × (stop.batch ≡ Some (record_batches infos)))

module _ (decoded : Result InfoTree Error) (columns : ℕ) (l : InfoList) (infos : Infos) (is : decoded ≡ Ok (record { columns = columns; batches = l })) where
  abbrev tree : ℕ → InfoList → Result InfoTree Error
  tree n batches = Ok (record { columns = n; batches = batches })

  first-error : (batch : Option ℕ) (e : ReadError) → batch ≡ Some (record_batches infos) → ReadsInfos (Some l) infos (Err e) → IsFirstError decoded batch e
  first-error None e at h = absurd cc
  first-error (Some k) (Ipc error) at h = λ known.
      let there : k ≡ record_batches infos = ap (λ (o : Option ℕ). unwrap_or o 0) at in
      let stops : l ≡ broken infos error = h known in
      subst (HasErrorAfter k error) (sym is) (ap (λ (x : InfoList). x.error) stops, there ∙ ap (λ (x : InfoList). record_batches x.read) (sym stops))
  first-error (Some k) (Io e) at h = tt

  pub returned : (read : Result ⊤ ReadError) (result : Result IpcInfo InfoError) → ReadsInfos (Some l) infos read → Returned columns infos read result → ReturnsDecoded decoded result
  returned read (Ok info) h r =
      let whole : l ≡ complete infos = subst (ReadsInfos (Some l) infos) r.0.0 h in
      is ∙ ap (tree columns) (whole ∙ ap complete (sym r.0.2)) ∙ ap (λ (n : ℕ). tree n (complete info.batches.items)) (sym r.0.1)
  returned read (Err stop) h r = first-error stop.batch stop.error r.1.1 (subst (ReadsInfos (Some l) infos) r.1.0 h)
