-- Steps of copying record batches.
use Rattle.std.proofs.Common.{◌≡◌, ◌⊎◌, inl, inr, ℕ, ◌+◌, true, false, List, [], ◌∷◌, ◌++◌, length, Option, Some, None, Ok, Err, sym, ap, ◌∙◌, subst, append_assoc, append-nil, length-append}
use Rattle.std.specs.Prelude.{Result}
use Rattle.std.specs.Option.{option_map}
use Rattle.std.specs.Io.KnownBytes.{Appends}
use Rattle.nest_memory.specs.TypeTree.{FieldTree}
use Rattle.ipc_flatbuf.specs.declared.error.IpcReadError as formats
use Rattle.ipc_flatbuf.specs.declared.error.IpcWriteError as reasons
use Rattle.ipc_schema.specs.Schemas.{SchemaModel}
use Rattle.ipc.specs.Streams.{RecordBatchTree, column_types}
use Rattle.ipc.specs.EncodedStreams.{IsErrorOrMemory, batches_error, or_error, schema_error}
use Rattle.ipc.specs.EncodedFiles.{file_batches_error, file_state_start, footer_error, written_footer}
use Rattle.ipc.specs.EncodedBatches.{first_refused}
use Rattle.cli_rows.specs.ColumnNames.{spec_selection_error}
use Rattle.cli_rows.specs.declared.error.CliError.{CliError}
use Rattle.cli_read.specs.Decoded.{Decoded, table_with}
use Rattle.cli_rows.specs.declared.error.BatchError.{BatchError}
use Rattle.cli_read.specs.Remaining.{FailsToReadNext, FailsToOpen, ReturnsNext, StartsEmpty, IsOpened, IsReadErrorOf, Remaining, with_schema}
use Rattle.cli_read.specs.RowBuffers.{IsAfter, table_of_batches}
use Rattle.cli_read.proofs.BufferSteps.{behind-error, behind-first, behind-more, behind-none as none-behind, behind-whole, fits-last, held-at}
use Rattle.cli_rows.specs.Encodings.{IsEncodingOf, write_refusal}
use Rattle.cli_rows.specs.Tables.{TableTree}
use Rattle.cli_rows.specs.Output.{HasTable}
use Rattle.cli_rows.specs.SelectedTables.{batch_rows}
use Rattle.cli_rows.specs.declared.error.CliError.TheVariants as causes
use Rattle.cli_args.specs.Requests.{SelectionTree}
use Rattle.cli_args.specs.declared.format.Format as forms
use Rattle.cli_write.specs.RemainingSelections.{AreSelectedBatches, IsBatchSelectionError}
use Rattle.cli_rows.specs.RowOrder.{IsInRowOrder, is_complete_selection, remaining_selection}
use Rattle.cli_write.specs.Copies.{HasSufficientBatches, Copies, IsCopy, HasSelectedRows, IsWriteRefusal, FailsWhileCopying, IsCopyError}
use Rattle.cli_write.specs.Writers.{FailsFinish, FailsBatch, FailsBatches, FailsSchema, HasWritten, WritesTableBatches}
use Rattle.cli_write.specs.CopyStates.{CopyEnd, CopyState, FailsNextBatch, FailsToWriteSelection, FailsAfterBatches, IsCopyStateError, WritesSelection}
use Rattle.cli_write.specs.declared.writer.BatchWriter.{BatchWriter}
use Rattle.cli_rows.proofs.RemainingSelections.{remaining-error, remaining-none, remaining-twice}
use Rattle.cli_write.proofs.Lists.{IsOfCondition, rows-both, copied-more, copied-none, enough, is-copy, no-place, not-enough, of-condition}

pub held-why : (error : CliError) (c : SelectionTree) (form : forms.Format) (front : List RecordBatchTree) (read : Result TableTree formats.IpcReadError) → IsReadErrorOf error read → IsCopyError error c form front read
held-why (causes.Read error) c form front read h = h
held-why causes.Input c form front read h = tt
held-why causes.Memory c form front read h = tt
held-why causes.Output c form front read h = tt
held-why (causes.Write why) c form front read h = absurd h
held-why causes.MismatchedColumns c form front read h = absurd h
held-why causes.IndexOutOfRange c form front read h = absurd h
held-why (causes.Condition why) c form front read h = absurd h
held-why (causes.UnknownName i) c form front read h = absurd h

next-stops : (error : CliError) (c : SelectionTree) (form : forms.Format) (front : List RecordBatchTree) (s : SchemaModel) (t u : Remaining) (k : ℕ) (bs : List RecordBatchTree) → IsAfter t k bs u → IsReadErrorOf error (u.first 1) → IsCopyError error c form front (table_with s (t.first (k + 1)))
next-stops (causes.Read error) c form front s t u k bs at h = behind-error (causes.Read error) s t u k bs at (λ real. ap (table_with s) (h real))
next-stops causes.Input c form front s t u k bs at h = tt
next-stops causes.Memory c form front s t u k bs at h = tt
next-stops causes.Output c form front s t u k bs at h = tt
next-stops (causes.Write why) c form front s t u k bs at h = absurd h
next-stops causes.MismatchedColumns c form front s t u k bs at h = absurd h
next-stops causes.IndexOutOfRange c form front s t u k bs at h = absurd h
next-stops (causes.Condition why) c form front s t u k bs at h = absurd h
next-stops (causes.UnknownName i) c form front s t u k bs at h = absurd h

batch-stops : (error : CliError) (c : SelectionTree) (form : forms.Format) (front : List RecordBatchTree) (s : SchemaModel) (came : List RecordBatchTree) (b : RecordBatchTree) (k : ℕ) → IsInRowOrder c → IsBatchSelectionError error (remaining_selection c k) s.fields (b ∷ []) → IsCopyError error c form front (Ok (table_of_batches s (came ++ b ∷ [])))
batch-stops (causes.Read error) c form front s came b k order h = λ real. absurd (h real)
batch-stops (causes.Condition why) c form front s came b k order h = sym (remaining-error c k s.fields) ∙ h
batch-stops (causes.UnknownName i) c form front s came b k order h = absurd h
batch-stops causes.MismatchedColumns c form front s came b k order h = λ fit. h (fits-last s.fields came (b ∷ []) fit)
batch-stops causes.IndexOutOfRange c form front s came b k order h = no-place c k (batch_rows s.fields (b ∷ [])) order h
batch-stops causes.Memory c form front s came b k order h = tt
batch-stops causes.Input c form front s came b k order h = absurd h
batch-stops causes.Output c form front s came b k order h = absurd h
batch-stops (causes.Write why) c form front s came b k order h = absurd h

part-stops : (error : CliError) (c : SelectionTree) (form : forms.Format) (front : List RecordBatchTree) (s : SchemaModel) (came went : List RecordBatchTree) → IsCopy c (table_of_batches s came) (table_of_batches s went) → FailsBatches error form s (front ++ went) → IsCopyError error c form front (Ok (table_of_batches s came))
part-stops (causes.Write why) c form front s came went copy h = (table_of_batches s went, copy, h)
part-stops causes.Output c form front s came went copy h = tt
part-stops causes.Input c form front s came went copy h = tt
part-stops causes.Memory c form front s came went copy h = tt
part-stops (causes.Read error) c form front s came went copy h = absurd h
part-stops causes.MismatchedColumns c form front s came went copy h = absurd h
part-stops causes.IndexOutOfRange c form front s came went copy h = absurd h
part-stops (causes.Condition why) c form front s came went copy h = absurd h
part-stops (causes.UnknownName i) c form front s came went copy h = absurd h

end-stops : (error : CliError) (c : SelectionTree) (form : forms.Format) (front : List RecordBatchTree) (s : SchemaModel) (came went : List RecordBatchTree) → IsCopy c (table_of_batches s came) (table_of_batches s went) → FailsFinish error form s (front ++ went) → IsCopyError error c form front (Ok (table_of_batches s came))
end-stops (causes.Write why) c form front s came went copy h = (table_of_batches s went, copy, inl h)
end-stops causes.Output c form front s came went copy h = tt
end-stops causes.Input c form front s came went copy h = tt
end-stops causes.Memory c form front s came went copy h = tt
end-stops (causes.Read error) c form front s came went copy h = absurd h
end-stops causes.MismatchedColumns c form front s came went copy h = absurd h
end-stops causes.IndexOutOfRange c form front s came went copy h = absurd h
end-stops (causes.Condition why) c form front s came went copy h = absurd h
end-stops (causes.UnknownName i) c form front s came went copy h = absurd h

pub empty-refused : (form : forms.Format) (s : SchemaModel) (why : reasons.IpcWriteError) → IsErrorOrMemory (schema_error s) why → IsErrorOrMemory (write_refusal form (table_of_batches s [])) why
empty-refused forms.TheVariants.Stream s why h = first_refused (schema_error s) (batches_error (column_types s) [] []) why h
empty-refused forms.TheVariants.File s why h = first_refused (schema_error s) (or_error (file_batches_error (column_types s) (file_state_start s) []) (footer_error (written_footer s []))) why h

schema-stops : (error : CliError) (c : SelectionTree) (form : forms.Format) (s : SchemaModel) → IsCopy c (table_of_batches s []) (table_of_batches s []) → FailsSchema error (schema_error s) → IsCopyError error c form [] (Ok (table_of_batches s []))
schema-stops (causes.Write why) c form s copy h = (table_of_batches s [], copy, inl (empty-refused form s why h))
schema-stops causes.Output c form s copy h = tt
schema-stops causes.Input c form s copy h = tt
schema-stops causes.Memory c form s copy h = tt
schema-stops (causes.Read error) c form s copy h = absurd h
schema-stops causes.MismatchedColumns c form s copy h = absurd h
schema-stops causes.IndexOutOfRange c form s copy h = absurd h
schema-stops (causes.Condition why) c form s copy h = absurd h
schema-stops (causes.UnknownName i) c form s copy h = absurd h

column-stops : (r : CliError) (c : SelectionTree) (form : forms.Format) (s : SchemaModel) → IsOfCondition r → spec_selection_error c s.fields ≡ Some r → IsCopyError r c form [] (Ok (table_of_batches s []))
column-stops (causes.Condition why) c form s is h = h
column-stops (causes.UnknownName i) c form s is h = absurd is
column-stops (causes.Read error) c form s is h = absurd is
column-stops (causes.Write why) c form s is h = absurd is
column-stops causes.MismatchedColumns c form s is h = absurd is
column-stops causes.IndexOutOfRange c form s is h = absurd is
column-stops causes.Memory c form s is h = absurd is
column-stops causes.Input c form s is h = absurd is
column-stops causes.Output c form s is h = absurd is

pub part-of : (error : CliError) (form : forms.Format) (s : SchemaModel) (went : List RecordBatchTree) (b : RecordBatchTree) (more all : List RecordBatchTree) → all ≡ went ++ b ∷ more → FailsBatch error form s went b → FailsBatches error form s all
part-of (causes.Write why) form s went b more all e h = subst (λ (bs : List RecordBatchTree). IsWriteRefusal form (table_of_batches s bs) why) (sym e) (h more)
part-of causes.Output form s went b more all e h = tt
part-of causes.Input form s went b more all e h = absurd h
part-of causes.Memory form s went b more all e h = absurd h
part-of (causes.Read error) form s went b more all e h = absurd h
part-of causes.MismatchedColumns form s went b more all e h = absurd h
part-of causes.IndexOutOfRange form s went b more all e h = absurd h
part-of (causes.Condition why) form s went b more all e h = absurd h
part-of (causes.UnknownName i) form s went b more all e h = absurd h

read-stops : (error : CliError) (c : SelectionTree) (form : forms.Format) (front : List RecordBatchTree) (s : SchemaModel) (read : Result (List RecordBatchTree) formats.IpcReadError) (bs : List RecordBatchTree) → read ≡ Ok bs → IsCopyError error c form front (Ok (table_of_batches s bs)) → IsCopyError error c form front (table_with s read)
read-stops error c form front s read bs e h = subst (λ (r : Result (List RecordBatchTree) formats.IpcReadError). IsCopyError error c form front (table_with s r)) (sym e) h

none-enough : (c : SelectionTree) (s : SchemaModel) (read : Result (List RecordBatchTree) formats.IpcReadError) (bs : List RecordBatchTree) → read ≡ Ok bs → (HasSelectedRows c (table_of_batches s bs) → ⊥) → HasTable (table_with s read) (λ h. HasSelectedRows c h → ⊥)
none-enough c s read bs e few = held-at s bs read (λ h. HasSelectedRows c h → ⊥) e few

rest-more : (c : SelectionTree) (s : SchemaModel) (bs : List RecordBatchTree) (b : RecordBatchTree) (now : SelectionTree) → now ≡ remaining_selection c (length (batch_rows s.fields bs)) → remaining_selection now (length (batch_rows s.fields (b ∷ []))) ≡ remaining_selection c (length (batch_rows s.fields (bs ++ b ∷ [])))
rest-more c s bs b now is =
    ap (λ (x : SelectionTree). remaining_selection x (length (batch_rows s.fields (b ∷ [])))) is
    ∙ remaining-twice c (length (batch_rows s.fields bs)) (length (batch_rows s.fields (b ∷ [])))
    ∙ ap (remaining_selection c) (sym (ap length (rows-both s.fields bs (b ∷ [])) ∙ length-append (batch_rows s.fields bs) (batch_rows s.fields (b ∷ []))))

all-of : (c : SelectionTree) (s : SchemaModel) (t : Remaining) (k : ℕ) (bs : List RecordBatchTree) → t.first k ≡ Ok bs → (t.first k ≡ t.whole) ⊎ HasSelectedRows c (table_of_batches s bs) → HasSufficientBatches c (with_schema s t) k
all-of c s t k bs at are = held-at s bs (t.first k) (λ h. (table_with s t.whole ≡ Ok h) ⊎ HasSelectedRows c h) at (by are)
  where
    by : (t.first k ≡ t.whole) ⊎ HasSelectedRows c (table_of_batches s bs) → (table_with s t.whole ≡ Ok (table_of_batches s bs)) ⊎ HasSelectedRows c (table_of_batches s bs)
    by (inl same) = inl (ap (table_with s) (sym same ∙ at))
    by (inr some) = inr some

module _ {W : Type 0} (contents : W → Option (List ℕ)) where
  pub begun : (form : forms.Format) (c : SelectionTree) (s : SchemaModel) (t : Option Remaining) (start : W) (front : List RecordBatchTree) (writer : BatchWriter W) → StartsEmpty t → IsInRowOrder c → spec_selection_error c s.fields ≡ None → HasWritten contents form start s front writer → CopyState contents form c s t start front 0 c t writer
  begun form c s None start front writer fresh order column put = tt
  begun form c s (Some t) start front writer fresh order column put = record {
    came = [];
    went = [];
    at = none-behind t fresh;
    are = copied-none c s.fields order;
    rest = sym (remaining-none c);
    in_order = order;
    has_column = column;
    put = subst (λ (bs : List RecordBatchTree). HasWritten contents form start s bs writer) (sym (append-nil front)) put;
  }

  module _ (form : forms.Format) (c : SelectionTree) (s : SchemaModel) (start : W) (front : List RecordBatchTree) (k : ℕ) (now : SelectionTree) where
    pub over : (t u : Option Remaining) (writer : BatchWriter W) → is_complete_selection now ≡ true → CopyState contents form c s t start front k now u writer → CopyEnd contents form c s t start front k writer
    over None u writer none p = tt
    over (Some t) None writer none p = absurd p
    over (Some t) (Some u) writer none p = record {
      came = p.came;
      went = p.went;
      at = behind-first t u k p.came p.at;
      are_all = inr (enough c s p.came (ap is_complete_selection (sym p.rest) ∙ none));
      are = p.are;
      has_column = p.has_column;
      put = p.put;
    }

    pub ended : (t u v : Option Remaining) (writer : BatchWriter W) → ReturnsNext u v None → CopyState contents form c s t start front k now u writer → CopyEnd contents form c s t start front k writer
    ended None u v writer end p = tt
    ended (Some t) None v writer end p = absurd p
    ended (Some t) (Some u) None writer end p = absurd end
    ended (Some t) (Some u) (Some v) writer end p = record {
      came = p.came;
      went = p.went;
      at = behind-first t u k p.came p.at;
      are_all = inl (behind-first t u k p.came p.at ∙ sym (behind-whole t u v k p.came p.at end));
      are = p.are;
      has_column = p.has_column;
      put = p.put;
    }

    pub more : (fs : List FieldTree) (later : SelectionTree) (t u v : Option Remaining) (b : RecordBatchTree) (old new : BatchWriter W) → fs ≡ s.fields → ReturnsNext u v (Some b) → WritesSelection contents now fs b old new → later ≡ remaining_selection now (length (batch_rows fs (b ∷ []))) → CopyState contents form c s t start front k now u old
        → CopyState contents form c s t start front (k + 1) later v new
    more fs later None u v b old new same next wrote left p = tt
    more fs later (Some t) None v b old new same next wrote left p = absurd p
    more fs later (Some t) (Some u) None b old new same next wrote left p = absurd next
    more fs later (Some t) (Some u) (Some v) b old new same next wrote left p =
        let out = wrote form start s (front ++ p.went) p.put in
        let selected : AreSelectedBatches (remaining_selection c (length (batch_rows s.fields p.came))) s.fields (b ∷ []) out.0 = subst (λ (x : SelectionTree). AreSelectedBatches x s.fields (b ∷ []) out.0) p.rest (subst (λ (gs : List FieldTree). AreSelectedBatches now gs (b ∷ []) out.0) same out.1) in
        record {
          came = p.came ++ b ∷ [];
          went = p.went ++ out.0;
          at = behind-more t u v k p.came b p.at next;
          are = copied-more c s.fields p.came p.went (b ∷ []) out.0 p.in_order p.are selected;
          rest = left ∙ ap (λ (gs : List FieldTree). remaining_selection now (length (batch_rows gs (b ∷ [])))) same ∙ rest-more c s p.came b now p.rest;
          in_order = p.in_order;
          has_column = p.has_column;
          put = subst (λ (bs : List RecordBatchTree). HasWritten contents form start s bs new) (append_assoc front p.went out.0) out.2;
        }

    pub unread : (t u : Option Remaining) (writer : BatchWriter W) (error : CliError) → is_complete_selection now ≡ false → FailsToReadNext error u → CopyState contents form c s t start front k now u writer → FailsNextBatch error form c s front t k
    unread None u writer error some h p = tt
    unread (Some t) None writer error some h p = absurd p
    unread (Some t) (Some u) writer error some h p = (
      next-stops error c form front s t u k p.came p.at h,
      none-enough c s (t.first k) p.came (behind-first t u k p.came p.at) (not-enough c s p.came (ap is_complete_selection (sym p.rest) ∙ some)),
    )

    pub uncounted : (t u : Option Remaining) (writer : BatchWriter W) → is_complete_selection now ≡ false → CopyState contents form c s t start front k now u writer → FailsNextBatch causes.Input form c s front t k
    uncounted None u writer some p = tt
    uncounted (Some t) None writer some p = absurd p
    uncounted (Some t) (Some u) writer some p = (tt, none-enough c s (t.first k) p.came (behind-first t u k p.came p.at) (not-enough c s p.came (ap is_complete_selection (sym p.rest) ∙ some)))

    pub failed : (fs : List FieldTree) (t u v : Option Remaining) (b : RecordBatchTree) (old : BatchWriter W) (error : CliError) → fs ≡ s.fields → is_complete_selection now ≡ false → ReturnsNext u v (Some b) → FailsToWriteSelection contents error now fs b old → CopyState contents form c s t start front k now u old → FailsNextBatch error form c s front t k
    failed fs None u v b old error same some next h p = tt
    failed fs (Some t) None v b old error same some next h p = absurd p
    failed fs (Some t) (Some u) None b old error same some next h p = absurd next
    failed fs (Some t) (Some u) (Some v) b old error same some next h p = (
      read-stops error c form front s (t.first (k + 1)) (p.came ++ b ∷ []) (behind-first t v (k + 1) (p.came ++ b ∷ []) (behind-more t u v k p.came b p.at next)) (by h),
      none-enough c s (t.first k) p.came (behind-first t u k p.came p.at) (not-enough c s p.came (ap is_complete_selection (sym p.rest) ∙ some)),
    )
      where
        by : FailsToWriteSelection contents error now fs b old → IsCopyError error c form front (Ok (table_of_batches s (p.came ++ b ∷ [])))
        by (inl fails) =
            batch-stops error c form front s p.came b (length (batch_rows s.fields p.came)) p.in_order (subst (λ (x : SelectionTree). IsBatchSelectionError error x s.fields (b ∷ [])) p.rest (subst (λ (gs : List FieldTree). IsBatchSelectionError error now gs (b ∷ [])) same fails))
        by (inr fails) =
            let out = fails form start s (front ++ p.went) p.put in
            let selected : AreSelectedBatches (remaining_selection c (length (batch_rows s.fields p.came))) s.fields (b ∷ []) out.0 = subst (λ (x : SelectionTree). AreSelectedBatches x s.fields (b ∷ []) out.0) p.rest (subst (λ (gs : List FieldTree). AreSelectedBatches now gs (b ∷ []) out.0) same out.1) in
            part-stops error c form front s (p.came ++ b ∷ []) (p.went ++ out.0) (is-copy c s (p.came ++ b ∷ []) (p.went ++ out.0) p.has_column (copied-more c s.fields p.came p.went (b ∷ []) out.0 p.in_order p.are selected)) (subst (λ (bs : List RecordBatchTree). FailsBatches error form s bs) (append_assoc front p.went out.0) out.2)

  pub finished : (form : forms.Format) (c : SelectionTree) (s : SchemaModel) (t : Option Remaining) (start end : W) (k : ℕ) (writer : BatchWriter W)
      → ((form : forms.Format) (start : W) (s : SchemaModel) (went : List RecordBatchTree) → HasWritten contents form start s went writer → WritesTableBatches form s went (contents start) (contents end)) → CopyEnd contents form c s t start [] k writer
      → Copies contents form c (option_map (with_schema s) t) start (Ok end)
  finished form c s None start end k writer puts p = tt
  finished form c s (Some t) start end k writer puts p =
      let put = puts form start s p.went p.put in (
        k,
        held-at s p.came (t.first k) (λ h. (x : TableTree) × (bytes : List ℕ) × IsCopy c h x × IsEncodingOf form x bytes × Appends (contents start) (contents end) bytes) p.at (table_of_batches s p.went, put.0, is-copy c s p.came p.went p.has_column p.are, put.1, put.2),
        all-of c s t k p.came p.at p.are_all,
      )

  pub unfinished : (form : forms.Format) (c : SelectionTree) (s : SchemaModel) (t : Option Remaining) (start : W) (k : ℕ) (writer : BatchWriter W) (error : CliError)
      → ((form : forms.Format) (start : W) (s : SchemaModel) (went : List RecordBatchTree) → HasWritten contents form start s went writer → FailsFinish error form s went) → CopyEnd contents form c s t start [] k writer
      → Copies contents form c (option_map (with_schema s) t) start (Err (record { batch = Some k; error = error }))
  unfinished form c s None start k writer error fails p = tt
  unfinished form c s (Some t) start k writer error fails p =
      inr (read-stops error c form [] s (t.first k) p.came p.at (end-stops error c form [] s p.came p.went (is-copy c s p.came p.went p.has_column p.are) (fails form start s p.went p.put)), all-of c s t k p.came p.at p.are_all)

  pub stopped : (form : forms.Format) (c : SelectionTree) (s : SchemaModel) (t : Option Remaining) (start : W) (stop : BatchError) → IsCopyStateError stop form c s [] t → Copies contents form c (option_map (with_schema s) t) start (Err stop)
  stopped form c s None start stop h = tt
  stopped form c s (Some t) start stop h = by stop.batch h
    where
      by : (batch : Option ℕ) → FailsAfterBatches batch stop.error form c s [] (Some t) → FailsWhileCopying c form [] (with_schema s t) batch stop.error
      by None h = absurd h
      by (Some k) h = inl h

  pub unbegun : (form : forms.Format) (c : SelectionTree) (s : SchemaModel) (t : Option Remaining) (start : W) (error : CliError) → StartsEmpty t → IsInRowOrder c → spec_selection_error c s.fields ≡ None → FailsSchema error (schema_error s)
      → Copies contents form c (option_map (with_schema s) t) start (Err (record { batch = None; error = error }))
  unbegun form c s None start error fresh order column h = tt
  unbegun form c s (Some t) start error fresh order column h = read-stops error c form [] s (t.first 0) [] fresh (schema-stops error c form s (is-copy c s [] [] column (copied-none c s.fields order)) h)

  pub no-column : (form : forms.Format) (c : SelectionTree) (s : SchemaModel) (t : Option Remaining) (start : W) (r : CliError) → StartsEmpty t → spec_selection_error c s.fields ≡ Some r → Copies contents form c (option_map (with_schema s) t) start (Err (record { batch = None; error = r }))
  no-column form c s None start r fresh h = tt
  no-column form c s (Some t) start r fresh h = read-stops r c form [] s (t.first 0) [] fresh (column-stops r c form s (of-condition c s.fields r h) h)

  pub opened : (form : forms.Format) (c : SelectionTree) (x : Option Decoded) (s : SchemaModel) (t : Option Remaining) (start : W) (result : Result W BatchError) → IsOpened x s t → Copies contents form c (option_map (with_schema s) t) start result → Copies contents form c x start result
  opened form c None s t start result o h = tt
  opened form c (Some x) s None start result o h = absurd o
  opened form c (Some x) s (Some t) start result o h = subst (λ (y : Decoded). Copies contents form c (Some y) start result) (sym o) h

  pub unopened : (form : forms.Format) (c : SelectionTree) (x : Option Decoded) (start : W) (error : CliError) → FailsToOpen error x → Copies contents form c x start (Err (record { batch = None; error = error }))
  unopened form c None start error h = tt
  unopened form c (Some x) start error h = held-why error c form [] (x.first 0) h
