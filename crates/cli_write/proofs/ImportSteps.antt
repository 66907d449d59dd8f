-- Steps of importing lines.
use Rattle.std.proofs.Common.{◌≡◌, ◌∙◌, ◌⊎◌, inl, inr, ℕ, zero, suc, ◌+◌, ◌≤◌, Bool, true, false, List, [], ◌∷◌, ◌++◌, length, take, drop, Option, Some, None, Ok, Err, refl, ap, sym, subst, arith, append_assoc, append-nil}
use Rattle.std.proofs.lemmas.List.{length-append, map-append, take-append-drop}
use Rattle.std.specs.Option.{option_map}
use Rattle.std.specs.Io.KnownBytes.{IsAtEnd, Keeps}
use Rattle.ipc.specs.Streams.{RecordBatchTree}
use Rattle.ipc.specs.EncodedStreams.{schema_error}
use Rattle.ipc_schema.specs.Schemas.{SchemaModel}
use Rattle.cli_rows.specs.Records.{record_type}
use Rattle.cli_read.specs.RowBuffers.{table_of_batches}
use Rattle.cli_write.proofs.Lists.{rows-both}
use Rattle.cli_write.proofs.CopySteps.{empty-refused}
use Rattle.cli_write.specs.Copies.{IsWriteRefusal}
use Rattle.cli_write.specs.Writers.{FailsFinish, FailsBatches, FailsSchema, FailsWrite, HasWritten, WritesTableBatches}
use Rattle.cli_write.specs.declared.writer.BatchWriter.{BatchWriter}
use Rattle.cli_write.proofs.Newlines.{fed-drop, fed-ends}
use Rattle.cli_write.specs.Imports.{HasRows, IsImportError, Imports}
use Rattle.cli_write.specs.LineBuffers.{AreWholeLines}
use Rattle.cli_write.specs.ImportStates.{ReadsBatch, ImportState, MayFollow, ReadsPrefix, IsFinalError, FailsImport, IsLinesError, plain_schema, spec_after_lines, import_error}
use Rattle.cli_write.specs.declared.import.error.ImportError.{ImportError}
use Rattle.cli_write.specs.declared.import.error.ImportError.TheVariants as causes
use Rattle.json_read.proofs.MoreLines.{both-err, both-ok, first-err}
use Rattle.json_read.specs.JsonLines as json_lines
use Rattle.json_read.specs.JsonLines.{line_row}
use Rattle.json_read.specs.LineRows.{failure_of}
use Rattle.json_read.specs.LineSplit.{lines_of}
use Rattle.cli_rows.specs.Tables.{TableTree}
use Rattle.cli_rows.specs.declared.error.CliError.{CliError}
use Rattle.cli_rows.specs.declared.error.CliError.TheVariants as looks
use Rattle.nest_memory.specs.TypeTree.{FieldTree}
use Rattle.cli_args.specs.declared.format.Format.{Format}

drop-within : (n : ℕ) (xs ys : List ℕ) → n ≤ length xs → drop n (xs ++ ys) ≡ drop n xs ++ ys
drop-within zero xs ys h = refl
drop-within (suc n) [] ys h = absurd (omega (arith, h))
drop-within (suc n) (x ∷ xs) ys h = drop-within n xs ys (omega (arith, h))

drop-length : (xs : List ℕ) → drop (length xs) xs ≡ []
drop-length [] = refl
drop-length (x ∷ xs) = drop-length xs

lines-on : (over : Bool) (text rest : List ℕ) (n used : ℕ) (first : List (List ℕ)) → AreWholeLines over text n → MayFollow over rest → used ≤ length (take n text) → lines_of (take n text) ≡ first ++ lines_of (drop used (take n text))
    → lines_of (text ++ rest) ≡ first ++ lines_of (drop used text ++ rest)
lines-on true text rest n used first whole may within lines =
    let none : rest ≡ [] = may refl in
    let all : lines_of text ≡ first ++ lines_of (drop used text) = subst (λ (t : List ℕ). lines_of t ≡ first ++ lines_of (drop used t)) whole lines in
    subst (λ (r : List ℕ). lines_of (text ++ r) ≡ first ++ lines_of (drop used text ++ r)) (sym none)
    (ap lines_of (append-nil text) ∙ all ∙ ap (λ (t : List ℕ). first ++ lines_of t) (sym (append-nil (drop used text))))
lines-on false text rest n used first fed may within lines =
    let front : List ℕ = take n text in
    let more : List ℕ = drop n text ++ rest in
    let whole : text ≡ front ++ drop n text = sym (take-append-drop n text) in
    let parts : text ++ rest ≡ front ++ more = ap (λ (t : List ℕ). t ++ rest) whole ∙ append_assoc front (drop n text) rest in
    let left : drop used text ++ rest ≡ drop used front ++ more = ap (λ (t : List ℕ). t ++ rest) (ap (drop used) whole ∙ drop-within used front (drop n text) within) ∙ append_assoc (drop used front) (drop n text) rest in
    let others : lines_of (drop used front) ++ lines_of more ≡ lines_of (drop used text ++ rest) = sym (fed-ends (drop used front) (fed-drop used front fed) more) ∙ sym (ap lines_of left) in
    ap lines_of parts
    ∙ fed-ends front fed more
    ∙ ap (λ (ls : List (List ℕ)). ls ++ lines_of more) lines
    ∙ append_assoc first (lines_of (drop used front)) (lines_of more)
    ∙ ap (λ (ls : List (List ℕ)). first ++ ls) others

pub reads-on : (fs : List FieldTree) (over : Bool) (text : List ℕ) (n used count : ℕ) (bs : List RecordBatchTree) → AreWholeLines over text n → ReadsBatch fs (take n text) used count [] bs → ReadsPrefix fs text over used count bs
reads-on fs over text n used count bs whole b = record {
  first = b.first;
  rows = b.rows;
  within = omega (arith, b.within, length-append (take n text) (drop n text), ap length (take-append-drop n text));
  lines = λ rest may. lines-on over text rest n used b.first whole may b.within b.lines;
  counted = b.counted;
  read = b.read;
  held = b.held;
}

take-front : (ls more : List (List ℕ)) → take (length ls) (ls ++ more) ≡ ls
take-front [] more = refl
take-front (l ∷ ls) more = ap (λ (ks : List (List ℕ)). l ∷ ks) (take-front ls more)

unread-more : (e : ImportError) (fs : List FieldTree) (ls more : List (List ℕ)) → IsLinesError e fs ls → IsLinesError e fs (ls ++ more)
unread-more (causes.Type e) fs ls more h = h
unread-more (causes.Line k e) fs ls more h = first-err (line_row (record_type fs)) 0 (length ls) (ls ++ more) (k, failure_of e) (ap (json_lines.line_rows (record_type fs)) (take-front ls more) ∙ h)
unread-more (causes.Write why) fs ls more h = absurd h
unread-more causes.Overflow fs ls more h = tt
unread-more causes.Input fs ls more h = absurd h
unread-more causes.Output fs ls more h = absurd h
unread-more causes.Memory fs ls more h = tt

pub stays-unread : (e : ImportError) (fs : List FieldTree) (over : Bool) (text : List ℕ) (n : ℕ) → AreWholeLines over text n → IsLinesError e fs (lines_of (take n text)) → IsFinalError e fs text over
stays-unread e fs over text n whole h = λ rest may.
    let front : List ℕ = take n text in
    let alone : lines_of front ≡ lines_of front ++ lines_of (drop (length front) front) = sym (append-nil (lines_of front)) ∙ ap (λ (t : List ℕ). lines_of front ++ lines_of t) (sym (drop-length front)) in
    let on = lines-on over text rest n (length front) (lines_of front) whole may (omega arith) alone in
    subst (IsLinesError e fs) (sym on) (unread-more e fs (lines_of front) (lines_of (drop (length front) text ++ rest)) h)

pub unread-none : (e : ImportError) (fs : List FieldTree) (form : Format) (all : Option (List ℕ)) → IsLinesError e fs [] → FailsImport e fs form all
unread-none e fs form None h = tt
unread-none (causes.Type e) fs form (Some text) h = h
unread-none (causes.Line k e) fs form (Some text) h = absurd cc
unread-none (causes.Write why) fs form (Some text) h = absurd h
unread-none causes.Overflow fs form (Some text) h = tt
unread-none causes.Input fs form (Some text) h = tt
unread-none causes.Output fs form (Some text) h = tt
unread-none causes.Memory fs form (Some text) h = tt

pub stops-as : (e f : ImportError) (fs : List FieldTree) (form : Format) (all : Option (List ℕ)) → (f ≡ e) ⊎ (f ≡ causes.Overflow) → FailsImport e fs form all → FailsImport f fs form all
stops-as e f fs form all (inl is) h = subst (λ (x : ImportError). FailsImport x fs form all) (sym is) h
stops-as e f fs form None (inr is) h = tt
stops-as e f fs form (Some text) (inr is) h = subst (λ (x : ImportError). IsImportError x fs form (lines_of text)) (sym is) tt

pub stops-device : (e : ImportError) (fs : List FieldTree) (form : Format) (all : Option (List ℕ)) → (e ≡ causes.Input) ⊎ (e ≡ causes.Memory) → FailsImport e fs form all
stops-device e fs form None is = tt
stops-device e fs form (Some text) (inl is) = subst (λ (x : ImportError). IsImportError x fs form (lines_of text)) (sym is) tt
stops-device e fs form (Some text) (inr is) = subst (λ (x : ImportError). IsImportError x fs form (lines_of text)) (sym is) tt

unwritten-lines : (error : CliError) (fs : List FieldTree) (form : Format) (lines first others : List (List ℕ)) (h : TableTree) → lines ≡ first ++ others → HasRows fs first h → FailsWrite error (λ why. IsWriteRefusal form h why) → IsImportError (import_error error) fs form lines
unwritten-lines (looks.Write why) fs form lines first others h e holds f = (first, others, h, e, holds, f)
unwritten-lines looks.Output fs form lines first others h e holds f = tt
unwritten-lines looks.Input fs form lines first others h e holds f = absurd f
unwritten-lines (looks.Read error) fs form lines first others h e holds f = absurd f
unwritten-lines looks.MismatchedColumns fs form lines first others h e holds f = absurd f
unwritten-lines looks.IndexOutOfRange fs form lines first others h e holds f = absurd f
unwritten-lines (looks.Condition why) fs form lines first others h e holds f = absurd f
unwritten-lines (looks.UnknownName i) fs form lines first others h e holds f = absurd f
unwritten-lines looks.Memory fs form lines first others h e holds f = absurd f

fails-more : (error : CliError) (P Q : _ → Type 0) → ((why : _) → P why → Q why) → FailsWrite error P → FailsWrite error Q
fails-more (looks.Write why) P Q f h = f why h
fails-more looks.Output P Q f h = tt
fails-more looks.Input P Q f h = absurd h
fails-more (looks.Read error) P Q f h = absurd h
fails-more looks.MismatchedColumns P Q f h = absurd h
fails-more looks.IndexOutOfRange P Q f h = absurd h
fails-more (looks.Condition why) P Q f h = absurd h
fails-more (looks.UnknownName i) P Q f h = absurd h
fails-more looks.Memory P Q f h = absurd h

pub stops-begin : (error : CliError) (s : SchemaModel) (form : Format) (all : Option (List ℕ)) → s.metadata ≡ [] → FailsSchema error (schema_error s) → FailsImport (import_error error) s.fields form all
stops-begin error s form None plain h = tt
stops-begin error s form (Some text) plain h =
    unwritten-lines error s.fields form (lines_of text) [] (lines_of text) (table_of_batches s []) refl (record { rows = []; fields = refl; plain = plain; read = refl; held = refl })
    (fails-more error _ _ (λ why f. inl (empty-refused form s why f)) h)

module _ {W : Type 0} (contents : W → Option (List ℕ)) where
  pub begun : (fs : List FieldTree) (form : Format) (all : Option (List ℕ)) (start : W) (writer : BatchWriter W) → HasWritten contents form start (plain_schema fs) [] writer → ImportState contents fs form all start 0 all writer
  begun fs form None start writer p = tt
  begun fs form (Some text) start writer p = record { front = []; rows = []; went = []; lines = refl; counted = refl; read = refl; held = refl; put = p }

  pub kept : (fs : List FieldTree) (form : Format) (all : Option (List ℕ)) (start : W) (n : ℕ) (old new : Option (List ℕ)) (writer : BatchWriter W) → ImportState contents fs form all start n old writer → Keeps old new → ImportState contents fs form all start n new writer
  kept fs form None start n old new writer p k = tt
  kept fs form (Some text) start n None new writer p k = absurd p
  kept fs form (Some text) start n (Some xs) None writer p k = absurd k
  kept fs form (Some text) start n (Some xs) (Some ys) writer p k = subst (λ (zs : List ℕ). ImportState contents fs form (Some text) start n (Some zs) writer) (sym k) p

  follows : (over : Bool) (rest : List ℕ) → (over ≡ true → IsAtEnd (Some rest)) → MayFollow over rest
  follows over rest h is = h is

  pub more : (fs : List FieldTree) (form : Format) (all : Option (List ℕ)) (start : W) (n used count : ℕ) (text : List ℕ) (over : Bool) (left : Option (List ℕ)) (bs : List RecordBatchTree) (old new : BatchWriter W) → ImportState contents fs form all start n (option_map (λ rest. text ++ rest) left) old
      → ReadsPrefix fs text over used count bs → (over ≡ true → IsAtEnd left) → ((form : Format) (start : W) (s : SchemaModel) (went : List RecordBatchTree) → HasWritten contents form start s went old → HasWritten contents form start s (went ++ bs) new)
      → ImportState contents fs form all start (n + count) (option_map (λ rest. drop used text ++ rest) left) new
  more fs form None start n used count text over left bs old new p b ends puts = tt
  more fs form (Some t) start n used count text over None bs old new p b ends puts = absurd p
  more fs form (Some t) start n used count text over (Some rest) bs old new p b ends puts = record {
    front = p.front ++ b.first;
    rows = p.rows ++ b.rows;
    went = p.went ++ bs;
    lines = p.lines ∙ ap (λ (ls : List (List ℕ)). p.front ++ ls) (b.lines rest (follows over rest ends)) ∙ sym (append_assoc p.front b.first (lines_of (drop used text ++ rest)));
    counted = omega (arith, length-append p.front b.first, p.counted, b.counted);
    read = both-ok (line_row (record_type fs)) 0 p.front b.first p.rows b.rows p.read b.read;
    held = rows-both fs p.went bs ∙ (λ i. p.held i ++ b.held i) ∙ sym (map-append (λ s. (record_type fs, s)) p.rows b.rows);
    put = puts form start (plain_schema fs) p.went p.put;
  }

  pub stops-read : (e : ImportError) (fs : List FieldTree) (form : Format) (all : Option (List ℕ)) (start : W) (n : ℕ) (text : List ℕ) (over : Bool) (left : Option (List ℕ)) (writer : BatchWriter W) → ImportState contents fs form all start n (option_map (λ rest. text ++ rest) left) writer → IsFinalError e fs text over
      → (over ≡ true → IsAtEnd left) → FailsImport (spec_after_lines n e) fs form all
  stops-read e fs form None start n text over left writer p u ends = tt
  stops-read e fs form (Some t) start n text over None writer p u ends = absurd p
  stops-read e fs form (Some t) start n text over (Some rest) writer p u ends = by e (u rest (follows over rest ends))
    where
      by : (e : ImportError) → IsLinesError e fs (lines_of (text ++ rest)) → IsImportError (spec_after_lines n e) fs form (lines_of t)
      by (causes.Type e) h = h
      by (causes.Line k e) h =
          ap (json_lines.line_rows (record_type fs)) p.lines
          ∙ both-err (line_row (record_type fs)) 0 p.front (lines_of (text ++ rest)) p.rows k (failure_of e) p.read h
          ∙ ap (λ m. Err (m, failure_of e)) (let q : 0 + length p.front + k ≡ n + k = omega (arith, p.counted) in q)
      by (causes.Write why) h = absurd h
      by causes.Overflow h = tt
      by causes.Input h = absurd h
      by causes.Output h = absurd h
      by causes.Memory h = tt

  holds : (fs : List FieldTree) (form : Format) (text : List ℕ) (start : W) (n : ℕ) (left : List ℕ) (writer : BatchWriter W) (p : ImportState contents fs form (Some text) start n (Some left) writer) → HasRows fs p.front (table_of_batches (plain_schema fs) p.went)
  holds fs form text start n left writer p = record { rows = p.rows; fields = refl; plain = refl; read = p.read; held = p.held }

  pub stops-write : (error : CliError) (fs : List FieldTree) (form : Format) (all : Option (List ℕ)) (start : W) (n used count : ℕ) (text : List ℕ) (over : Bool) (left : Option (List ℕ)) (bs : List RecordBatchTree) (old : BatchWriter W) → ImportState contents fs form all start n (option_map (λ rest. text ++ rest) left) old
      → ReadsPrefix fs text over used count bs → (over ≡ true → IsAtEnd left) → ((form : Format) (start : W) (s : SchemaModel) (went : List RecordBatchTree) → HasWritten contents form start s went old → FailsBatches error form s (went ++ bs)) → FailsImport (import_error error) fs form all
  stops-write error fs form None start n used count text over left bs old p b ends fails = tt
  stops-write error fs form (Some t) start n used count text over None bs old p b ends fails = absurd p
  stops-write error fs form (Some t) start n used count text over (Some rest) bs old p b ends fails =
      let lines : lines_of t ≡ (p.front ++ b.first) ++ lines_of (drop used text ++ rest) = p.lines ∙ ap (λ (ls : List (List ℕ)). p.front ++ ls) (b.lines rest (follows over rest ends)) ∙ sym (append_assoc p.front b.first (lines_of (drop used text ++ rest))) in
      unwritten-lines error fs form (lines_of t) (p.front ++ b.first) (lines_of (drop used text ++ rest)) (table_of_batches (plain_schema fs) (p.went ++ bs)) lines
      (record {
        rows = p.rows ++ b.rows;
        fields = refl;
        plain = refl;
        read = both-ok (line_row (record_type fs)) 0 p.front b.first p.rows b.rows p.read b.read;
        held = rows-both fs p.went bs ∙ (λ i. p.held i ++ b.held i) ∙ sym (map-append (λ s. (record_type fs, s)) p.rows b.rows);
      })
      (fails form start (plain_schema fs) p.went p.put)

  pub finished : (fs : List FieldTree) (form : Format) (all : Option (List ℕ)) (start end : W) (n : ℕ) (left : Option (List ℕ)) (writer : BatchWriter W) → ImportState contents fs form all start n left writer → IsAtEnd left
      → ((form : Format) (start : W) (s : SchemaModel) (went : List RecordBatchTree) → HasWritten contents form start s went writer → WritesTableBatches form s went (contents start) (contents end)) → Imports contents fs form all start (Ok end)
  finished fs form None start end n left writer p ends puts = tt
  finished fs form (Some text) start end n None writer p ends puts = absurd p
  finished fs form (Some text) start end n (Some rest) writer p ends puts =
      let put = puts form start (plain_schema fs) p.went p.put in
      let all : p.front ≡ lines_of text = sym (p.lines ∙ ap (λ (r : List ℕ). p.front ++ lines_of r) ends ∙ append-nil p.front) in
      (table_of_batches (plain_schema fs) p.went, put.0, subst (λ (ls : List (List ℕ)). HasRows fs ls (table_of_batches (plain_schema fs) p.went)) all (holds fs form text start n rest writer p), put.1, put.2)

  pub unfinished : (error : CliError) (fs : List FieldTree) (form : Format) (all : Option (List ℕ)) (start : W) (n : ℕ) (left : Option (List ℕ)) (writer : BatchWriter W) → ImportState contents fs form all start n left writer
      → ((form : Format) (start : W) (s : SchemaModel) (went : List RecordBatchTree) → HasWritten contents form start s went writer → FailsFinish error form s went) → Imports contents fs form all start (Err (import_error error))
  unfinished error fs form None start n left writer p fails = tt
  unfinished error fs form (Some text) start n None writer p fails = absurd p
  unfinished error fs form (Some text) start n (Some rest) writer p fails =
      unwritten-lines error fs form (lines_of text) p.front (lines_of rest) (table_of_batches (plain_schema fs) p.went) p.lines (holds fs form text start n rest writer p)
      (fails-more error _ _ (λ why f. inl f) (fails form start (plain_schema fs) p.went p.put))

pub stopped : {W : Type 0} (contents : W → Option (List ℕ)) (e : ImportError) (fs : List FieldTree) (form : Format) (all : Option (List ℕ)) (start : W) → FailsImport e fs form all → Imports contents fs form all start (Err e)
stopped contents e fs form None start h = tt
stopped contents e fs form (Some text) start h = h
