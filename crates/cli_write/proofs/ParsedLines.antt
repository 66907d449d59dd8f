-- The first lines of a text as a record batch.
use Rattle.std.specs.Prelude.{◌≢◌, ◌++◌, None}
use Rattle.std.specs.List.{AllByRecursion}
use Rattle.std.proofs.Common.{◌≡◌, ◌∙◌, ℕ, List, [], ◌∷◌, take, true, Ok, refl, ap, sym}
use Rattle.ipc.specs.Streams.{RecordBatchTree}
use Rattle.cli_rows.specs.Records.{record_type}
use Rattle.cli_rows.specs.Rows.{rows_of}
use Rattle.cli_rows.specs.Conditions.{is_valid}
use Rattle.cli_write.specs.Imports.{records_of}
use Rattle.cli_write.specs.ImportStates.{ReadsBatch, IsLinesError, json_import_error}
use Rattle.json_read.specs.JsonLines.{AreAllValid, IsJsonReadError, line_row}
use Rattle.json_read.specs.JsonLines as json_lines
use Rattle.json_read.specs.LineRows.{failure_of}
use Rattle.json_read.specs.LineSplit.{AreFirstLines, lines_of}
use Rattle.json_read.specs.UnsupportedTypes.{unsupported_type}
use Rattle.json_read.specs.declared.error.JsonReadError.{JsonReadError}
use Rattle.json_read.specs.declared.error.JsonReadError.TheVariants as text_faults
use Rattle.json_read.proofs.MoreLines.{first-err}
use Rattle.cli_rows.specs.SelectedTables.{AreRowsOf, IsRowOf, batch_rows}
use Rattle.nest_memory.specs.TypeTree.{FieldTree, TypeTree}
use Rattle.nest_model.specs.Layout.{Layout, layout_type}
use Rattle.nest_model.specs.Meaning.{slots_of}
use Rattle.nest_model.specs.Slot as slots
use Rattle.nest_model.specs.Slot.{Slot}

there-true : (s : Slot) → s ≢ slots.null → is_valid s ≡ true
there-true slots.null h = absurd (h refl)
there-true (slots.boolean b) h = refl
there-true (slots.number zs) h = refl
there-true (slots.utf8 t) h = refl
there-true (slots.bytes b) h = refl
there-true (slots.list ss) h = refl
there-true (slots.record_of ss) h = refl
there-true (slots.pick f u s) h = refl

are-records : (fs : List FieldTree) (t : TypeTree) (ss : List Slot) → t ≡ record_type fs → unsupported_type (record_type fs) ≡ None → AreAllValid ss → AllByRecursion (IsRowOf fs) (records_of t ss)
are-records [] t ss e f h = absurd cc
are-records (g ∷ fs) t [] e f h = tt
are-records (g ∷ fs) t (s ∷ ss) e f h = ((e, there-true s h.0), are-records (g ∷ fs) t ss e f h.1)

pub are-rows : (fs : List FieldTree) (a : Layout) → layout_type a ≡ record_type fs → unsupported_type (record_type fs) ≡ None → AreAllValid (slots_of a) → AreRowsOf fs (rows_of a)
are-rows fs a e f h = are-records fs (layout_type a) (slots_of a) e f h

pub unread-text : (fs : List FieldTree) (t : TypeTree) (e : JsonReadError) (n : ℕ) (ls : List (List ℕ)) → t ≡ record_type fs → IsJsonReadError e t (take n ls) → IsLinesError (json_import_error e) fs ls
unread-text fs t (text_faults.Type e) n ls q h = ap unsupported_type (sym q) ∙ h
unread-text fs t (text_faults.Line line e) n ls q h = first-err (line_row (record_type fs)) 0 n ls (line, failure_of e) (ap (λ u. json_lines.line_rows u (take n ls)) (sym q) ∙ h)
unread-text fs t text_faults.Overflow n ls q h = tt
unread-text fs t text_faults.Memory n ls q h = tt

pub first-batch : (fs : List FieldTree) (text : List ℕ) (limit used count : ℕ) (a : Layout) (old new : List RecordBatchTree) → AreFirstLines text limit used count → json_lines.line_rows (record_type fs) (lines_of (take used text)) ≡ Ok (slots_of a)
    → layout_type a ≡ record_type fs → batch_rows fs new ≡ batch_rows fs old ++ rows_of a → ReadsBatch fs text used count old new
first-batch fs text limit used count a old new h r e b = record {
  first = lines_of (take used text);
  rows = slots_of a;
  within = h.within;
  lines = h.rest;
  counted = h.counted;
  read = r;
  held = b ∙ ap (λ t. batch_rows fs old ++ records_of t (slots_of a)) e;
}
