-- What a line is, by what is read of it.
use Rattle.std.proofs.Common.{◌≡◌, ◌≢◌, ◌∙◌, ℕ, ℤ, ◌+◌, length, take, inl, inr, arith, Bool, true, false, List, [], ◌∷◌, Option, Some, None, Ok, Err, refl, ap, sym, subst}
use Rattle.std.specs.Str.{IsUtf8, is_utf8}
use Rattle.std.proofs.lemmas.Bool.{cases_lt, cond-true, cond-false}
use Rattle.std.proofs.lemmas.List.{length-take, take_all}
use Rattle.std.proofs.lemmas.Str.{IsUtf8-from_is_utf8, is_utf8-from_IsUtf8}
use Rattle.json.specs.Find.{is_null}
use Rattle.json.specs.Json as json
use Rattle.json.specs.Json.{Json, Items, document}
use Rattle.json_read.specs.JsonLines.{AreAllValid, IsLineError, IsJsonReadError, StructRowsAreValid, LineAdded, row_error, spec_is_null_struct, spec_is_struct, json_failure, json_value, line_row, value_failure, value_row, line_rows, slot_unless_error, spec_json_read_error}
use Rattle.json_read.specs.LineSplit.{AreFirstLines, lines_of}
use Rattle.json_read.proofs.RowLaws.{few-lines, taken}
use Rattle.json_read.specs.declared.error.PushLineError.{PushLineError}
use Rattle.json_read.specs.declared.error.PushLineError.TheVariants as push_line_errors
use Rattle.json_read.specs.FlatValues.{first_error}
use Rattle.json_read.specs.JsonSlots.{value_error, slot_of, string_slot, array_slot}
use Rattle.json_read.specs.ErrorPaths.{spec_row_path}
use Rattle.json_read.specs.LineRows.{LineFailure, LineRow, failure_of, rows_from}
use Rattle.json_read.specs.RequiredFields.{has_unexpected_null, is_nullable, is_unexpected_null, null_error}
use Rattle.json_read.proofs.RequiredLaws.{or-false}
use Rattle.json_read.specs.SlotAdded.{IsPushError, SlotAdded}
use Rattle.json_read.proofs.Stepping.{refuses-first, refuses-later}
use Rattle.json_read.specs.declared.value_error.ValueError.{ValueError}
use Rattle.json_read.specs.declared.value_error.ValueError.TheVariants.{WrongType}
use Rattle.json_read.specs.declared.value_error.PushError.{PushError}
use Rattle.json_read.specs.declared.value_error.PushError.TheVariants as push_error
use Rattle.nest_memory.specs.Physical.{physical_type}
use Rattle.nest_memory.specs.TypeTree.{Letters, TypeTree, FieldTree, field, field_type}
use Rattle.nest_memory.specs.declared.datatypes.physical_type.PhysicalType.TheVariants as physical
use Rattle.nest_model.specs.BuilderTree.{BuilderTree}
use Rattle.nest_model.specs.Slot as slots
use Rattle.nest_model.specs.Slot.{Slot, Slots}
use Rattle.json_write.specs.Formats.{format_of_type}
use Rattle.json_write.specs.declared.format.ValueFormat.{ValueFormat}
use Rattle.json_write.specs.TypedSlots.{SlotKind, slot_kind, numbers, binaries}

json-there : (line : List ℕ) (j : Json) → IsUtf8 line → document line ≡ Some j → json_value line ≡ Some j
json-there line j utf8 is = cond-true (is_utf8 line) _ _ (is_utf8-from_IsUtf8 line utf8) ∙ is

unless-utf8 : (line : List ℕ) (b : Bool) → is_utf8 line ≡ b → (IsUtf8 line → document line ≡ None) → json_value line ≡ None
unless-utf8 line true e none = cond-true (is_utf8 line) _ _ e ∙ none (IsUtf8-from_is_utf8 line e)
unless-utf8 line false e none = cond-false (is_utf8 line) _ _ e

pub added-row : (t : TypeTree) (line : List ℕ) (j : Json) (old new : BuilderTree) → IsUtf8 line × (document line ≡ Some j) → row_error t j ≡ None → SlotAdded (slot_of t j) old new → LineAdded (line_row t line) old new
added-row t line j old new is valid added =
    subst (λ o. LineAdded (value_row t o) old new) (sym (json-there line j is.0 is.1)) (subst (λ f. LineAdded (slot_unless_error f (spec_row_path t j) (slot_of t j)) old new) (sym valid) added)

pub value-failed : (t : TypeTree) (j : Json) (e : ValueError) (path : Option Letters) → row_error t j ≡ Some e → path ≡ spec_row_path t j → value_row t (Some j) ≡ Err (value_failure e path)
value-failed t j e path error is = ap (λ f. slot_unless_error f (spec_row_path t j) (slot_of t j)) error ∙ ap (λ p. Err (value_failure e p)) (sym is)

pub row-none : (t : TypeTree) (line : List ℕ) → (IsUtf8 line → document line ≡ None) → line_row t line ≡ Err json_failure
row-none t line none = ap (value_row t) (unless-utf8 line (is_utf8 line) refl none)

pub row-failed : (t : TypeTree) (line : List ℕ) (j : Json) (e : PushLineError) → IsUtf8 line × (document line ≡ Some j) → IsLineError e (value_row t (Some j)) → IsLineError e (line_row t line)
row-failed t line j e is error = subst (λ o. IsLineError e (value_row t o)) (sym (json-there line j is.0 is.1)) error

pub with_row-text : (t : TypeTree) (lines : List (List ℕ)) (line : List ℕ) (n : ℕ) (e : PushLineError) → IsLineError e (line_row t line) → ((r : LineFailure) → line_row t line ≡ Err r → line_rows t lines ≡ Err (n, r)) → IsJsonReadError (spec_json_read_error n e) t lines
with_row-text t lines line n (push_line_errors.Line e) error stop = stop (failure_of e) error
with_row-text t lines line n push_line_errors.Overflow error stop = tt
with_row-text t lines line n push_line_errors.Memory error stop = tt

-- a limit of as many lines as there are bytes is none
pub all-used : (text : List ℕ) (used count : ℕ) → AreFirstLines text (length text) used count → used ≡ length text
all-used text used count is = elim (cases_lt count (length text)) [ inl lt ↦ is.complete lt | inr ge ↦ omega (arith, few-lines (take used text), length-take used text, is.counted, is.within) ]

pub all-lines : (text : List ℕ) → take (length text) (lines_of text) ≡ lines_of text
all-lines text = take_all (length text) (lines_of text) (few-lines text)

pub all-text : (text : List ℕ) (used : ℕ) → used ≡ length text → take used text ≡ text
all-text text used e = take_all used text (omega (arith, e))

pub row-taken : (r : LineRow) (old new : BuilderTree) → LineAdded r old new → (s : Slot) × ((r ≡ Ok s) × SlotAdded s old new)
row-taken (Ok s) old new h = (s, (refl, h))
row-taken (Err e) old new h = absurd h

-- ---- no row of a struct is null

row-error : (t : TypeTree) (j : Json) → spec_is_null_struct t j ≡ false → row_error t j ≡ first_error (value_error t j) (null_error t j)
row-error t j h = cond-false (spec_is_null_struct t j) _ _ h

pub row-valid : (t : TypeTree) (j : Json) → spec_is_null_struct t j ≡ false → value_error t j ≡ None → null_error t j ≡ None → row_error t j ≡ None
row-valid t j h v n = row-error t j h ∙ ap (λ e. first_error e (null_error t j)) v ∙ n

pub value-refused : (t : TypeTree) (j : Json) (e : PushError) → spec_is_null_struct t j ≡ false → IsPushError e (value_error t j) → IsPushError e (row_error t j)
value-refused t j e h r = subst (IsPushError e) (sym (row-error t j h)) (refuses-first e (value_error t j) (null_error t j) r)

pub null-refused : (t : TypeTree) (j : Json) (e : PushError) → spec_is_null_struct t j ≡ false → value_error t j ≡ None → IsPushError e (null_error t j) → IsPushError e (row_error t j)
null-refused t j e h v r = subst (IsPushError e) (sym (row-error t j h)) (refuses-later e (value_error t j) (null_error t j) v r)

pub row-error-null : (t : TypeTree) (j : Json) → spec_is_null_struct t j ≡ true → row_error t j ≡ Some WrongType
row-error-null t j h = cond-true (spec_is_null_struct t j) _ _ h

text-there : (f : SlotKind) (v : ValueFormat) (s : List ℕ) → string_slot f v s ≢ slots.null
text-there binaries v s e = cc
text-there numbers v s e = cc
text-there f v s e = cc

array-there : (f : SlotKind) (zs : List ℤ) (ss : Slots) → array_slot f zs ss ≢ slots.null
array-there numbers zs ss e = cc
array-there f zs ss e = cc

valued : (t : TypeTree) (j : Json) → is_null j ≡ false → slot_of t j ≢ slots.null
valued t json.null h e = absurd cc
valued t (json.boolean b) h e = cc
valued t (json.number s) h e = cc
valued t (json.string s) h e = text-there (slot_kind t) (format_of_type t) s e
valued t (json.array js) h e = array-there (slot_kind t) _ _ e
valued t (json.object ms) h e = cc

pub value-there : (f : FieldTree) (j : Json) → is_nullable f ≡ false → is_unexpected_null f j ≡ false → slot_of (field_type f) j ≢ slots.null
value-there (field n t true es) j r h = absurd cc
value-there (field n t false es) j r h = valued t j (or-false (is_null j) (has_unexpected_null t j) h).0

slot-there : (t : TypeTree) (j : Json) → physical_type t ≡ physical.Struct → row_error t j ≡ None → slot_of t j ≢ slots.null
slot-there t json.null h f e = let x : Some WrongType ≡ None = sym (row-error-null t json.null (ap spec_is_struct h)) ∙ f in cc
slot-there t (json.boolean b) h f e = cc
slot-there t (json.number s) h f e = cc
slot-there t (json.string s) h f e = text-there (slot_kind t) (format_of_type t) s e
slot-there t (json.array js) h f e = array-there (slot_kind t) _ _ e
slot-there t (json.object ms) h f e = cc

json-there-row : (t : TypeTree) (o : Option Json) (s : Slot) → physical_type t ≡ physical.Struct → value_row t o ≡ Ok s → s ≢ slots.null
json-there-row t None s h e = cc
json-there-row t (Some j) s h e = by-error (row_error t j) refl e
  where
    by-error : (o : Option ValueError) → row_error t j ≡ o → slot_unless_error o (spec_row_path t j) (slot_of t j) ≡ Ok s → s ≢ slots.null
    by-error None f k n = let same : slot_of t j ≡ s = cc in slot-there t j h f (same ∙ n)
    by-error (Some r) f k n = cc

below-there : (t : TypeTree) (above : ℕ) (lines : List (List ℕ)) (ss : List Slot) → physical_type t ≡ physical.Struct → rows_from (line_row t) above lines ≡ Ok ss → AreAllValid ss
below-there t above [] ss h e = let none : [] ≡ ss = cc in subst AreAllValid none tt
below-there t above (line ∷ lines) ss h e =
    let k = taken _ above _ ss e in
    subst AreAllValid (sym k.all) (json-there-row t (json_value line) k.first h k.row, below-there t (above + 1) lines k.others h k.after)

pub rows-there : (t : TypeTree) (lines : List (List ℕ)) (ss : List Slot) → line_rows t lines ≡ Ok ss → StructRowsAreValid t ss
rows-there t lines ss e h = below-there t 0 lines ss h e
