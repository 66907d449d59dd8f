-- The results of `parse_type`, from what is parsed.
use Rattle.std.proofs.Common.{◌≡◌, ℕ, List, Result, Ok, Err, sym, ap, subst, ◌∙◌, arith}
use Rattle.nest_memory.specs.TypeText.{text_of_type}
use Rattle.nest_memory.specs.TypeTree.{TypeTree}
use Rattle.nest_memory.specs.declared.datatypes.DataType.{DataType}
use Rattle.type_text.specs.declared.error.SyntaxError.{SyntaxError}
use Rattle.type_text.specs.declared.error.SyntaxError.TheVariants.{TooDeep, Unexpected}
use Rattle.type_text.specs.declared.error.ParseTypeError.{ParseTypeError}
use Rattle.type_text.specs.declared.error.PartError.{PartError}
use Rattle.type_text.specs.declared.error.PartError.TheVariants as part_errors
use Rattle.type_text.specs.TypeParser.{ParsesAs, FailsWith, IsErrorWithin, IsErrorOf, parsed_type, located}
use Rattle.type_text.specs.Representable.{IsRepresentable}
use Rattle.type_text.proofs.RoundTrip.{representable-round-trips}

pub refused : (len : ℕ) (stop : PartError) (e : ParseTypeError) (read : Result TypeTree SyntaxError) → IsErrorOf len stop e → FailsWith stop read → ParsesAs (Err e) (located len read)
refused len part_errors.Memory e read r h = subst (λ (x : ParseTypeError). ParsesAs (Err x) (located len read)) (sym r) tt
refused len (part_errors.Syntax (Unexpected left)) e read r h = subst (λ (x : ParseTypeError). ParsesAs (Err x) (located len read)) (sym r) (ap (located len) h)
refused len (part_errors.Syntax (TooDeep left)) e read r h = subst (λ (x : ParseTypeError). ParsesAs (Err x) (located len read)) (sym r) (ap (located len) h)

pub within-refused : (len : ℕ) (stop : PartError) (e : ParseTypeError) → IsErrorOf len stop e → IsErrorWithin len e
within-refused len part_errors.Memory e r = subst (IsErrorWithin len) (sym r) tt
within-refused len (part_errors.Syntax (Unexpected left)) e r = subst (IsErrorWithin len) (sym r) (omega arith)
within-refused len (part_errors.Syntax (TooDeep left)) e r = subst (IsErrorWithin len) (sym r) (omega arith)

-- a type that its text represents in full
pub representable-parsed : (r : Result DataType ParseTypeError) (bs : List ℕ) → ParsesAs r (parsed_type bs) → (t : TypeTree) → IsRepresentable 64 t → text_of_type t ≡ bs → ParsesAs r (Ok t)
representable-parsed r bs h t representable e = subst (ParsesAs r) (ap parsed_type (sym e) ∙ representable-round-trips t representable) h
