-- Steps of importing lines.
use Rattle.std.specs.Prelude.{ℕ, List, [], Option, Result}
use Rattle.nest_memory.specs.TypeTree.{FieldTree}
use Rattle.cli_args.specs.declared.format.Format as formats
use Rattle.cli_write.specs.Imports.{Imports}
use Rattle.cli_write.specs.ImportStates.{FailsImport, ImportState, plain_schema}
use Rattle.cli_write.specs.LineBuffers.{unread_bytes}
use Rattle.cli_write.specs.Writers.{HasWritten}
use Rattle.cli_write.specs.declared.import.buffer.LineBuffer.{LineBuffer}
use Rattle.cli_write.specs.declared.import.error.ImportError.{ImportError}
use Rattle.cli_write.specs.declared.writer.BatchWriter.{BatchWriter}

module _ {W R : Type 0} (contents : W → Option (List ℕ)) (remaining : R → Option (List ℕ)) where
  -- from a state of importing a later one
  abbrev pub ImportsSome : List FieldTree → LineBuffer R → ℕ → BatchWriter W → LineBuffer R → ℕ → BatchWriter W → Type 0
  ImportsSome fs text lines writer new_text new_lines new_writer =
      (form : formats.Format) (all : Option (List ℕ)) (start : W) → ImportState contents fs form all start lines (unread_bytes remaining text) writer
      → ImportState contents fs form all start new_lines (unread_bytes remaining new_text) new_writer

  -- from a state of importing an error
  abbrev pub FailsToImport : List FieldTree → LineBuffer R → ℕ → BatchWriter W → ImportError → Type 0
  FailsToImport fs text lines writer e =
      (form : formats.Format) (all : Option (List ℕ)) (start : W) → ImportState contents fs form all start lines (unread_bytes remaining text) writer → FailsImport e fs form all

  -- from the first state of importing the one after so many lines
  abbrev pub ImportsAll : List FieldTree → LineBuffer R → BatchWriter W → LineBuffer R → BatchWriter W → ℕ → Type 0
  ImportsAll fs text writer new_text new_writer lines =
      (form : formats.Format) (all : Option (List ℕ)) (start : W) → ImportState contents fs form all start 0 (unread_bytes remaining text) writer
      → ImportState contents fs form all start lines (unread_bytes remaining new_text) new_writer

  -- from a writer without a record batch the complete output, or an error
  abbrev pub EndsImport : List FieldTree → LineBuffer R → BatchWriter W → Result W ImportError → Type 0
  EndsImport fs text writer result =
      (form : formats.Format) (start : W) → HasWritten contents form start (plain_schema fs) [] writer → Imports contents fs form (unread_bytes remaining text) start result
