use Rattle.std.proofs.Common.{List, ℕ, Option, map}
use Rattle.nest_memory.specs.TypeOf.{field_of}
use Rattle.cli_args.specs.declared.format.Format as forms
use Rattle.cli_write.specs.LineBuffers.{KnowsEnd, unread_bytes}
use Rattle.cli_write.specs.ImportStates.{ImportState}
use Rattle.cli_write.proofs.import.lines.import_all.Given as goal

abbrev pub invariant-loop-turn : goal.invariant-loop-turn
invariant-loop-turn g l =
    record {
      over : KnowsEnd g.R.Read.remaining l.text;
      on : (form : forms.Format) (all : Option (List ℕ)) (start : _) → ImportState g.W.Write.contents (map field_of l.fields) form all start 0 (unread_bytes g.R.Read.remaining l.fn.text) l.fn.writer → ImportState g.W.Write.contents (map field_of l.fields) form all start l.lines (unread_bytes g.R.Read.remaining l.text) l.writer;
    }
