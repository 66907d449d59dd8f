use Rattle.std.proofs.Common.{map, sym, subst, Err}
use Rattle.nest_memory.specs.TypeOf.{field_of}
use Rattle.cli_write.specs.Imports.{Imports}
use Rattle.cli_write.specs.LineBuffers.{unread_bytes}
use Rattle.cli_write.specs.declared.import.error.ImportError.{ImportError}
use Rattle.cli_write.proofs.ImportSteps.{begun, finished, stopped, unfinished}
use Rattle.cli_write.proofs.import.lines.import_lines.Goals as goal

pub returns-in-Err : goal.returns-in-Err
returns-in-Err g c = λ form start p.
    let fs = map field_of c.args.fields.now in
    let all = unread_bytes g.R.Read.remaining c.args.text in
    stopped g.W.Write.contents c.in-Err.error fs form all start (c.in-Err.ensures.error form all start (begun g.W.Write.contents fs form all start c.args.writer p))

pub returns-in-Ok : goal.returns-in-Ok
returns-in-Ok g c = λ form start p.
    let fs = map field_of c.args.fields.now in
    let all = unread_bytes g.R.Read.remaining c.args.text in
    finished g.W.Write.contents fs form all start c.in-Ok.end c.in_default.field-0 (unread_bytes g.R.Read.remaining c.import_all-imported.new.text) c.import_all-imported.new.writer
    (c.in_default.ensures.on form all start (begun g.W.Write.contents fs form all start c.args.writer p)) c.in_default.ensures.end c.in-Ok.ensures.put

pub returns-in-Err-finish : goal.returns-in-Err-finish
returns-in-Err-finish g c = λ form start p.
    let fs = map field_of c.args.fields.now in
    let all = unread_bytes g.R.Read.remaining c.args.text in
    subst (λ (e : ImportError). Imports g.W.Write.contents fs form all start (Err e)) (sym c.from.ensures)
    (unfinished g.W.Write.contents c.in-Err-finish.error fs form all start c.in_default.field-0 (unread_bytes g.R.Read.remaining c.import_all-imported.new.text) c.import_all-imported.new.writer
    (c.in_default.ensures.on form all start (begun g.W.Write.contents fs form all start c.args.writer p)) c.in-Err-finish.ensures.error)
