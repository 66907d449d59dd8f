use Rattle.std.proofs.Common.{◌≡◌, ◌+◌, ℕ, List, Option, map, sym, subst}
use Rattle.ipc.specs.Streams.{record_batch_of}
use Rattle.cli_write.specs.LineBuffers.{unread_bytes}
use Rattle.cli_write.specs.ImportStates.{ImportState, ReadsPrefix, FailsImport, spec_after_lines}
use Rattle.cli_write.specs.declared.import.error.ImportError.{ImportError}
use Rattle.nest_memory.specs.TypeOf.{field_of}
use Rattle.cli_write.proofs.ImportSteps.{more, stops-as, stops-read, stops-write}
use Rattle.cli_write.proofs.import.lines.import_batch.Goals as goal

pub returns-in-Err-clause-error : goal.returns-in-Err-clause-error
returns-in-Err-clause-error g c = λ form all start p.
    let fs = map field_of c.args.fields.now in
    let t = c.args.text.now in
    stops-as (spec_after_lines c.args.lines.now c.in-Err.error) c.after_lines.result fs form all c.after_lines.ensures
    (stops-read g.W.Write.contents c.in-Err.error fs form all start c.args.lines.now t.text.items t.is_over (g.R.Read.remaining t.reader) c.args.writer.now p c.in-Err.ensures.error c.requires.over)

pub returns-in-Err-written-clause-error : goal.returns-in-Err-written-clause-error
returns-in-Err-written-clause-error g c = λ form all start p.
    let fs = map field_of c.args.fields.now in
    let t = c.args.text.now in
    let taken = c.in-Ok.parsed in
    let reads = subst (λ bs. ReadsPrefix fs t.text.items t.is_over taken.used taken.lines (map record_batch_of bs)) (sym c.deref.ensures.value) c.in-Ok.ensures.rows in
    subst (λ (e : ImportError). FailsImport e fs form all) (sym c.from.ensures)
    (stops-write g.W.Write.contents c.in-Err-written.error fs form all start c.args.lines.now taken.used taken.lines t.text.items t.is_over (g.R.Read.remaining t.reader) (map record_batch_of c.deref.result.now) c.args.writer.now p reads c.requires.over c.in-Err-written.ensures.error)

pub returns-clause-on : goal.returns-clause-on
returns-clause-on g c = λ form all start p.
    let fs = map field_of c.args.fields.now in
    let t = c.args.text.now in
    let taken = c.in-Ok.parsed in
    let writer = c.write_batches-written.new.writer in
    let reads = subst (λ bs. ReadsPrefix fs t.text.items t.is_over taken.used taken.lines (map record_batch_of bs)) (sym c.deref.ensures.value) c.in-Ok.ensures.rows in
    let on = more g.W.Write.contents fs form all start c.args.lines.now taken.used taken.lines t.text.items t.is_over (g.R.Read.remaining t.reader) (map record_batch_of c.deref.result.now) c.args.writer.now writer p reads c.requires.over c.in_default.ensures.put in
    let sum : c.args.lines.now + taken.lines ≡ c.in-Some.sum = sym c.in-Some.ensures.1 in
    subst (λ (m : ℕ). ImportState g.W.Write.contents fs form all start m (unread_bytes g.R.Read.remaining c.consume.new.self) writer) sum (subst (λ (left : Option (List ℕ)). ImportState g.W.Write.contents fs form all start (c.args.lines.now + taken.lines) left writer) (sym c.consume.ensures.ahead) on)
