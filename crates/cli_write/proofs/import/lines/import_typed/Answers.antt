use Rattle.std.proofs.Common.{◌≡◌, List, ℕ, Option, Err, [], map, sym, subst}
use Rattle.ipc_schema.specs.Schemas.{SchemaModel, schema_of}
use Rattle.cli_write.specs.Writers.{HasWritten}
use Rattle.cli_write.specs.Imports.{Imports}
use Rattle.cli_write.specs.LineBuffers.{unread_bytes}
use Rattle.cli_write.specs.ImportStates.{IsLinesError, plain_schema}
use Rattle.cli_write.specs.declared.import.error.ImportError.{ImportError}
use Rattle.nest_memory.specs.TypeOf.{field_of}
use Rattle.cli_write.proofs.ImportSteps.{stopped, stops-begin, unread-none}
use Rattle.cli_write.proofs.import.lines.import_typed.Goals as goal

pub returns-in-Some : goal.returns-in-Some
returns-in-Some g c =
    let fs = (schema_of c.args.schema.now).fields in
    stopped g.W.Write.contents c.in-Some.error fs c.args.format (g.R.Read.remaining c.args.input) c.args.out
    (unread-none c.in-Some.error fs c.args.format (g.R.Read.remaining c.args.input) (subst (λ xs. IsLinesError c.in-Some.error (map field_of xs) []) c.deref.ensures.value c.in-Some.ensures))

pub returns-in-Err : goal.returns-in-Err
returns-in-Err g c =
    let s = schema_of c.args.schema.now in
    let all = g.R.Read.remaining c.args.input in
    subst (λ (e : ImportError). Imports g.W.Write.contents s.fields c.args.format all c.args.out (Err e)) (sym c.from.ensures)
    (stopped g.W.Write.contents _ s.fields c.args.format all c.args.out (stops-begin c.in-Err.error s c.args.format all c.requires.plain c.in-Err.ensures.error))

pub returns-in-Ok : goal.returns-in-Ok
returns-in-Ok g c =
    let whole : schema_of c.args.schema.now ≡ plain_schema (map field_of c.deref-in-Ok.result.now) = λ i. record { fields = map field_of (sym c.deref-in-Ok.ensures.value i); metadata = c.requires.plain i } in
    let begun = subst (λ (x : SchemaModel). HasWritten g.W.Write.contents c.args.format c.args.out x [] c.in-Ok.writer) whole c.in-Ok.ensures.begun in
    let done = c.import_lines.ensures c.args.format c.args.out begun in
    subst (λ (all : Option (List ℕ)). Imports g.W.Write.contents (map field_of c.args.schema.now.fields.items) c.args.format all c.args.out c.import_lines.result) c.new-text.ensures.ahead
    (subst (λ xs. Imports g.W.Write.contents (map field_of xs) c.args.format (unread_bytes g.R.Read.remaining c.new-text.result) c.args.out c.import_lines.result) c.deref-in-Ok.ensures.value done)
