use Rattle.std.proofs.Common.{◌∙◌, List, ℕ, ap, refl, subst, sym}
use Rattle.std.specs.List.Sorted.{IsPermutation}
use Rattle.ipc_schema.specs.Schemas.{SchemaModel}
use Rattle.cli_read.specs.Readers.{remaining_batches, reader_schema}
use Rattle.cli_read.proofs.Readers.{fresh}
use Rattle.cli_rows.specs.Tables.{table_of}
use Rattle.cli_read.specs.TakeStates.{HasTakenFrom}
use Rattle.cli_read.proofs.TakeSteps.{started, stops, takes, unplaced}
use Rattle.cli_read.proofs.by_index.rows.take_from_reader.Goals as goal

pub returns-in-Err-take_all-clause-error : goal.returns-in-Err-take_all-clause-error
returns-in-Err-take_all-clause-error g c =
    let t = remaining_batches g.R.Read.remaining g.R.Seek.stream_position g.R.Seek.stream_bytes c.args.reader in
    let s = reader_schema c.args.reader in
    let state = c.in-Ok.state in
    let start = started t s state (fresh g.R.Read.remaining g.R.Seek.stream_position g.R.Seek.stream_bytes c.args.reader) c.in-Ok.ensures.none in
    stops c.args.wanted.now state.wanted.items t s c.in-Err-take_all.error c.in-Ok.ensures.same (c.in-Err-take_all.ensures.error t s refl start)

pub finish-requires-clause-taken : goal.finish-requires-clause-taken
finish-requires-clause-taken g c =
    let t = remaining_batches g.R.Read.remaining g.R.Seek.stream_position g.R.Seek.stream_bytes c.args.reader in
    let s = reader_schema c.args.reader in
    let state = c.in-Ok.state in
    let start = started t s state (fresh g.R.Read.remaining g.R.Seek.stream_position g.R.Seek.stream_bytes c.args.reader) c.in-Ok.ensures.none in
    let has = c.in-Ok-take_all.ensures.taken t s refl start in
    (has.3.0, subst (λ (z : SchemaModel). HasTakenFrom z.fields has.3.0 c.take_all.new.state) (sym (c.schema.ensures ∙ c.in-Ok-take_all.ensures.schema)) has.3.2)

pub returns-in-Ok-finish-clause-rows : goal.returns-in-Ok-finish-clause-rows
returns-in-Ok-finish-clause-rows g c =
    let t = remaining_batches g.R.Read.remaining g.R.Seek.stream_position g.R.Seek.stream_bytes c.args.reader in
    let s = reader_schema c.args.reader in
    let state = c.in-Ok.state in
    let start = started t s state (fresh g.R.Read.remaining g.R.Seek.stream_position g.R.Seek.stream_bytes c.args.reader) c.in-Ok.ensures.none in
    let has = c.in-Ok-take_all.ensures.taken t s refl start in
    let held = table_of c.in-Ok-finish.table in
    let same = c.schema.ensures ∙ c.in-Ok-take_all.ensures.schema in
    takes c.args.wanted.now t s c.take_all.new.state held has (c.in-Ok-finish.ensures.schema ∙ same)
    (λ rows took. c.in-Ok-finish.ensures.rows rows (subst (λ (z : SchemaModel). HasTakenFrom z.fields rows c.take_all.new.state) (sym same) took))

pub returns-clause-error : goal.returns-clause-error
returns-clause-error g c =
    let t = remaining_batches g.R.Read.remaining g.R.Seek.stream_position g.R.Seek.stream_bytes c.args.reader in
    let s = reader_schema c.args.reader in
    let state = c.in-Ok.state in
    let start = started t s state (fresh g.R.Read.remaining g.R.Seek.stream_position g.R.Seek.stream_bytes c.args.reader) c.in-Ok.ensures.none in
    let has = c.in-Ok-take_all.ensures.taken t s refl start in
    let same = subst (λ (ps : List ℕ). IsPermutation c.args.wanted.now ps) (ap (λ v. v.items) (sym c.in-Ok-take_all.ensures.same)) c.in-Ok.ensures.same in
    unplaced c.args.wanted.now t s c.take_all.new.state c.in-Err-finish.error same has c.in-Err-finish.ensures.error
