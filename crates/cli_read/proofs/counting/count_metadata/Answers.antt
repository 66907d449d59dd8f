use Rattle.std.proofs.Common.{◌<◌, ◌∙◌, List, Some, Ok, Err, arith, get_or, length, refl, rules, subst, sym}
use Rattle.ipc_schema.specs.declared.footer.types.Block.{Block}
use Rattle.ipc.specs.Files.{no_block}
use Rattle.ipc_io.specs.FileMetadata.{block_rows_in}
use Rattle.ipc_io.specs.FileReaders.{DecodesAs, bytes_of}
use Rattle.cli_rows.specs.declared.error.CliError.{CliError}
use Rattle.cli_read.specs.CountSteps.{FailsToCountMetadata}
use Rattle.cli_read.proofs.Counted.{metadata-begun, metadata-fails, metadata-more}
use Rattle.cli_read.proofs.counting.count_metadata.Goals as goal

pub loop-k-init : goal.loop-k-init
loop-k-init g c = record {
  blocks = refl;
  small = omega arith;
  on = metadata-begun c.args.reader.blocks (bytes_of g.R.Seek.stream_position g.R.Seek.stream_bytes c.args.reader.inner);
}

pub returns-in-Err-clause-error : goal.returns-in-Err-clause-error
returns-in-Err-clause-error g c =
    let position = g.R.Seek.stream_position in
    let bytes = g.R.Seek.stream_bytes in
    let known = bytes_of position bytes in
    let l = c.loop-k in
    let r = c.args.reader in
    let lt : l.k < length r.blocks = omega (arith, c.loop-k-test.true, c.len-k-end.ensures, l.auto.k-end) in
    subst (λ (error : CliError). FailsToCountMetadata position bytes r (record { batch = Some l.k; error = error })) (sym c.from.ensures)
    (metadata-fails r.schema r.blocks l.k (known r.inner) (known l.reader.inner) l.rows c.in-Err.error l.invariant.on lt
    (subst (λ (bs : List Block). DecodesAs (λ xs rows. rows) (λ xs. block_rows_in xs (get_or bs l.k no_block)) (known l.reader.inner) (Err c.in-Err.error)) l.invariant.blocks c.in-Err.ensures.rows))

pub loop-k-preserved : goal.loop-k-preserved
loop-k-preserved g c =
    let known = bytes_of g.R.Seek.stream_position g.R.Seek.stream_bytes in
    let l = c.loop-k in
    let r = c.args.reader in
    let next = c.row_count.new.self in
    let lt : l.k < length r.blocks = omega (arith, c.loop-k-test.true, c.len-k-end.ensures, l.auto.k-end) in
    record {
      blocks = c.in-Ok.ensures.still.1 ∙ l.invariant.blocks;
      small = search rules;
      on = metadata-more r.blocks l.k (known r.inner) (known l.reader.inner) (known next.inner) l.rows _ c.in-Ok.more l.invariant.on lt
          (subst (λ (bs : List Block). DecodesAs (λ xs rows. rows) (λ xs. block_rows_in xs (get_or bs l.k no_block)) (known l.reader.inner) (Ok c.in-Ok.more)) l.invariant.blocks c.in-Ok.ensures.rows) c.in-Ok.ensures.still.2 refl;
    }
