use Rattle.std.proofs.Common.{refl, []}
use Rattle.cli_read.specs.Readers.{reader_schema}
use Rattle.cli_args.specs.RequestTrees.{selection_tree}
use Rattle.cli_write.proofs.CopySteps.{finished, stopped, unfinished}
use Rattle.cli_write.proofs.copier.copy_batches.Goals as goal

pub returns-in-Err : goal.returns-in-Err
returns-in-Err g c = λ form t start p.
    let d = selection_tree c.args.left in
    let s = reader_schema c.args.reader in
    stopped g.W.Write.contents form d s t start c.in-Err.error (c.in-Err.ensures.error form d s t start [] refl p)

pub returns : goal.returns
returns g c = λ form t start p.
    let d = selection_tree c.args.left in
    let s = reader_schema c.args.reader in
    finished g.W.Write.contents form d s t start c.in-Ok-finish.out c.in-Ok.k c.copy_all.new.writer c.in-Ok-finish.ensures.put (c.in-Ok.ensures.copied form d s t start [] refl p)

pub returns-in-Err-finish : goal.returns-in-Err-finish
returns-in-Err-finish g c = λ form t start p.
    let d = selection_tree c.args.left in
    let s = reader_schema c.args.reader in
    unfinished g.W.Write.contents form d s t start c.in-Ok.k c.copy_all.new.writer c.in-Err-finish.error c.in-Err-finish.ensures.error (c.in-Ok.ensures.copied form d s t start [] refl p)
