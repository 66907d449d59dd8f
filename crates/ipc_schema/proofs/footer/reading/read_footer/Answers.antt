use Rattle.std.proofs.Common.{◌-◌, ◌+◌, length, arith}
use Rattle.std.proofs.lemmas.Result.{IfOk-weaker, err_from_is_err_and}
use Rattle.ipc_schema.specs.Projections.{projection_of}
use Rattle.ipc_schema.specs.FooterLaws.{all_before_more}
use Rattle.ipc_schema.specs.FooterParts.{file_fails}
use Rattle.ipc_schema.proofs.footer.reading.read_footer.Goals as goal

pub returns-in_err-long-clause-footer : goal.returns-in_err-long-clause-footer
returns-in_err-long-clause-footer c =
    let p = err_from_is_err_and c.from_residual.result c.from_residual.ensures.1 in
    rw (p.1, p.2) (λ known. file_fails (projection_of c.args.columns) c.args.bytes.now c.in_err-long.field-0.0 c.in_err-long.ensures.value)

pub returns-clause-dictionaries : goal.returns-clause-dictionaries
returns-clause-dictionaries c =
    let n = length c.args.bytes.now in
    IfOk-weaker c.read_footer_at.result _ _ (λ f h. all_before_more (n - (10 + c.in_ok-long.long)) n f.dictionaries.items (omega arith) h) c.read_footer_at.ensures.dictionaries

pub returns-clause-batches : goal.returns-clause-batches
returns-clause-batches c =
    let n = length c.args.bytes.now in
    IfOk-weaker c.read_footer_at.result _ _ (λ f h. all_before_more (n - (10 + c.in_ok-long.long)) n f.batches.items (omega arith) h) c.read_footer_at.ensures.batches
