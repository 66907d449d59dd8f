use Rattle.std.proofs.Common.{◌≡◌, ◌+◌, ◌++◌, ap, ◌∙◌, arith, replicate}
use Rattle.std.proofs.lemmas.Result.{err_from_is_err_and}
use Rattle.nest_memory.specs.Bits.{bits_from}
use Rattle.nest_memory.proofs.BitLists.{bits_same}
use Rattle.nest_memory.proofs.BitCounts.{bits_extended}
use Rattle.nest_memory.proofs.bitmap.mutable.MutableBitmap.extend_constant.Goals as goal

pub returns-in_err-extend_constant-clause-err : goal.returns-in_err-extend_constant-clause-err
returns-in_err-extend_constant-clause-err c =
    let p = err_from_is_err_and c.from_residual.result c.from_residual.ensures.1 in
    rw p.1 (bits_same _ _ _ c.extend_constant.ensures.keeps ∙ c.self.view_is)

pub returns-clause-ok : goal.returns-clause-ok
returns-clause-ok c =
    let len : c.in-Some.len ≡ c.self.inside.len + c.args.additional = omega arith in
    ap (bits_from c.extend_constant.new.bytes.items 0) len
    ∙ bits_extended _ _ _ _ _ c.in_ok-extend_constant.ensures.filled c.extend_constant.ensures.keeps
    ∙ ap (λ xs. xs ++ replicate c.args.additional c.args.value) c.self.view_is
