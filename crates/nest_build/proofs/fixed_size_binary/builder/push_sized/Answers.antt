use Rattle.std.specs.Option.{option_copied}
use Rattle.std.proofs.Common.{Err, ap, arith}
use Rattle.nest_build.proofs.FlatTrees.{grown-count}
use Rattle.nest_build.proofs.FixedTrees.{fixed-fits, fixed-refused, grown-bytes}
use Rattle.nest_build.proofs.fixed_size_binary.builder.push_sized.Goals as goal

pub returns-clause-unrefused : goal.returns-clause-unrefused
returns-clause-unrefused c =
    let a = c.args.values.now in
    let b = c.try_push.new.self in
    let l = grown-count a b _ c.len-len.result c.in_default.ensures.slots c.len-len.ensures (omega arith) in
    let m = grown-bytes a b _ c.byte_count-bytes.result c.in_default.ensures.slots c.in_default.ensures.same_type c.byte_count-bytes.ensures (omega arith) in
    fixed-fits a (option_copied c.args.item) c.known.ensures.fits c.known.ensures.kind (λ o. c.in_default.not-Err _ (c.try_push.ensures.size.1 o)) l m

pub returns-in-Err-clause-cause : goal.returns-in-Err-clause-cause
returns-in-Err-clause-cause c =
    fixed-refused c.args.values.now (option_copied c.args.item) c.in-Err.error c.known.ensures.fits c.known.ensures.kind c.in-Err.ensures.errors (λ e. c.in-Err.ensures.size.0 (ap Err e))
