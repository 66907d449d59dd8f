use Rattle.std.proofs.Common.{◌++◌, ◌∷◌, [], ap, sym, ◌∙◌, arith, length, length-append, append_assoc}
use Rattle.nest_memory.specs.Sublist.{sublist}
use Rattle.nest_concat.proofs.Grown.{cut-more}
use Rattle.nest_concat.proofs.bits.push_bits.Goals as goal

pub loop-i-preserved : goal.loop-i-preserved
loop-i-preserved c =
    let i = c.loop-i.i in
    let b = c.get_bit.result in
    let h = c.loop-i.invariant in
    let e = c.in_ok-push.ensures.ok in
    record {
      gathered =
          e
          ∙ ap (λ z. z ++ b ∷ []) h.gathered
          ∙ append_assoc c.args.taken.now (sublist c.args.bits.now c.args.start i) (b ∷ [])
          ∙ ap (λ z. c.args.taken.now ++ z) (sym (cut-more c.args.bits.now c.args.start i b (omega (arith, c.requires.within)) c.get_bit.ensures));
      long = omega (arith, ap length e, length-append c.loop-i.taken (b ∷ []), h.long);
    }
