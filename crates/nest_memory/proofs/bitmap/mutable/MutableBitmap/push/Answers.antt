use Rattle.std.proofs.Common.{◌++◌, [], ◌∷◌, ap, ◌∙◌, arith}
use Rattle.nest_memory.proofs.BitLists.{bits_pushed}
use Rattle.nest_memory.proofs.bitmap.mutable.MutableBitmap.push.Goals as goal

pub returns-clause-ok : goal.returns-clause-ok
returns-clause-ok c =
    bits_pushed _ _ _ _ c.set_bit.ensures.same (λ j lt. c.set_bit.ensures.other j (omega arith) ∙ c.make_room.ensures.keeps j lt)
    ∙ ap (λ xs. xs ++ c.args.value ∷ []) c.self.view_is
