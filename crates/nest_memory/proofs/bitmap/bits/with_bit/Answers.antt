use Rattle.std.proofs.Common.{ap, ◌∙◌, sym, nat_eq}
use Rattle.std.specs.Int.{w8}
use Rattle.std.proofs.lemmas.Nat.Bits.{bit_at_set_same, bit_at_set_other, bit_at_clear_same, bit_at_clear_other}
use Rattle.nest_memory.proofs.bitmap.bits.with_bit.Goals as goal

pub returns-then-value : goal.returns-then-value
returns-then-value c = record {
  same = ap (λ n. nat_eq n 1) (bit_at_set_same w8 c.args.byte c.args.k c.requires) ∙ sym c.if-value.true;
  other = λ i lt ne. bit_at_set_other w8 c.args.byte c.args.k c.requires i ne;
}

pub returns : goal.returns
returns c = record {
  same = ap (λ n. nat_eq n 1) (bit_at_clear_same w8 c.args.byte c.args.k c.requires) ∙ sym c.if-value.false;
  other = λ i lt ne. bit_at_clear_other w8 c.args.byte c.args.k c.requires i lt ne;
}
