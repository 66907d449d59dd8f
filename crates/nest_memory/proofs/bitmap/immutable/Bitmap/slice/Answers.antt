use Rattle.std.proofs.Common.{◌≡◌, ◌+◌, ◌≤◌, arith, length, ap, subst, count_by, not, List, Bool, sym, ◌∙◌}
use Rattle.std.specs.Prelude.{IfSome}
use Rattle.nest_memory.specs.Bits.{bits_from}
use Rattle.nest_memory.specs.Sublist.{sublist}
use Rattle.nest_memory.proofs.BitLists.{bits_cut, bits_len}
use Rattle.nest_memory.proofs.bitmap.immutable.Bitmap.slice.Goals as goal

pub invariant_of-self : goal.invariant_of-self
invariant_of-self c =
    let b = c.self.inside in
    let within : c.args.offset + c.args.len ≤ b.len = omega (arith, bits_len b.bytes.value.items b.offset b.len, ap length c.self.view_is, c.requires) in
    let e : sublist c.args.self.now c.args.offset c.args.len ≡ bits_from b.bytes.value.items (b.offset + c.args.offset) c.args.len = ap (λ (xs : List Bool). sublist xs c.args.offset c.args.len) (sym c.self.view_is) ∙ bits_cut b.bytes.value.items b.offset b.len c.args.offset c.args.len within in
    let known = subst (λ (xs : List Bool). IfSome c.unset_of_part-self-inside.result (λ n. n ≡ count_by not xs)) e c.unset_of_part-self-inside.ensures in
    (omega (arith, within, c.self.invariant.0), (omega (arith, within, c.self.invariant.1.0), known))
