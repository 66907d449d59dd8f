use Rattle.std.proofs.Common.{◌≡◌, ◌∙◌, List, sym, ◌+◌, ◌≤◌, length, ap, subst, arith, count_by, not, inl, inr}
use Rattle.std.specs.Prelude.{Option, IfSome, ℕ}
use Rattle.nest_memory.specs.Bits.{bits_from}
use Rattle.nest_memory.proofs.BitCounts.{unset_between, unset_kept}
use Rattle.nest_memory.proofs.BitLists.{bits_len}
use Rattle.nest_memory.proofs.bitmap.immutable.Bitmap.unset_of_part.Goals as goal
use Rattle.nest_memory.proofs.bitmap.immutable.Bitmap.unset_of_part.Goals.{then-unset-eq0-via-then-unset-eq0, then-unset-eq0-via-else-unset-eq0+then-len-self}

pub returns-then-unset-eq0 : goal.returns-then-unset-eq0
returns-then-unset-eq0 c =
    let b = c.self.inside in
    let within : c.args.offset + c.args.len ≤ b.len = omega (arith, bits_len b.bytes.value.items b.offset b.len, ap length c.self.view_is, c.requires) in
    let known = subst (λ (u : Option ℕ). IfSome u (λ n. n ≡ count_by not (bits_from b.bytes.value.items b.offset b.len))) c.in_ok-unset.was c.self.invariant.1.1 in
    elim c.then-unset-eq0.branch [
      | then-unset-eq0-via-then-unset-eq0 w ↦ unset_kept b.bytes.value.items c.args.self.now b.offset b.len c.args.offset c.args.len c.in_ok-unset.unset c.self.view_is within (inl w.if-unset-eq0.true) known
      | then-unset-eq0-via-else-unset-eq0+then-len-self w ↦ unset_kept b.bytes.value.items c.args.self.now b.offset b.len c.args.offset c.args.len c.in_ok-unset.unset c.self.view_is within (inr w.if-len-self.true) known
    ]

pub overflow_sub-result : goal.overflow_sub-result
overflow_sub-result c =
    let b = c.self.inside in
    let within : c.args.offset + c.args.len ≤ b.len = omega (arith, bits_len b.bytes.value.items b.offset b.len, ap length c.self.view_is, c.requires) in
    let known = subst (λ (u : Option ℕ). IfSome u (λ n. n ≡ count_by not (bits_from b.bytes.value.items b.offset b.len))) c.in_ok-unset.was c.self.invariant.1.1 in
    let bytes = c.as_slice-bytes.result.now in
    let s : bytes ≡ b.bytes.value.items = cc in
    let k = unset_between bytes c.args.self.now b.offset b.len c.args.offset c.args.len c.in_ok-unset.unset c.unset_bits-before.result c.unset_bits-after.result (ap (λ (xs : List ℕ). bits_from xs b.offset b.len) s ∙ c.self.view_is) within (known ∙ ap (λ (xs : List ℕ). count_by not (bits_from xs b.offset b.len)) (sym s)) c.unset_bits-before.ensures c.unset_bits-after.ensures in
    omega (arith, k.0)

pub overflow_sub-result-2 : goal.overflow_sub-result-2
overflow_sub-result-2 c =
    let b = c.self.inside in
    let within : c.args.offset + c.args.len ≤ b.len = omega (arith, bits_len b.bytes.value.items b.offset b.len, ap length c.self.view_is, c.requires) in
    let known = subst (λ (u : Option ℕ). IfSome u (λ n. n ≡ count_by not (bits_from b.bytes.value.items b.offset b.len))) c.in_ok-unset.was c.self.invariant.1.1 in
    let bytes = c.as_slice-bytes.result.now in
    let s : bytes ≡ b.bytes.value.items = cc in
    let k = unset_between bytes c.args.self.now b.offset b.len c.args.offset c.args.len c.in_ok-unset.unset c.unset_bits-before.result c.unset_bits-after.result (ap (λ (xs : List ℕ). bits_from xs b.offset b.len) s ∙ c.self.view_is) within (known ∙ ap (λ (xs : List ℕ). count_by not (bits_from xs b.offset b.len)) (sym s)) c.unset_bits-before.ensures c.unset_bits-after.ensures in
    omega (arith, k.0)

pub returns : goal.returns
returns c =
    let b = c.self.inside in
    let within : c.args.offset + c.args.len ≤ b.len = omega (arith, bits_len b.bytes.value.items b.offset b.len, ap length c.self.view_is, c.requires) in
    let known = subst (λ (u : Option ℕ). IfSome u (λ n. n ≡ count_by not (bits_from b.bytes.value.items b.offset b.len))) c.in_ok-unset.was c.self.invariant.1.1 in
    let bytes = c.as_slice-bytes.result.now in
    let s : bytes ≡ b.bytes.value.items = cc in
    let k = unset_between bytes c.args.self.now b.offset b.len c.args.offset c.args.len c.in_ok-unset.unset c.unset_bits-before.result c.unset_bits-after.result (ap (λ (xs : List ℕ). bits_from xs b.offset b.len) s ∙ c.self.view_is) within (known ∙ ap (λ (xs : List ℕ). count_by not (bits_from xs b.offset b.len)) (sym s)) c.unset_bits-before.ensures c.unset_bits-after.ensures in
    k.1
