use Rattle.std.proofs.Common.{◌≡◌, ◌++◌, ℕ, rules, subst}
use Rattle.std.specs.Prelude.{ℤ, OnOk}
use Rattle.std.specs.Int.{w128, cast_signed, cast_unsigned, to_le_bytes}
use Rattle.ipc_arrays.proofs.fixed_width.I128FixedWidth.put.Goals as goal

pub returns-clause-ok : goal.returns-clause-ok
returns-clause-ok c =
    let same : cast_signed w128 (cast_unsigned w128 c.args.self) ≡ c.args.self = search rules in
    let number = subst (λ (z : ℤ). c.cast_unsigned.result ≡ cast_unsigned w128 z) same c.cast_unsigned.ensures in
    subst (λ (n : ℕ). OnOk c.write_u128.result (c.write_u128.new.out.items ≡ c.args.out.now.items ++ to_le_bytes w128 n)) number c.write_u128.ensures.ok
