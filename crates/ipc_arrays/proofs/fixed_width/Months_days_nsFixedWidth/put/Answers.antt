use Rattle.std.proofs.Common.{◌≡◌, ◌++◌, rules, subst, ◌∙◌}
use Rattle.std.specs.Prelude.{ℤ, OnOk}
use Rattle.std.specs.Int.{w32, w64, cast_signed, cast_unsigned}
use Rattle.nest_memory.specs.Native.{signed}
use Rattle.ipc_arrays.specs.FixedWidth.{signed_format}
use Rattle.ipc_arrays.proofs.Arrays.{on_ok, write_two}
use Rattle.ipc_arrays.proofs.fixed_width.Months_days_nsFixedWidth.put.Goals as goal

pub returns-clause-ok : goal.returns-clause-ok
returns-clause-ok c =
    let months : cast_signed w32 (cast_unsigned w32 c.args.self.months) ≡ c.args.self.months = search rules in
    let days : cast_signed w32 (cast_unsigned w32 c.args.self.days) ≡ c.args.self.days = search rules in
    let ns : cast_signed w64 (cast_unsigned w64 c.args.self.ns) ≡ c.args.self.ns = search rules in
    let first = subst (λ (z : ℤ). c.put.new.out.items ≡ c.args.out.now.items ++ (signed_format w32).bytes (signed z)) months c.in_ok-put.ensures.ok in
    let second = subst (λ (z : ℤ). c.put-2.new.out.items ≡ c.put.new.out.items ++ (signed_format w32).bytes (signed z)) days c.in_ok-put-2.ensures.ok in
    let third = subst (λ (z : ℤ). OnOk c.put-3.result (c.put-3.new.out.items ≡ c.put-2.new.out.items ++ (signed_format w64).bytes (signed z))) ns c.put-3.ensures.ok in
    on_ok c.put-3.result third (λ e. e ∙ write_two c.put.new.out.items c.put-2.new.out.items _ _ second ∙ write_two c.args.out.now.items c.put.new.out.items _ _ first)
