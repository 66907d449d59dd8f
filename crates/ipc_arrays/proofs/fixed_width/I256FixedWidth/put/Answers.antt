use Rattle.std.proofs.Common.{◌≡◌, ◌++◌, rules, refl, subst, ◌∙◌}
use Rattle.std.specs.Prelude.{ℤ, OnOk}
use Rattle.std.specs.Int.{w128, cast_signed, cast_unsigned}
use Rattle.nest_memory.specs.Native.{signed, unsigned}
use Rattle.ipc_arrays.specs.FixedWidth.{signed_format}
use Rattle.ipc_arrays.specs.FixedWidthLaws.{ValueRoundTrips, round_trip_halves}
use Rattle.ipc_arrays.proofs.Arrays.{on_ok, write_two}
use Rattle.ipc_arrays.proofs.fixed_width.I256FixedWidth.put.Goals as goal

pub returns-clause-ok : goal.returns-clause-ok
returns-clause-ok c =
    let same : cast_signed w128 (cast_unsigned w128 c.args.self.high) ≡ c.args.self.high = search rules in
    let put = subst (λ (z : ℤ). OnOk c.put.result (c.put.new.out.items ≡ c.write_u128.new.out.items ++ (signed_format w128).bytes (signed z))) same c.put.ensures.ok in
    on_ok c.put.result put (λ e. e ∙ write_two c.args.out.now.items c.write_u128.new.out.items _ _ c.in_ok-write_u128.ensures.ok)

pub returns-clause-round_trips : goal.returns-clause-round_trips
returns-clause-round_trips c =
    let same : cast_signed w128 (cast_unsigned w128 c.args.self.high) ≡ c.args.self.high = search rules in
    round_trip_halves (signed c.args.self.high) (unsigned c.args.self.low) _ refl refl refl (subst (λ (z : ℤ). ValueRoundTrips (signed_format w128) (signed z)) same c.put.ensures.round_trips) c.write_u128.ensures.round_trips
