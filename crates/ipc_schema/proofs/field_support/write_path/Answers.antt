use Rattle.std.proofs.Common.{rules, ◌≡◌, ◌∙◌, ℕ, length, sym, ap, arith}
use Rattle.std.proofs.Output.{has_written_append, has_written_of_eq}
use Rattle.ipc_schema.proofs.Supported.{path_of_last, path_next, path_done, path_starts}
use Rattle.ipc_schema.proofs.field_support.write_path.Goals as goal

pub loop-k-init : goal.loop-k-init
loop-k-init g c = rw (path_starts c.args.names.now) (search rules)

pub loop-k-preserved : goal.loop-k-preserved
loop-k-preserved g c plain =
    let names = c.args.names.now in
    let done = c.loop-k.invariant plain in
    let one = c.write_name.ensures done.plain (search rules) in
    has_written_of_eq _ _ _ _ _ (sym (path_next c.loop-k.k names _ c.loop-k-test.true)) (has_written_append _ _ _ _ _ _ done one)

pub returns : goal.returns
returns g c =
    let end : c.loop-k.k ≡ length c.args.names.now = omega (arith, c.loop-k-test.false, c.loop-k.auto.k-end) in
    λ plain ok. has_written_of_eq _ _ _ _ _ (ap (λ (k : ℕ). path_of_last k c.args.names.now) end ∙ path_done c.args.names.now) (c.loop-k.invariant plain)
