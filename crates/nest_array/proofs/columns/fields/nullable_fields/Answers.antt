use Rattle.std.specs.Prelude.{map}
use Rattle.std.proofs.Common.{◌≡◌, length, sym, ◌∙◌, arith}
use Rattle.std.proofs.lemmas.List.{length-map}
use Rattle.nest_array.proofs.MadeFields.{fields-made}
use Rattle.nest_array.proofs.columns.fields.nullable_fields.Goals as goal

pub returns-clause-ok : goal.returns-clause-ok
returns-clause-ok c =
    let e : length c.loop-i.fields.items ≡ length c.args.names.now = omega (arith, c.loop-i.invariant.same_length) in
    let n = length-map c.args.names.now (λ n. n.now) in
    fields-made c.loop-i.fields.items (map (λ n. n.now) c.args.names.now) c.args.columns.now (e ∙ sym n) (n ∙ c.requires) (λ k f m d h. c.loop-i.invariant.done k f m d (omega (arith, c.loop-i.invariant.same_length)))
