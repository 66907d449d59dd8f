use Rattle.std.proofs.Common.{refl, sym, ◌∙◌}
use Rattle.nest_array.proofs.RawKeys.{none-looked_at, keys-looked_at}
use Rattle.nest_array.proofs.dictionary.keys.are_in_range.Goals as goal

pub returns-then-null_count-len : goal.returns-then-null_count-len
returns-then-null_count-len g c =
    let all = sym c.null_count.ensures ∙ c.if-null_count-len.true ∙ c.len.ensures in
    (λ t. none-looked_at _ c.args.keys.now c.args.n c.known.ensures.kind all, λ f. refl)

pub returns : goal.returns
returns g c =
    keys-looked_at _ c.args.keys.now c.args.n _ c.known.ensures.kind (λ e. c.if-null_count-len.false (c.null_count.ensures ∙ e ∙ sym c.len.ensures)) c.each_names.ensures
