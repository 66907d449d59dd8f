use Rattle.std.proofs.Common.{◌≡◌, ◌<◌, true, false, sym, ◌∙◌, subst, arith, rules}
use Rattle.nest_model.specs.Fits.{EachLen}
use Rattle.nest_model.specs.Layout.{count_layouts}
use Rattle.nest_array.specs.Seen.{layouts_of}
use Rattle.nest_array.proofs.Children.{layouts-count}
use Rattle.nest_array.proofs.MadeFields.{first-len, names-count, names-count-back}
use Rattle.nest_array.proofs.columns.first_error.Goals as goal

pub returns-then-names-columns : goal.returns-then-names-columns
returns-then-names-columns c = λ e. c.if-names-columns.true (names-count-back c.args.names.now c.args.columns.now e)

pub returns-then-have_len : goal.returns-then-have_len
returns-then-have_len c =
    let cs = c.args.columns.now in
    let n = names-count c.args.names.now cs c.if-names-columns.false in
    let p : 0 < count_layouts (layouts_of cs) = omega (arith, layouts-count cs, c.in-len1-up.len_at_least) in
    let t : c.have_len.result ≡ true = search rules in
    let l = c.len.ensures ∙ first-len cs c.first-item.result c.in-len1-up.len_at_least c.first-item.is in
    (n, (p, (subst (EachLen (layouts_of cs)) l (c.have_len.ensures.0 t), tt)))

pub returns-else-have_len : goal.returns-else-have_len
returns-else-have_len c =
    let cs = c.args.columns.now in
    let n = names-count c.args.names.now cs c.if-names-columns.false in
    let p : 0 < count_layouts (layouts_of cs) = omega (arith, layouts-count cs, c.in-len1-up.len_at_least) in
    let f : c.have_len.result ≡ false = search rules in
    let l = c.len.ensures ∙ first-len cs c.first-item.result c.in-len1-up.len_at_least c.first-item.is in
    (n, (p, λ e. let t : false ≡ true = sym f ∙ c.have_len.ensures.1 (subst (EachLen (layouts_of cs)) (sym l) e) in cc))
