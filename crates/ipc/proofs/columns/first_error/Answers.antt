use Rattle.std.proofs.Common.{◌≡◌, true, false, sym, ◌∙◌, subst, rules}
use Rattle.nest_model.specs.Fits.{EachLen}
use Rattle.nest_array.specs.Seen.{layouts_of}
use Rattle.nest_array.proofs.MadeFields.{names-count, names-count-back}
use Rattle.ipc.proofs.columns.first_error.Goals as goal

pub returns-then-names-columns : goal.returns-then-names-columns
returns-then-names-columns c = λ e. c.if-names-columns.true (names-count-back c.args.names.now c.args.columns.now e)

pub returns-then-have_len : goal.returns-then-have_len
returns-then-have_len c =
    let cs = c.args.columns.now in
    let n = names-count c.args.names.now cs c.if-names-columns.false in
    let t : c.have_len.result ≡ true = search rules in
    (n, (subst (EachLen (layouts_of cs)) c.first_len.ensures (c.have_len.ensures.0 t), tt))

pub returns-else-have_len : goal.returns-else-have_len
returns-else-have_len c =
    let cs = c.args.columns.now in
    let n = names-count c.args.names.now cs c.if-names-columns.false in
    let f : c.have_len.result ≡ false = search rules in
    (n, λ e. let t : false ≡ true = sym f ∙ c.have_len.ensures.1 (subst (EachLen (layouts_of cs)) (sym c.first_len.ensures) e) in cc)
